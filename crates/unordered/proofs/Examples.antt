-- Small second lists, computed from the definitions; what is refused at degree 31, where twice the greatest entries would not fit 64 bits.
use mathlib.Core.List.{[], ◌∷◌, map}
use mathlib.Core.Path.{◌≡◌, refl}
use Prim.Native.Nat.{◌-◌, ◌^◌}
use Rattle.reply.specs.Reply.{refused}
use Rattle.loops.specs.Loops.{numbers}
use Rattle.poly.specs.Code.{add, mul, scale}
use Rattle.poly.specs.Limits.{outside}
use Rattle.pairs.specs.Words.{words_from}
use Rattle.pairs.specs.Sequences.{compositions, sequences, block}
use Rattle.pairs.specs.Pairs.{turn, build, pairs}
use Rattle.pairs.proofs.Examples.{◌and◌}
use Rattle.unordered.specs.Unordered.{unordered_entry, unordered_length}
use Rattle.unordered.specs.Replies.{unordered_reply}

pub lengths : map unordered_length (1 ∷ 2 ∷ 3 ∷ 4 ∷ 31 ∷ []) ≡ 0 ∷ 1 ∷ 5 ∷ 21 ∷ 384307168202282325 ∷ []
lengths = refl

pub degree_2 : map (unordered_entry 2) (numbers 0 (unordered_length 2)) ≡ 7 and 5 ∷ []
unfolding pairs sequences block compositions words_from build turn add mul scale
degree_2 = refl

pub degree_3 : map (unordered_entry 3) (numbers 0 (unordered_length 3)) ≡ 11 and 9 ∷ 15 and 13 ∷ 13 and 9 ∷ 11 and 13 ∷ 15 and 11 ∷ []
unfolding pairs sequences block compositions words_from build turn add mul scale
degree_3 = refl

pub refusals : map (unordered_reply 31) (384307168202282325 ∷ (2 ^ 63) ∷ (2 ^ 64 - 1) ∷ []) ≡ refused 2 ∷ refused 2 ∷ refused 2 ∷ []
unfolding unordered_reply outside
refusals = refl
