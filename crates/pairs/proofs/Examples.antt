-- Document 01's entries, computed from the definitions.
use Prim.Native.Nat.{ℕ}
use mathlib.Core.Path.{◌≡◌, refl}
use mathlib.Core.List.{[], ◌∷◌, map}
use lib.ListN.{length, get_or}
use Rattle.poly.specs.Code.{add, mul, scale}
use Rattle.pairs.specs.Words.{words_from}
use Rattle.pairs.specs.Sequences.{compositions, sequences, block}
use Rattle.euclid.specs.Chain.{Pair}
use Rattle.pairs.specs.Pairs.{turn, build, pairs}
use Rattle.pairs.proofs.Pairs.{length_pairs}

infix 90 ◌and◌
abbrev pub ◌and◌ : ℕ → ℕ → Pair
◌and◌ a b = record { f = a; g = b }

pub lengths : map (λ n. length (pairs n)) (1 ∷ 2 ∷ 3 ∷ 4 ∷ []) ≡ 0 ∷ 2 ∷ 10 ∷ 42 ∷ []
unfolding pairs sequences block compositions words_from
lengths = refl

pub degree_2 : pairs 2 ≡ 7 and 5 ∷ 5 and 7 ∷ []
unfolding pairs sequences block compositions words_from build turn add mul scale
degree_2 = refl

pub degree_3 : pairs 3 ≡ 11 and 9 ∷ 9 and 11 ∷ 15 and 13 ∷ 13 and 15 ∷ 13 and 9
    ∷ 9 and 13 ∷ 11 and 13 ∷ 13 and 11 ∷ 15 and 11 ∷ 11 and 15 ∷ []
unfolding pairs sequences block compositions words_from build turn add mul scale
degree_3 = refl

pub degree_4 : map (λ j. get_or (pairs 4) j (0 and 0)) (0 ∷ 41 ∷ []) ≡ 19 and 17 ∷ 19 and 25 ∷ []
unfolding pairs sequences block compositions words_from build turn add mul scale
degree_4 = refl

pub length_31 : length (pairs 31) ≡ 768614336404564650
length_31 = length_pairs 31
