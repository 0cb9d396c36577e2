-- What the call answers at the smallest degrees, computed from the definitions; and at others by the law.
use mathlib.Core.List.{[], ◌∷◌, map}
use mathlib.Core.Path.{◌≡◌, refl}
use native.Mathlib.Omega.{arith}
use Rattle.reply.specs.Reply.{served}
use Rattle.poly.specs.Code.{add, mul, scale, degree}
use Rattle.poly.specs.Division.{inverse, bring_down, divide}
use Rattle.poly.specs.Limits.{outside}
use Rattle.euclid.specs.Chain.{chain}
use Rattle.pairs.specs.Words.{words_from}
use Rattle.pairs.specs.Sequences.{compositions, sequences, block}
use Rattle.pairs.specs.Pairs.{turn, build, pairs}
use Rattle.pairs.proofs.Blocks.{block_size}
use Rattle.longest.specs.Longest.{quotients_at, longest_at}
use Rattle.longest.specs.Replies.{longest_reply}
use Rattle.longest.proofs.LastBlock.{fewer}
use Rattle.longest.proofs.Calls.{some_reach}

pub smallest : map longest_at (1 ∷ 2 ∷ 3 ∷ 4 ∷ []) ≡ [] ∷ (0 ∷ 1 ∷ []) ∷ (8 ∷ 9 ∷ []) ∷ (36 ∷ 37 ∷ 38 ∷ 39 ∷ 40 ∷ 41 ∷ []) ∷ []
unfolding longest_at quotients_at pairs sequences block compositions words_from build turn add mul scale chain divide bring_down inverse degree
smallest = refl

pub figures : (longest_reply 5 ≡ served (10 ∷ 160 ∷ []))
    × (longest_reply 6 ≡ served (22 ∷ 660 ∷ []))
    × (longest_reply 7 ≡ served (42 ∷ 2688 ∷ []))
    × (longest_reply 31 ≡ served (715827882 ∷ 768614335688736768 ∷ []))
unfolding outside fewer block_size
figures = (
  some_reach 5 refl (omega arith),
  some_reach 6 refl (omega arith),
  some_reach 7 refl (omega arith),
  some_reach 31 refl (omega arith),
)
