-- The printed table of the counts of kept words: the closed form, tried at each of the 32 entries in one computation, holds of the number
-- of words too.
use mathlib.Core.Bool.{Bool}
use mathlib.Core.List.{List, [], ◌∷◌}
use mathlib.Core.Path.{◌≡◌}
use Prim.Native.Nat.{ℕ, ◌+◌, ◌*◌, ◌%◌, ◌^◌, ◌<◌}
use native.Mathlib.Omega.{arith}
use lib.Dec.{eqb, eqb→eq, ltb, ltb→lt}
use lib.ListN.{length, get_or}
use Rattle.loops.proofs.Entries.{entry}
use Rattle.pairs.specs.Words.{words}
use Rattle.pairs.proofs.Words.{words_closed}

unfoldable pub table : List ℕ
table =
    1 ∷ 0 ∷ 2 ∷ 2 ∷ 6 ∷ 10 ∷ 22 ∷ 42 ∷ 86 ∷ 170 ∷ 342 ∷ 682 ∷ 1366 ∷ 2730 ∷ 5462 ∷ 10922 ∷ 21846 ∷ 43690 ∷ 87382 ∷ 174762 ∷ 349526
    ∷ 699050 ∷ 1398102 ∷ 2796202 ∷ 5592406 ∷ 11184810 ∷ 22369622 ∷ 44739242 ∷ 89478486 ∷ 178956970 ∷ 357913942 ∷ 715827882 ∷ []

-- 3 x is 2^k + 2 for even k, 2^k - 2 for odd k
unfoldable closed : ℕ → ℕ → Bool
closed k x = eqb (3 * x + 4 * (k % 2)) (2 ^ k + 2)

pub right : (k : ℕ) → k < 32 → get_or table k 0 ≡ length (words k)
unfolding table closed
right k h =
    let tried : 3 * get_or table k 0 + 4 * (k % 2) ≡ 2 ^ k + 2 =
    eqb→eq (3 * get_or table k 0 + 4 * (k % 2)) (2 ^ k + 2) (entry closed table tt k h) in
    omega (arith, words_closed k)

pub small : (k : ℕ) → k < 32 → get_or table k 0 < 2 ^ 64
unfolding table
small k h = ltb→lt (get_or table k 0) (2 ^ 64) (entry (λ k x. ltb x (2 ^ 64)) table tt k h)
