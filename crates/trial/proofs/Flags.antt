-- What a test `if !r` tells, where the flag r denies b; and what the test of a range tells.
use mathlib.Core.Path.{◌≡◌, refl, sym, ◌∙◌}
use mathlib.Core.Bool.{Bool, true, false, not, true≢false}
use Prim.Native.Nat.{ℕ, ◌≤◌}
use borrow.Author.Tests.{not-true, not-false}
use Rattle.std.specs.Prelude.{IsTrue, ◌↔◌}
use Rattle.poly.specs.Limits.{outside}
use Rattle.poly.proofs.Ranges.{inside, within}

module _ (r b : Bool) (e : r ≡ not b) where
  pub denied : r ≡ false → b ≡ true
  denied h = not-false b (sym e ∙ h)

  pub upheld : r ≡ true → b ≡ false
  upheld h = not-true b (sym e ∙ h)

pub in_range : (low high n : ℕ) (r : Bool) → (IsTrue r ↔ ((low ≤ n) × (n ≤ high))) → r ≡ not (outside low high n)
in_range low high n true e = let range = e.0 refl in rw (inside low high range.0 range.1)
in_range low high n false e = go (outside low high n) refl
  where
    go : (b : Bool) → outside low high n ≡ b → false ≡ not (outside low high n)
    go true q = rw q
    go false q = let wrong : false ≡ true = e.1 (within low high q) in absurd (true≢false cc)
