-- What is shown of the test of two codes.
use Rattle.std.specs.Prelude.{true, ◌↔◌, ◌≡◌, ℕ, ◌≤◌, ◌<◌}
use Rattle.poly.specs.Division.{HasInverses}
use Rattle.poly.specs.Coprime.{Coprime}
use Rattle.codes.specs.Codes.{coprime}

-- Over any prime, two codes pass exactly if they are coprime; the first is not 0.
abbrev pub TestClaim : Type 0
TestClaim = (p : ℕ) → 2 ≤ p → HasInverses p → (f g : ℕ) → 0 < f → (coprime p f g ≡ true) ↔ Coprime p f g
