-- `put_pattern` meets its contract: the line of site 2^m has a single one.
use mathlib.Core.Logic.{◌⊎◌, inl, inr}
use mathlib.Core.Path.{◌≡◌, sym, ap, ap₂, ◌∙◌}
use mathlib.Core.List.{List, [], ◌∷◌, map}
use Prim.Native.Nat.{ℕ, suc, ◌+◌, ◌-◌, ◌*◌, ◌/◌, ◌%◌, ◌^◌, ◌<◌}
use native.Mathlib.Nat.{le_refl, mod-lt, lt_of_lt_of_le}
use native.Mathlib.Omega.{arith}
use lib.ListN.{length, get_or}
use lib.Pow.{pow_pos, pow_mono}
use Rattle.poly.proofs.Shifts.{one_shl}
use Rattle.squares.specs.Doubling.{at_site, Fillable}
use Rattle.squares.specs.Symbols.{from_digits}
use Rattle.squares.specs.Lines.{parity}
use Rattle.squares.proofs.Binary.{site_parities, unit_line}
use Rattle.squares.proofs.Linear.{symbol_lt}
use Rattle.squares.proofs.put_pattern.Goals as goal

-- the symbols of code k at site 2^m, from its line; it is a byte
module _ {n m : ℕ} {codes : List ℕ} (given : Fillable n codes) (l : m < 2 * n) where
  unit : (k : ℕ) {x : ℕ} → k < length codes → x ≡ from_digits 2 n (parity (get_or codes k 0) (1 * 2 ^ (2 * n - 1 - m) % 2 ^ 64))
      → (x ≡ at_site n (get_or codes k 0) (2 ^ m)) × (x < 2 ^ 8)
  unit k {x} there e =
      let f_lt : get_or codes k 0 < 2 ^ suc n = given.small k there in
      let few : n < 7 = given.few in
      let place : 2 * n - 1 - m ≡ n + n - suc m = omega arith in
      let line : 1 * 2 ^ (2 * n - 1 - m) % 2 ^ 64 ≡ 2 ^ (n + n - suc m) =
      one_shl 64 (2 * n - 1 - m) (omega arith) ∙ ap (λ (v : ℕ). 2 ^ v) place in
      let is : x ≡ at_site n (get_or codes k 0) (2 ^ m) =
      rw line at e ∙ sym (site_parities n (2 ^ m) (2 ^ (n + n - suc m)) (omega arith) f_lt (unit_line n m (omega arith))) in (
        is,
        rw is
            (lt_of_lt_of_le (symbol_lt 2 (le_refl 2) n f_lt (2 ^ m / 2 ^ n) (mod-lt (2 ^ m) (pow_pos n)))
            (pow_mono {i = n} {j = 8} (omega arith))),
      )

  -- how many codes there are
  two : (0 < length codes) × (1 < length codes)
  two = go given.two_or_three
    where
      go : (length codes ≡ 2) ⊎ (length codes ≡ 3) → (0 < length codes) × (1 < length codes)
      go (inl e) = (omega arith, omega arith)
      go (inr e) = (omega arith, omega arith)

  three : (length codes ≡ 2 → ⊥) → length codes ≡ 3
  three ne = go given.two_or_three
    where
      go : (length codes ≡ 2) ⊎ (length codes ≡ 3) → length codes ≡ 3
      go (inl e) = absurd (ne e)
      go (inr e) = e

-- the list of what each of two codes has, or each of three
of_two : (h : ℕ → ℕ) (codes : List ℕ) → length codes ≡ 2 → {x y : ℕ} → x ≡ h (get_or codes 0 0) → y ≡ h (get_or codes 1 0)
    → x ∷ y ∷ [] ≡ map h codes
of_two h [] e ex ey = absurd (omega arith)
of_two h (a ∷ []) e ex ey = absurd (omega arith)
of_two h (a ∷ b ∷ []) e ex ey = ap₂ (λ (x y : ℕ). x ∷ y ∷ []) ex ey
of_two h (a ∷ b ∷ c ∷ codes) e ex ey = absurd (omega arith)

of_three : (h : ℕ → ℕ) (codes : List ℕ) → length codes ≡ 3 → {x y z : ℕ} → x ≡ h (get_or codes 0 0) → y ≡ h (get_or codes 1 0)
    → z ≡ h (get_or codes 2 0) → x ∷ y ∷ z ∷ [] ≡ map h codes
of_three h [] e ex ey ez = absurd (omega arith)
of_three h (a ∷ []) e ex ey ez = absurd (omega arith)
of_three h (a ∷ b ∷ []) e ex ey ez = absurd (omega arith)
of_three h (a ∷ b ∷ c ∷ []) e ex ey ez = ap₂ (λ (x : ℕ) (rest : List ℕ). x ∷ rest) ex (ap₂ (λ (y z : ℕ). y ∷ z ∷ []) ey ez)
of_three h (a ∷ b ∷ c ∷ d ∷ codes) e ex ey ez = absurd (omega arith)

pub overflow_cast-unit : goal.overflow_cast-unit
overflow_cast-unit c =
    let (given, l) = c.requires in
    record { fits = (unit given l 0 (two given l).0 c.symbols_of-unit.ensures.0).1 }

pub overflow_cast-unit-then-codes-eq2 : goal.overflow_cast-unit-then-codes-eq2
overflow_cast-unit-then-codes-eq2 c =
    let (given, l) = c.requires in
    record { fits = (unit given l 1 (two given l).1 c.symbols_of-unit.ensures.1).1 }

pub returns-then-codes-eq2 : goal.returns-then-codes-eq2
returns-then-codes-eq2 c =
    let (given, l) = c.requires in
    let symbols =
    of_two (λ (code : ℕ). at_site c.args.n code (2 ^ c.args.m)) c.args.codes.now c.if-codes-eq2.true
    (unit given l 0 (two given l).0 c.symbols_of-unit.ensures.0).0
    (unit given l 1 (two given l).1 c.symbols_of-unit.ensures.1).0 in
    rw (← symbols) c.put_twos.ensures

pub overflow_cast-unit-2 : goal.overflow_cast-unit-2
overflow_cast-unit-2 c =
    let (given, l) = c.requires in
    record { fits = (unit given l 0 (two given l).0 c.symbols_of-unit.ensures.0).1 }

pub overflow_cast-unit-3 : goal.overflow_cast-unit-3
overflow_cast-unit-3 c =
    let (given, l) = c.requires in
    record { fits = (unit given l 1 (two given l).1 c.symbols_of-unit.ensures.1).1 }

pub overflow_cast-third : goal.overflow_cast-third
overflow_cast-third c =
    let (given, l) = c.requires in
    record { fits = (unit given l 2 (omega (arith, three given l c.if-codes-eq2.false)) c.symbols_of-third.ensures.0).1 }

pub returns : goal.returns
returns c =
    let (given, l) = c.requires in
    let all = three given l c.if-codes-eq2.false in
    let symbols =
    of_three (λ (code : ℕ). at_site c.args.n code (2 ^ c.args.m)) c.args.codes.now all
    (unit given l 0 (two given l).0 c.symbols_of-unit.ensures.0).0
    (unit given l 1 (two given l).1 c.symbols_of-unit.ensures.1).0
    (unit given l 2 (omega (arith, all)) c.symbols_of-third.ensures.0).0 in
    rw (← symbols) c.put_threes.ensures
