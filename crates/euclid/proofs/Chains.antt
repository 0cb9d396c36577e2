-- The chain, one division at a time: what it is at (a, 0) and at (a, b), and what follows by induction over the divisions.
use mathlib.Core.Logic.{◌↔◌}
use mathlib.Core.List.{List, [], ◌∷◌}
use mathlib.Core.Path.{◌≡◌, refl, sym, ap, ap₂, ◌∙◌}
use Prim.Native.Nat.{ℕ, zero, suc, ◌+◌, ◌^◌, ◌≤◌, ◌<◌}
use native.Mathlib.Nat
use native.Mathlib.Decide.{le_ind, dec_lt}
use native.Mathlib.Omega.{arith}
use lib.ListN.{length}
use Rattle.poly.specs.Code.{add, mul, degree, HasDegree}
use Rattle.poly.specs.Division.{HasInverses, divide}
use Rattle.poly.specs.Coprime.{Coprime, gcd, gcd_in}
use Rattle.poly.proofs.Digits.{p_pos}
use Rattle.poly.proofs.Ring
use Rattle.poly.proofs.Blocks
use Rattle.poly.proofs.Leading
use Rattle.poly.proofs.Division
use Rattle.poly.proofs.Primes.{inverses_2}
use Rattle.poly.proofs.Binary.{add_again, leads_cancel, coprime_one}
use Rattle.euclid.specs.Chain.{Chain, chain, chain_in}

-- one division in front of a chain
abbrev pub link : ℕ → Chain → Chain
link q rest = record { quotients = q ∷ rest.quotients; divisor = rest.divisor }

-- what holds of each number of a list
abbrev pub Each : (ℕ → Type 0) → List ℕ → Type 0
Each P [] = Unit {0}
Each P (x ∷ xs) = P x × Each P xs

-- the sum of the degrees
abbrev pub degrees : ℕ → List ℕ → ℕ
degrees p [] = 0
degrees p (q ∷ qs) = degree p q + degrees p qs

divisor_in : (p k a b : ℕ) → (chain_in p k a b).divisor ≡ gcd_in p k a b
divisor_in p zero a b = refl
divisor_in p (suc k) a zero = refl
divisor_in p (suc k) a (suc b) = divisor_in p k (suc b) (divide p a (suc b)).remainder

pub chain_divisor : (p a b : ℕ) → (chain p a b).divisor ≡ gcd p a b
unfolding chain gcd
chain_divisor p a b = divisor_in p b a b

pub chain_zero : (p a : ℕ) → chain p a 0 ≡ record { quotients = []; divisor = a }
unfolding chain
chain_zero p a = refl

module _ (p : ℕ) (p2 : 2 ≤ p) (inverses : HasInverses p) where
  -- ---- one division
  rest_le : (a b : ℕ) {k : ℕ} → suc b ≤ suc k → (divide p a (suc b)).remainder ≤ k
  rest_le a b h = omega (arith, Division.remainder_lt p p2 inverses a (suc b) (omega arith))

  more : (k a b : ℕ) → b ≤ k → chain_in p (suc k) a b ≡ chain_in p k a b
  more zero a zero h = refl
  more zero a (suc b) h = absurd (omega arith)
  more (suc k) a zero h = refl
  more (suc k) a (suc b) h =
      ap (link (divide p a (suc b)).quotient) (more k (suc b) (divide p a (suc b)).remainder (rest_le a b h))

  pub chain_step : (a b : ℕ) → 0 < b → chain p a b ≡ link (divide p a b).quotient (chain p b (divide p a b).remainder)
  unfolding chain
  chain_step a zero h = absurd (omega arith)
  chain_step a (suc b) h =
      let r : ℕ = (divide p a (suc b)).remainder in
      ap (link (divide p a (suc b)).quotient)
      (le_ind (λ (k : ℕ). chain_in p k (suc b) r ≡ chain_in p r (suc b) r) refl (λ k l e. more k (suc b) r l ∙ e) b
      (rest_le a b (Nat.le_refl (suc b))))

  pub gcd_step : (a b : ℕ) → 0 < b → gcd p a b ≡ gcd p b (divide p a b).remainder
  gcd_step a b h =
      sym (chain_divisor p a b) ∙ ap (λ (c : Chain). c.divisor) (chain_step a b h) ∙ chain_divisor p b (divide p a b).remainder

  pub chain_ind {ℓ} : (P : ℕ → ℕ → Chain → Type ℓ) → ((a : ℕ) → P a 0 (record { quotients = []; divisor = a }))
      → ((a b : ℕ) (rest : Chain) → 0 < b → P b (divide p a b).remainder rest → P a b (link (divide p a b).quotient rest))
      → (a b : ℕ) → P a b (chain p a b)
  unfolding chain
  chain_ind P base next a b = go b a b (Nat.le_refl b)
    where
      go : (k a b : ℕ) → b ≤ k → P a b (chain_in p k a b)
      go zero a zero h = base a
      go zero a (suc b) h = absurd (omega arith)
      go (suc k) a zero h = base a
      go (suc k) a (suc b) h =
          let r : ℕ = (divide p a (suc b)).remainder in
          next a (suc b) (chain_in p k (suc b) r) (omega arith) (go k (suc b) r (rest_le a b h))

  -- ---- the count: remainders fall in degree
  lower : (b n : ℕ) → 0 < b → b < p ^ n → degree p b < n
  lower b zero pos h = let e : p ^ 0 ≡ 1 = Nat.pow-zero p in absurd (omega arith)
  lower b (suc n) pos h = Leading.degree_lt p p2 (suc n) h (omega arith)

  pub chain_length : (a b n : ℕ) → b < p ^ n → length (chain p a b).quotients ≤ n
  chain_length =
      chain_ind (λ a b c. (n : ℕ) → b < p ^ n → length c.quotients ≤ n) (λ a n h. omega arith)
      (λ a b rest pos ih n h.
      let le : length rest.quotients ≤ degree p b = ih (degree p b) (Division.divide_divided p p2 inverses a b pos).small in
      let lt : degree p b < n = lower b n pos h in
      omega arith)

  -- ---- from a dividend of higher degree on, each quotient has degree 1 or more, and degrees add up
  long_quotient : {n a b : ℕ} → HasDegree p n a → 0 < b → b < p ^ n → p ≤ (divide p a b).quotient
  long_quotient {n} {a} {b} ha pos h = go (dec_lt (divide p a b).quotient p)
    where
      q : ℕ
      q = (divide p a b).quotient

      go : Dec (q < p) → p ≤ q
      go (no l) = omega arith
      go (yes l) =
          let d = Division.divide_divided p p2 inverses a b pos in
          let lt : degree p b < n = lower b n pos h in
          let up : p ^ degree p b ≤ p ^ n = Nat.pow-le-pow_right (p_pos p p2) (Nat.le_of_lt lt) in
          let product : mul p q b < p ^ n = rw (Ring.mul_constant p p2 l b) (Blocks.scale_lt p p2 n q h) in
          let small : a < p ^ n = rw d.sum at (Blocks.add_lt p p2 n product (Nat.lt_of_lt_of_le d.small up)) in
          absurd (omega (arith, ha.low))

  quotient_degree : {n a b : ℕ} → HasDegree p n a → 0 < b → b < p ^ n → degree p (divide p a b).quotient + degree p b ≡ n
  quotient_degree {n} {a} {b} ha pos h =
      let q : ℕ = (divide p a b).quotient in
      let d = Division.divide_divided p p2 inverses a b pos in
      let q_pos : 0 < q = Nat.lt_of_lt_of_le (p_pos p p2) (long_quotient ha pos h) in
      let product = Leading.mul_degree p p2 inverses (Leading.degree_has p p2 q_pos) (Leading.degree_has p p2 pos) in
      let up : p ^ degree p b ≤ p ^ (degree p q + degree p b) = Nat.pow-le-pow_right (p_pos p p2) (omega arith) in
      Leading.degree_unique p p2
      (rw d.sum at (Leading.add_degree p p2 product (Nat.lt_of_lt_of_le d.small up))) ha

  pub later_quotients : (a b n : ℕ) → HasDegree p n a → b < p ^ n → Each (λ q. p ≤ q) (chain p a b).quotients
  later_quotients =
      chain_ind (λ a b c. (n : ℕ) → HasDegree p n a → b < p ^ n → Each (λ q. p ≤ q) c.quotients) (λ a n ha h. tt)
      (λ a b rest pos ih n ha h. (
        long_quotient ha pos h,
        ih (degree p b) (Leading.degree_has p p2 pos) (Division.divide_divided p p2 inverses a b pos).small,
      ))

  pub degrees_total : (a b n : ℕ) → HasDegree p n a → b < p ^ n → degrees p (chain p a b).quotients + degree p (chain p a b).divisor ≡ n
  degrees_total =
      chain_ind (λ a b c. (n : ℕ) → HasDegree p n a → b < p ^ n → degrees p c.quotients + degree p c.divisor ≡ n)
      (λ a n ha h. Nat.zero-add (degree p a) ∙ Leading.degree_is p p2 ha)
      (λ a b rest pos ih n ha h.
      let rest_total = ih (degree p b) (Leading.degree_has p p2 pos) (Division.divide_divided p p2 inverses a b pos).small in
      let first = quotient_degree ha pos h in
      omega arith)

-- ---- binary codes
pub first_quotient : {n f g : ℕ} → HasDegree 2 n f → HasDegree 2 n g → chain 2 f g ≡ link 1 (chain 2 g (add 2 f g))
first_quotient {n} {f} {g} hf hg =
    let sum : add 2 (mul 2 1 g) (add 2 f g) ≡ f =
    ap (λ (v : ℕ). add 2 v (add 2 f g)) (Ring.one_mul 2 (Nat.le_refl 2) g) ∙ add_again f g in
    let divided : Division.Divided 2 n f g 1 (add 2 f g) = record { sum = sum; small = leads_cancel hf hg } in
    let (eq, er) = Division.divide_is 2 (Nat.le_refl 2) inverses_2 hg divided in
    let pos : 0 < g = Nat.lt_of_lt_of_le (Blocks.pow_pos 2 (Nat.le_refl 2) n) hg.low in
    chain_step 2 (Nat.le_refl 2) inverses_2 f g pos ∙ ap₂ (λ (u v : ℕ). link u (chain 2 g v)) (sym eq) (sym er)

pub divisor_coprime : (f g : ℕ) → Coprime 2 f g ↔ ((chain 2 f g).divisor ≡ 1)
divisor_coprime f g = rw (chain_divisor 2 f g) (coprime_one f g)
