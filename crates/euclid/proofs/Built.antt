-- Building back. Undoing the divisions of a chain gives the two codes again; and since division is unique, Euclid's algorithm on what was
-- built from quotients gives those quotients.
use mathlib.Core.List.{List, [], ◌∷◌}
use mathlib.Core.Path.{◌≡◌, refl, sym, ap, ap₂, ◌∙◌}
use Prim.Native.Nat.{ℕ, suc, ◌+◌, ◌^◌, ◌≤◌, ◌<◌}
use native.Mathlib.Nat
use native.Mathlib.Omega.{arith}
use Rattle.poly.specs.Code.{add, mul, degree, HasDegree}
use Rattle.poly.specs.Division.{HasInverses, divide}
use Rattle.poly.proofs.Digits.{p_pos}
use Rattle.poly.proofs.Blocks
use Rattle.poly.proofs.Leading
use Rattle.poly.proofs.Division
use Rattle.euclid.specs.Chain.{chain, Pair, back}
use Rattle.euclid.proofs.Chains

-- from the last divisor d, the quotients in the order of the divisions
abbrev pub built : ℕ → List ℕ → ℕ → Pair
built p [] d = record { f = d; g = 0 }
built p (q ∷ qs) d = back p q (built p qs d)

module _ (p : ℕ) (p2 : 2 ≤ p) (inverses : HasInverses p) where
  pub built_chain : (a b : ℕ) → built p (chain p a b).quotients (chain p a b).divisor ≡ record { f = a; g = b }
  built_chain =
      Chains.chain_ind p p2 inverses (λ a b c. built p c.quotients c.divisor ≡ record { f = a; g = b }) (λ a. refl)
      (λ a b rest pos ih. ap (back p (divide p a b).quotient) ih
      ∙ ap (λ (v : ℕ). record { f = v; g = b }) (Division.divide_divided p p2 inverses a b pos).sum)

  -- the second code has a lower degree than the first
  pub record Falling (two : Pair) : Type 0 where
    pub n : ℕ
    pub first : HasDegree p n two.f
    pub second : two.g < p ^ n

  pub falling : (qs : List ℕ) (d : ℕ) → 0 < d → Chains.Each (λ q. p ≤ q) qs → Falling (built p qs d)
  falling [] d pos h = record { n = degree p d; first = Leading.degree_has p p2 pos; second = Blocks.pow_pos p p2 (degree p d) }
  falling (q ∷ qs) d pos (hq, hqs) =
      let rest = falling qs d pos hqs in
      let q_pos : 0 < q = Nat.lt_of_lt_of_le (p_pos p p2) hq in
      let q_has = Leading.degree_has p p2 q_pos in
      let long : 0 < degree p q = Leading.degree_pos p p2 (degree p q) q_has hq in
      let n : ℕ = degree p q + rest.n in
      let up : p ^ suc rest.n ≤ p ^ n = Nat.pow-le-pow_right (p_pos p p2) (omega arith) in
      let same : p ^ rest.n ≤ p ^ n = Nat.pow-le-pow_right (p_pos p p2) (omega arith) in
      record {
        n = n;
        first =
            Leading.add_degree p p2 (Leading.mul_degree p p2 inverses q_has rest.first)
            (Nat.lt_of_lt_of_le rest.second same);
        second = Nat.lt_of_lt_of_le rest.first.high up;
      }

  -- one division more in front
  linked : (q : ℕ) (qs : List ℕ) (d : ℕ) → 0 < d → Chains.Each (λ q. p ≤ q) qs
      → chain p (built p qs d).f (built p qs d).g ≡ record { quotients = qs; divisor = d }
      → chain p (built p (q ∷ qs) d).f (built p (q ∷ qs) d).g ≡ record { quotients = q ∷ qs; divisor = d }
  linked q qs d pos h e =
      let two : Pair = built p qs d in
      let down = falling qs d pos h in
      let f_pos : 0 < two.f = Nat.lt_of_lt_of_le (Blocks.pow_pos p p2 down.n) down.first.low in
      let a : ℕ = add p (mul p q two.f) two.g in
      let divided : Division.Divided p down.n a two.f q two.g = record { sum = refl; small = down.second } in
      let (eq, er) = Division.divide_is p p2 inverses down.first divided in
      Chains.chain_step p p2 inverses a two.f f_pos
      ∙ ap₂ (λ (u v : ℕ). Chains.link u (chain p two.f v)) (sym eq) (sym er) ∙ ap (Chains.link q) e

  pub chain_built : (q : ℕ) (qs : List ℕ) (d : ℕ) → 0 < d → Chains.Each (λ q. p ≤ q) qs
      → chain p (built p (q ∷ qs) d).f (built p (q ∷ qs) d).g ≡ record { quotients = q ∷ qs; divisor = d }
  chain_built q [] d pos h = linked q [] d pos h (Chains.chain_zero p d)
  chain_built q (q' ∷ qs) d pos (h, hs) = linked q (q' ∷ qs) d pos (h, hs) (chain_built q' qs d pos hs)

  pub chain_of_built : (qs : List ℕ) (d : ℕ) → 0 < d → Chains.Each (λ q. p ≤ q) qs
      → chain p (built p qs d).f (built p qs d).g ≡ record { quotients = qs; divisor = d }
  chain_of_built [] d pos h = Chains.chain_zero p d
  chain_of_built (q ∷ qs) d pos (h, hs) = chain_built q qs d pos hs
