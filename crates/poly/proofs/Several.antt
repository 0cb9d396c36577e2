-- Several codes that passed, each taken by its place in their list: its own causes stand in front of those of the codes behind it, and its
-- common factors with them stand in front of theirs. So each has degree n and is odd, and any two at different places are coprime.
use mathlib.Core.List.{List, [], ◌∷◌, map}
use mathlib.Core.Path.{◌≡◌}
use Prim.Native.Nat.{ℕ, zero, suc, ◌%◌, ◌<◌}
use native.Mathlib.Decide.{dec_lt}
use native.Mathlib.Omega.{arith}
use borrow.Author.Tests.{eqb-true, not-false}
use lib.Dec.{eqb}
use lib.ListN.{length, get_or}
use Rattle.reply.proofs.Order.{NoneApplies, clear_left, clear_right}
use Rattle.poly.specs.Code.{HasDegree}
use Rattle.poly.specs.Coprime.{Coprime, gcd}
use Rattle.poly.specs.Causes.{code_causes, common_factor, own_causes, common_factors}
use Rattle.poly.proofs.Ranges.{passed_code}
use Rattle.poly.proofs.Binary.{coprime_one}

pub own_clear : (n : ℕ) (codes : List ℕ) → NoneApplies (own_causes n codes) → (k : ℕ) → k < length codes
    → NoneApplies (code_causes n (get_or codes k 0))
own_clear n [] c k l = absurd (omega arith)
own_clear n (code ∷ codes) c zero l = clear_left (code_causes n code) (own_causes n codes) c
own_clear n (code ∷ codes) c (suc k) l = own_clear n codes (clear_right (code_causes n code) (own_causes n codes) c) k (omega arith)

pub code_passed : (n : ℕ) (codes : List ℕ) → NoneApplies (own_causes n codes) → (k : ℕ) → k < length codes
    → HasDegree 2 n (get_or codes k 0) × (get_or codes k 0 % 2 ≡ 1)
code_passed n codes c k l = passed_code n (get_or codes k 0) (own_clear n codes c k l)

-- one code with each of several
with_each : (code : ℕ) (codes : List ℕ) → NoneApplies (map (common_factor code) codes) → (k : ℕ) → k < length codes
    → Coprime 2 code (get_or codes k 0)
with_each code [] c k l = absurd (omega arith)
with_each code (other ∷ codes) (e, c) zero l =
    (coprime_one code other).1 (eqb-true (gcd 2 code other) 1 (not-false (eqb (gcd 2 code other) 1) e))
with_each code (other ∷ codes) (e, c) (suc k) l = with_each code codes c k (omega arith)

in_order : (codes : List ℕ) → NoneApplies (common_factors codes) → (k l : ℕ) → k < l → l < length codes
    → Coprime 2 (get_or codes k 0) (get_or codes l 0)
in_order [] c k l less room = absurd (omega arith)
in_order (code ∷ codes) c k zero less room = absurd (omega arith)
in_order (code ∷ codes) c zero (suc l) less room =
    with_each code codes (clear_left (map (common_factor code) codes) (common_factors codes) c) l (omega arith)
in_order (code ∷ codes) c (suc k) (suc l) less room =
    in_order codes (clear_right (map (common_factor code) codes) (common_factors codes) c) k l (omega arith) (omega arith)

pub codes_coprime : (codes : List ℕ) → NoneApplies (common_factors codes) → (k l : ℕ) → k < length codes → l < length codes → (k ≡ l → ⊥)
    → Coprime 2 (get_or codes k 0) (get_or codes l 0)
codes_coprime codes c k l room room' other = elim (dec_lt k l) [
  | yes less ↦ in_order codes c k l less room'
  | no more ↦ elim (dec_lt l k) [
    | yes less ↦ λ d dk dl. in_order codes c l k less room d dl dk
    | no same ↦ absurd (other (omega arith))
  ]
]
