-- Pairs written into a slice one list after the other: what is written of two lists is what is written of both in a row. Skipping and
-- running out of room are truncated subtractions, so one law serves every step of the call.
use Prim.Native.Nat.{ℕ, zero, suc, ◌+◌, ◌-◌, ◌*◌, ◌/◌, ◌≤◌, ◌<◌}
use native.Mathlib.Nat.{add-zero, suc-sub-suc, sub-zero, zero-sub}
use native.Mathlib.Decide.{dec_lt}
use native.Mathlib.Omega.{arith}
use mathlib.Core.Path.{◌≡◌, refl, sym, ap, ap₂, ◌∙◌}
use mathlib.Core.List.{List, [], ◌∷◌, ◌++◌}
use lib.ListN.{length, take, drop, set, length-append, drop_of_length-le}
use lib.Seq.{sets, length-sets, length-take-le, take-nil, take_all}
use Rattle.euclid.specs.Chain.{Pair}
use Rattle.listing.specs.Replies.{codes}
use Rattle.listing.proofs.From.{length_codes}
use Rattle.listing.specs.Filling.{fitting, Written}

module _ {A : Type 0} where
  drop_append : (n : ℕ) (s t : List A) → drop n (s ++ t) ≡ drop n s ++ drop (n - length s) t
  drop_append n [] t = ap₂ ◌++◌ (sym (drop_of_length-le [] {i = n} (omega arith))) (ap (λ v. drop v t) (sym (sub-zero n)))
  drop_append zero (x ∷ s) t = ap (λ v. x ∷ s ++ drop v t) (sym (zero-sub (suc (length s))))
  drop_append (suc n) (x ∷ s) t = rw suc-sub-suc (drop_append n s t)

  take_append : (n : ℕ) (s t : List A) → take n (s ++ t) ≡ take n s ++ take (n - length s) t
  take_append n [] t = ap₂ ◌++◌ (sym (take-nil n)) (ap (λ v. take v t) (sym (sub-zero n)))
  take_append zero (x ∷ s) t = ap (λ v. take v t) (sym (zero-sub (suc (length s))))
  take_append (suc n) (x ∷ s) t = rw suc-sub-suc (ap (◌∷◌ x) (take_append n s t))

  sets_append : (l : List A) (i : ℕ) (s t : List A) → sets l i (s ++ t) ≡ sets (sets l i s) (i + length s) t
  sets_append l i [] t = ap (λ v. sets l v t) (sym (add-zero i))
  sets_append l i (x ∷ s) t = sets_append (set l i x) (suc i) s t ∙ ap (λ v. sets (sets (set l i x) (suc i) s) v t) (omega arith)

codes_append : (s t : List Pair) → codes (s ++ t) ≡ codes s ++ codes t
codes_append [] t = refl
codes_append (x ∷ s) t = ap (λ v. x.f ∷ x.g ∷ v) (codes_append s t)

-- Of n places, as many are taken as a list has, and the rest is left.
taken : {A : Type 0} (n : ℕ) (s : List A) → (length (take n s) ≤ n) × (n - length (take n s) ≡ n - length s)
taken n s = elim (dec_lt n (length s)) [
  | yes l ↦ let e = length-take-le n s (omega arith) in (omega arith, omega arith)
  | no l ↦ let e = ap length (take_all n s (omega arith)) in (omega arith, omega arith)
]

pub fitting_le : (list : List Pair) (skip : ℕ) (old : List ℕ) (done : ℕ) → length (fitting list skip old done) ≤ length old / 2 - done
fitting_le list skip old done = (taken (length old / 2 - done) (drop skip list)).0

pub same_length : {list : List Pair} {skip done all : ℕ} {old new : List ℕ} → Written list skip old done new all → length new ≡ length old
same_length w = ap length w.content ∙ simp length-sets

both_fit : {s : List Pair} {skip done half : ℕ} {old mid : List ℕ} (t : List Pair) → Written s skip old done mid half
    → fitting (s ++ t) skip old done ≡ fitting s skip old done ++ fitting t (skip - length s) mid half
both_fit {s} {skip} {done} {half} {old} {mid} t w =
    let left : length old / 2 - done - length (drop skip s) ≡ length mid / 2 - half =
    rw (same_length w, w.end) (omega (arith, (taken (length old / 2 - done) (drop skip s)).1)) in
    rw (drop_append skip s t, take_append (length old / 2 - done) (drop skip s) (drop (skip - length s) t), left)

pub joined : {s t : List Pair} {skip done half all : ℕ} {old mid new : List ℕ} → Written s skip old done mid half
    → Written t (skip - length s) mid half new all → Written (s ++ t) skip old done new all
joined {s} {t} {skip} {done} {half} {all} {old} {mid} v w =
    let first : List Pair = fitting s skip old done in
    let second : List Pair = fitting t (skip - length s) mid half in
    record {
      end = rw (both_fit t v, length-append) (omega (arith, v.end, w.end));
      content =
          rw (both_fit t v, codes_append first second, sets_append old (2 * done) (codes first) (codes second), length_codes first)
          (w.content
          ∙ ap₂ (λ (l : List ℕ) (i : ℕ). sets l i (codes second)) v.content (omega (arith, v.end)));
    }

-- Nothing is written of a list with all its pairs skipped, or with no room left.
module _ {list : List Pair} {skip done : ℕ} {old : List ℕ} where
  none : fitting list skip old done ≡ [] → Written list skip old done old done
  none e = record { end = rw e (sym (add-zero done)); content = rw e }

  pub skipped : length list ≤ skip → Written list skip old done old done
  skipped h = none (rw (drop_of_length-le list h) (take-nil (length old / 2 - done)))

  pub full : length old / 2 ≤ done → Written list skip old done old done
  full h = let e : length old / 2 - done ≡ 0 = omega arith in none (ap (λ v. take v (drop skip list)) e)

-- One pair.
pub one_written : (pair : Pair) (old : List ℕ) (done skip : ℕ) → skip ≤ 0 → done < length old / 2
    → Written (pair ∷ []) skip old done (set (set old (2 * done) pair.f) (2 * done + 1) pair.g) (done + 1)
one_written pair old done (suc skip) none room = absurd (omega arith)
one_written pair old done zero none room =
    let e : fitting (pair ∷ []) 0 old done ≡ pair ∷ [] = take_all (length old / 2 - done) (pair ∷ []) (omega arith) in
    record {
      end = rw e;
      content = rw e (ap (λ v. set (set old (2 * done) pair.f) v pair.g) (omega arith));
    }
