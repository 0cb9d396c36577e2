-- What a test of a number tells of document 01's causes: whether a degree is outside its range, and whether a code has degree n.
use mathlib.Core.Bool.{Bool, true, false, ◌||◌, or-true, true≢false}
use mathlib.Core.List.{List, [], ◌∷◌, ◌++◌}
use mathlib.Core.Path.{◌≡◌, refl, sym, ◌∙◌}
use Prim.Native.Nat.{ℕ, suc, ◌-◌, ◌%◌, ◌^◌, ◌≤◌, ◌<◌}
use native.Mathlib.Nat.{pow-le-pow_right}
use native.Mathlib.Decide.{dec_lt}
use native.Mathlib.Omega.{arith}
use lib.Dec.{leb, ltb, eqb, lit<}
use borrow.Author.Tests.{lt-ltb, le-ltb, le-leb, lt-leb, ltb-false, leb-false, eqb-false, ne_eqb}
use Rattle.poly.specs.Code.{HasDegree}
use Rattle.poly.specs.Limits.{outside, list_length}
use Rattle.poly.specs.Replies.{length_reply}
use Rattle.reply.specs.Reply.{Cause, served, refused, unless}
use Rattle.reply.proofs.Order.{NoneApplies, sole_served, sole_refused}
use Rattle.poly.specs.Causes.{degree_cause, off_degree, code_causes}

module _ (low high : ℕ) {n : ℕ} where
  pub outside_below : n < low → outside low high n ≡ true
  unfolding outside
  outside_below h = rw (lt-ltb n low h)

  pub outside_above : high < n → outside low high n ≡ true
  unfolding outside
  outside_above h = rw (lt-ltb high n h) (or-true (ltb n low))

  pub inside : low ≤ n → n ≤ high → outside low high n ≡ false
  unfolding outside
  inside l h = rw (le-ltb n low l, le-ltb high n h)

  pub within : outside low high n ≡ false → (low ≤ n) × (n ≤ high)
  unfolding outside
  within e = go (dec_lt n low) (dec_lt high n)
    where
      go : Dec (n < low) → Dec (high < n) → (low ≤ n) × (n ≤ high)
      go (yes l) d = absurd (true≢false (sym (outside_below l) ∙ e))
      go (no l) (yes h) = absurd (true≢false (sym (outside_above h) ∙ e))
      go (no l) (no h) = (omega arith, omega arith)

-- a degree that has sheets is a degree
pub sheets_inside : (n : ℕ) → outside 2 6 n ≡ false → outside 1 31 n ≡ false
sheets_inside n e = let (low, high) = within 2 6 e in inside 1 31 (omega arith) (omega arith)

pub on_degree : {n a : ℕ} → HasDegree 2 n a → off_degree n a ≡ false
unfolding off_degree
on_degree {n} {a} h = rw (le-ltb a (2 ^ n) h.low, lt-leb (2 ^ suc n) a h.high)

pub off_degree_lem : (n a : ℕ) → (HasDegree 2 n a → ⊥) → off_degree n a ≡ true
unfolding off_degree
off_degree_lem n a h = go (dec_lt a (2 ^ n)) (dec_lt a (2 ^ suc n))
  where
    go : Dec (a < 2 ^ n) → Dec (a < 2 ^ suc n) → (ltb a (2 ^ n) || leb (2 ^ suc n) a) ≡ true
    go (yes l) d = rw (lt-ltb a (2 ^ n) l)
    go (no l) (yes u) = absurd (h (record { low = omega arith; high = u }))
    go (no l) (no u) = rw (le-leb (2 ^ suc n) a (omega arith)) (or-true (ltb a (2 ^ n)))

-- ---- what is known of two tests, and of two codes, that passed
pub neither : (a b : Bool) → (a || b) ≡ false → (a ≡ false) × (b ≡ false)
neither true b e = absurd (true≢false e)
neither false b e = (refl, e)

has_degree : {n a : ℕ} → off_degree n a ≡ false → HasDegree 2 n a
unfolding off_degree
has_degree {n} {a} e =
    let (low, high) = neither (ltb a (2 ^ n)) (leb (2 ^ suc n) a) e in
    record { low = ltb-false a (2 ^ n) low; high = leb-false (2 ^ suc n) a high }

odd : (a : ℕ) → eqb (a % 2) 0 ≡ false → a % 2 ≡ 1
odd a e = let ne = eqb-false (a % 2) 0 e in omega arith

pub passed_code : (n code : ℕ) → NoneApplies (code_causes n code) → HasDegree 2 n code × (code % 2 ≡ 1)
unfolding code_causes
passed_code n code (degree, (constant, rest)) = (has_degree degree, odd code constant)

pub record Passed (n f g : ℕ) : Type 0 where
  pub degree_f : HasDegree 2 n f
  pub odd_f : f % 2 ≡ 1
  pub degree_g : HasDegree 2 n g
  pub odd_g : g % 2 ≡ 1

pub passed_codes : (n f g : ℕ) (more : List Cause) → NoneApplies (code_causes n f ++ code_causes n g ++ more) → Passed n f g
unfolding code_causes
passed_codes n f g more (df, (of, (dg, (og, rest)))) =
    record { degree_f = has_degree df; odd_f = odd f of; degree_g = has_degree dg; odd_g = odd g og }

not_even : (a : ℕ) → a % 2 ≡ 1 → eqb (a % 2) 0 ≡ false
not_even a e = ne_eqb (a % 2) 0 (λ z. omega arith)

pub code_passes : (n code : ℕ) (more : List Cause) → HasDegree 2 n code → code % 2 ≡ 1 → NoneApplies more
    → NoneApplies (code_causes n code ++ more)
unfolding code_causes
code_passes n code more degree constant rest = (on_degree degree, (not_even code constant, rest))

pub codes_pass : (n f g : ℕ) (more : List Cause) → Passed n f g → NoneApplies more → NoneApplies (code_causes n f ++ code_causes n g ++ more)
unfolding code_causes
codes_pass n f g more p rest =
    code_passes n f (code_causes n g ++ more) p.degree_f p.odd_f (code_passes n g more p.degree_g p.odd_g rest)

-- ---- a reply that the degree alone refuses
pub count_served : (n value : ℕ) {x : ℕ} → served (x ∷ []) ≡ unless (degree_cause n ∷ []) (served (value ∷ []))
    → (outside 1 31 n ≡ false) × (x ≡ value)
count_served n value h = let (inside, e) = sole_served (outside 1 31 n) 1 (served (value ∷ [])) h in (inside, cc)

pub count_refused : (n value : ℕ) {k : ℕ} → refused k ≡ unless (degree_cause n ∷ []) (served (value ∷ []))
    → (outside 1 31 n ≡ true) × (k ≡ 1)
count_refused n value h = sole_refused (outside 1 31 n) 1 (value ∷ []) h

pub length_served : (n : ℕ) {length : ℕ} → served (length ∷ []) ≡ length_reply n → (outside 1 31 n ≡ false) × (length ≡ list_length n)
length_served n = count_served n (list_length n)

pub length_refused : (n : ℕ) {k : ℕ} → refused k ≡ length_reply n → outside 1 31 n ≡ true
length_refused n e = (count_refused n (list_length n) e).0

pub list_length_lt : (n : ℕ) → n ≤ 31 → list_length n < 10 ^ 18
list_length_lt n h =
    let top : 4 ^ (n - 1) ≤ 4 ^ 30 = pow-le-pow_right (lit< tt) {i = n - 1} {j = 30} (omega arith) in
    omega arith
