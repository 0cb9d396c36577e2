-- Sets of indices: how many members a set has, which is the first, and that the set of what passes a test in a list has its indices as
-- members. All by recursion over the bits, lowest first.
use Prim.Native.Nat.{ℕ, zero, suc, ◌+◌, ◌-◌, ◌*◌, ◌/◌, ◌%◌, ◌^◌, ◌≤◌, ◌<◌, min}
use native.Mathlib.Nat.{eq-zero-or-pos, pow-suc, pow-succ', add-zero, zero-add, add-suc, suc-add, mod-lt, div-one, div-div-eq-div-mul}
use native.Mathlib.Omega.{arith}
use mathlib.Core.Bool.{Bool, true, false, cond, ◌&&◌}
use mathlib.Core.List.Memᴰ
use mathlib.Core.List.{List, [], ◌∷◌, map, Memᴰ}
use mathlib.Core.Logic.{◌⊎◌, inl, inr}
use mathlib.Core.Path.{◌≡◌, refl, sym, ap, ap₂, ◌∙◌}
use lib.Arith.{digits_div, digits_mod}
use lib.Bits.{bit_and, and_step, and_self}
use lib.Count.{ones, ones_step, count_trailing_zeros}
use lib.Dec.{eqb}
use lib.ListN.{length, get_or}
use Rattle.loops.specs.Loops.{numbers, filter}
use Rattle.codes.specs.Sets.{set_of, members_from, members}

-- the lowest bit, and the rest
module _ (a m set : ℕ) where
  even_members : set % 2 ≡ 0 → members_from a (suc m) set ≡ members_from (suc a) m (set / 2)
  even_members e = rw e

  odd_members : set % 2 ≡ 1 → members_from a (suc m) set ≡ a ∷ members_from (suc a) m (set / 2)
  odd_members e = rw e

  module _ (b : Bool) where
    low : cond b 1 0 < 2
    low = go b
      where
        go : (b : Bool) → cond b 1 0 < 2
        go true = omega arith
        go false = omega arith

    cons_members : members_from a (suc m) (set * 2 + cond b 1 0) ≡ cond b (a ∷ members_from (suc a) m set) (members_from (suc a) m set)
    cons_members = rw (digits_mod set low, digits_div set low) (go b)
      where
        go : (b : Bool) → cond (eqb (cond b 1 0) 1) (a ∷ members_from (suc a) m set) (members_from (suc a) m set)
            ≡ cond b (a ∷ members_from (suc a) m set) (members_from (suc a) m set)
        go true = refl
        go false = refl

no_members : (a m : ℕ) → members_from a m 0 ≡ []
no_members a zero = refl
no_members a (suc m) = no_members (suc a) m

count_members : (a m set : ℕ) → set < 2 ^ m → length (members_from a m set) ≡ ones set
unfolding ones
count_members a zero set h = let e : set ≡ 0 = omega arith in rw e
count_members a (suc m) set h =
    let half : set / 2 < 2 ^ m = omega (arith, pow-suc 2 m) in
    go (set % 2) refl (mod-lt set (omega arith)) (count_members (suc a) m (set / 2) half)
  where
    go : (r : ℕ) → set % 2 ≡ r → r < 2 → length (members_from (suc a) m (set / 2)) ≡ ones (set / 2)
        → length (members_from a (suc m) set) ≡ ones set
    go zero e lt ih = ap length (even_members a m set e) ∙ (let s : _ = ones_step set in omega (arith, ih, e))
    go (suc zero) e lt ih = ap length (odd_members a m set e) ∙ (let s : _ = ones_step set in omega (arith, ih, e))
    go (suc (suc r)) e lt ih = absurd (omega arith)

-- The first member is the number of trailing zeros, and the others are those of the set without its lowest one.
first_member : (a m set : ℕ) → 0 < set → set < 2 ^ m
    → members_from a m set ≡ (a + count_trailing_zeros m set) ∷ members_from a m (bit_and set (set - 1))
unfolding count_trailing_zeros
first_member a zero set pos h = absurd (omega arith)
first_member a (suc m) set pos h =
    let half : set / 2 < 2 ^ m = omega (arith, pow-suc 2 m) in
    go (set % 2) refl (mod-lt set (omega arith)) (λ (some : 0 < set / 2). first_member (suc a) m (set / 2) some half)
  where
    rest : ℕ
    rest = bit_and (set / 2) (set / 2 - 1)

    Is : Type 0
    Is = members_from a (suc m) set ≡ (a + count_trailing_zeros (suc m) set) ∷ members_from a (suc m) (bit_and set (set - 1))

    go : (r : ℕ) → set % 2 ≡ r → r < 2
        → (0 < set / 2 → members_from (suc a) m (set / 2) ≡ (suc a + count_trailing_zeros m (set / 2)) ∷ members_from (suc a) m rest) → Is
    go zero e lt ih =
        let less : (set - 1) / 2 ≡ set / 2 - 1 = omega arith in
        let none : min 0 ((set - 1) % 2) ≡ 0 = omega arith in
        let cleared : bit_and set (set - 1) ≡ rest * 2 + cond false 1 0 = and_step set (set - 1) ∙ rw (less, e, none) in
        even_members a m set e ∙ ih (omega arith)
        ∙ rw (e, cleared, cons_members a m rest false, add-suc, suc-add)
    go (suc zero) e lt ih =
        let less : (set - 1) / 2 ≡ set / 2 = omega arith in
        let bit : (set - 1) % 2 ≡ 0 = omega arith in
        let cleared : bit_and set (set - 1) ≡ set / 2 * 2 + cond false 1 0 = and_step set (set - 1) ∙ rw (less, e, bit, and_self) in
        odd_members a m set e ∙ rw (e, cleared, cons_members a m (set / 2) false, add-zero)
    go (suc (suc r)) e lt ih = absurd (omega arith)

-- a member of a set that has b bits
member_lt : (a m b set : ℕ) → set < 2 ^ b → {k : ℕ} → Memᴰ k (members_from a m set) → k < a + b
member_lt a zero b set h k_in = absurd (Memᴰ.not-nil k_in)
member_lt a (suc m) zero set h k_in =
    let e : set ≡ 0 = omega arith in
    absurd (Memᴰ.not-nil (rw (e, no_members (suc a) m) at k_in))
member_lt a (suc m) (suc b) set h {k} k_in =
    let half : set / 2 < 2 ^ b = omega (arith, pow-suc 2 b) in
    go (set % 2) refl (mod-lt set (omega arith))
    (λ (l : Memᴰ k (members_from (suc a) m (set / 2))). member_lt (suc a) m b (set / 2) half l)
  where
    go : (r : ℕ) → set % 2 ≡ r → r < 2 → (Memᴰ k (members_from (suc a) m (set / 2)) → k < suc a + b) → k < a + suc b
    go zero e lt below = let l : k < suc a + b = below (rw (even_members a m set e) at k_in) in omega arith
    go (suc zero) e lt below = elim (Memᴰ.cases_cons (rw (odd_members a m set e) at k_in)) [
      | inl is ↦ omega arith
      | inr later ↦ let l : k < suc a + b = below later in omega arith
    ]
    go (suc (suc r)) e lt below = absurd (omega arith)

-- ---- the same of a set's members
module _ (set : ℕ) (fits : set < 2 ^ 32) where
  pub members_count : length (members set) ≡ ones set
  unfolding members
  members_count = count_members 0 32 set fits

  pub members_first : 0 < set → members set ≡ count_trailing_zeros 32 set ∷ members (bit_and set (set - 1))
  unfolding members
  members_first some = first_member 0 32 set some fits ∙ rw zero-add

pub members_none : members 0 ≡ []
unfolding members
members_none = refl

-- a set that has a member is not 0
pub members_some : (set j : ℕ) → j < length (members set) → 0 < set
members_some set j h = go (eq-zero-or-pos set)
  where
    go : (set ≡ 0) ⊎ (0 < set) → 0 < set
    go (inl e) = let none : j < 0 = rw (e, members_none) at h in absurd (omega arith)
    go (inr some) = some

pub members_lt : (b set : ℕ) → set < 2 ^ b → {k : ℕ} → Memᴰ k (members set) → k < b
unfolding members
members_lt b set h m = rw zero-add at (member_lt 0 32 b set h m)

pub set_lt : (test : ℕ → Bool) (xs : List ℕ) → set_of test xs < 2 ^ length xs
set_lt test [] = omega arith
set_lt test (x ∷ xs) = let ih : _ = set_lt test xs in omega (arith, pow-suc 2 (length xs), low 0 0 0 (test x))

-- A bit tells whether the entry at its place passes.
pub set_bit : (test : ℕ → Bool) (xs : List ℕ) (k : ℕ) → k < length xs → set_of test xs / 2 ^ k % 2 ≡ cond (test (get_or xs k 0)) 1 0
set_bit test [] k h = absurd (omega arith)
set_bit test (x ∷ xs) zero h =
    ap (λ (v : ℕ). v % 2) (div-one (set_of test (x ∷ xs))) ∙ digits_mod (set_of test xs) (low 0 0 0 (test x))
set_bit test (x ∷ xs) (suc k) h =
    let s : ℕ = set_of test (x ∷ xs) in
    ap (λ (v : ℕ). v % 2)
    (ap (λ (v : ℕ). s / v) (pow-succ' 2 k) ∙ sym (div-div-eq-div-mul s 2 (2 ^ k))
    ∙ ap (λ (v : ℕ). v / 2 ^ k) (digits_div (set_of test xs) (low 0 0 0 (test x))))
    ∙ set_bit test xs k (omega arith)

-- The set of what passes two tests.
pub set_both : (test other : ℕ → Bool) (xs : List ℕ) → bit_and (set_of test xs) (set_of other xs) ≡ set_of (λ x. test x && other x) xs
set_both test other [] = refl
set_both test other (x ∷ xs) =
    let s : ℕ = set_of test xs in
    let t : ℕ = set_of other xs in
    let b : Bool = test x in
    let c : Bool = other x in
    and_step (s * 2 + cond b 1 0) (t * 2 + cond c 1 0)
    ∙ rw (digits_div s (low 0 0 0 b), digits_div t (low 0 0 0 c), digits_mod s (low 0 0 0 b), digits_mod t (low 0 0 0 c))
    (ap₂ (λ (u v : ℕ). u * 2 + v) (set_both test other xs) (go b c))
  where
    go : (b c : Bool) → min (cond b 1 0) (cond c 1 0) ≡ cond (b && c) 1 0
    go true true = refl
    go true false = refl
    go false true = refl
    go false false = refl

-- What passes a test in a loop's list, from the members of its set.
module _ (at : ℕ → ℕ) (test : ℕ → Bool) where
  passing : (a m room : ℕ) → m ≤ room
      → map at (members_from a room (set_of test (map at (numbers a m)))) ≡ filter test (map at (numbers a m))
  passing a zero room h = ap (map at) (no_members a room)
  passing a (suc m) zero h = absurd (omega arith)
  passing a (suc m) (suc room) h =
      let s : ℕ = set_of test (map at (numbers (suc a) m)) in
      ap (map at) (cons_members a room s (test (at a))) ∙ go (test (at a)) (passing (suc a) m room (omega arith))
    where
      s : ℕ
      s = set_of test (map at (numbers (suc a) m))

      below : List ℕ
      below = filter test (map at (numbers (suc a) m))

      go : (b : Bool) → map at (members_from (suc a) room s) ≡ below
          → map at (cond b (a ∷ members_from (suc a) room s) (members_from (suc a) room s)) ≡ cond b (at a ∷ below) below
      go true ih = ap (◌∷◌ (at a)) ih
      go false ih = ih

  pub members_pass : (m : ℕ) → m ≤ 32 → map at (members (set_of test (map at (numbers 0 m)))) ≡ filter test (map at (numbers 0 m))
  unfolding members
  members_pass m h = passing 0 m 32 h
