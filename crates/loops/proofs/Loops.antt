-- Loops as lists: how long a nested loop is and what stands at a place of it. Where all blocks have one length the place is found by
-- division, else by subtracting the lengths of the blocks before it.
use Prim.Native.Nat.{ℕ, zero, suc, ◌+◌, ◌-◌, ◌*◌, ◌/◌, ◌%◌, ◌≤◌, ◌<◌}
use native.Mathlib.Nat.{
  add-zero,
  add-suc,
  suc-add,
  suc-mul,
  zero-mul,
  mul-zero,
  zero-add,
  add_assoc,
  add_comm,
  le_refl,
  add-sub_of_le,
  add-sub_cancel_left,
  div-eq_of_lt,
  mod-eq_of_lt,
  div-eq-sub-div,
  mod-eq-sub-mod,
  div-lt_iff_lt-mul,
}
use native.Mathlib.Decide.{dec_lt}
use native.Mathlib.Omega.{arith}
use native.Mathlib.Numerals.{add-one}
use mathlib.Core.Path.{◌≡◌, refl, sym, ap, ◌∙◌}
use mathlib.Core.Bool.{Bool, true, false, cond}
use mathlib.Core.List.{List, [], ◌∷◌, ◌++◌, map, map-append}
use lib.ListN.{length, get_or, length-append, length-map, get_or-append}
use lib.Seq.{get_or-append-add}
use lib.Dec.{ltb}
use borrow.Author.Tests.{lt-ltb, le-ltb}
use Rattle.loops.specs.Loops.{numbers, each, filter}

-- A list of length m with `at j` at each place j; d is the default of `get_or`.
pub record Listed {A : Type 0} (xs : List A) (m : ℕ) (at : ℕ → A) (d : A) : Type 0 where
  pub long : length xs ≡ m
  pub stands : (j : ℕ) → j < m → get_or xs j d ≡ at j

pub listed_as : {A : Type 0} {xs : List A} {m : ℕ} {at : ℕ → A} {d : A} (at' : ℕ → A) → Listed xs m at d → ((j : ℕ) → j < m → at j ≡ at' j)
    → Listed xs m at' d
listed_as at' k same = record { long = k.long; stands = λ j h. k.stands j h ∙ same j h }

length_numbers : (a m : ℕ) → length (numbers a m) ≡ m
length_numbers a zero = refl
length_numbers a (suc m) = ap suc (length_numbers (suc a) m)

get_d_numbers : (a m i d : ℕ) → i < m → get_or (numbers a m) i d ≡ a + i
get_d_numbers a zero i d h = absurd (omega arith)
get_d_numbers a (suc m) zero d h = sym (add-zero a)
get_d_numbers a (suc m) (suc i) d h = get_d_numbers (suc a) m i d (omega arith) ∙ omega arith

pub listed_numbers : (a m : ℕ) → Listed (numbers a m) m (λ i. a + i) 0
listed_numbers a m = record { long = length_numbers a m; stands = λ i h. get_d_numbers a m i 0 h }

-- the numbers from a + b on, from those from b on
pub numbers_add : (a b m : ℕ) → numbers (a + b) m ≡ map (◌+◌ a) (numbers b m)
numbers_add a b zero = refl
numbers_add a b (suc m) =
    ap (◌∷◌ (a + b)) (ap (λ (c : ℕ). numbers c m) (sym (add-suc a b)) ∙ numbers_add a (suc b) m)

pub numbers_suc : (a m : ℕ) → numbers (suc a) m ≡ map suc (numbers a m)
numbers_suc a zero = refl
numbers_suc a (suc m) = ap (◌∷◌ (suc a)) (numbers_suc (suc a) m)

module _ {A B : Type 0} where
  -- In range, the default does not matter.
  pub get_d_map : (f : A → B) (xs : List A) (i : ℕ) (d : A) (e : B) → i < length xs → get_or (map f xs) i e ≡ f (get_or xs i d)
  get_d_map f [] i d e h = absurd (omega arith)
  get_d_map f (x ∷ xs) zero d e h = refl
  get_d_map f (x ∷ xs) (suc i) d e h = get_d_map f xs i d e (omega arith)

  pub listed_map : (f : A → B) (e : B) {xs : List A} {m : ℕ} {at : ℕ → A} {d : A} → Listed xs m at d → Listed (map f xs) m (λ i. f (at i)) e
  listed_map f e {xs} {m} {at} {d} k = record {
    long = simp (length-map, k.long);
    stands = λ i h. get_d_map f xs i d e (rw k.long h) ∙ ap f (k.stands i h);
  }

  pub filter_map : (test : B → Bool) (g : A → B) (xs : List A) → filter test (map g xs) ≡ map g (filter (λ x. test (g x)) xs)
  filter_map test g [] = refl
  filter_map test g (x ∷ xs) = go (test (g x)) (filter test (map g xs)) (filter (λ x. test (g x)) xs) (filter_map test g xs)
    where
      go : (t : Bool) (s : List B) (r : List A) → s ≡ map g r → cond t (g x ∷ s) s ≡ map g (cond t (x ∷ r) r)
      go true s r ih = ap (◌∷◌ (g x)) ih
      go false s r ih = ih

module _ {A : Type 0} where
  pub filter_append : (test : A → Bool) (s t : List A) → filter test (s ++ t) ≡ filter test s ++ filter test t
  filter_append test [] t = refl
  filter_append test (x ∷ s) t = go (test x) (filter test (s ++ t)) (filter test s) (filter_append test s t)
    where
      go : (b : Bool) (u r : List A) → u ≡ r ++ filter test t → cond b (x ∷ u) u ≡ cond b (x ∷ r) r ++ filter test t
      go true u r ih = ap (◌∷◌ x) ih
      go false u r ih = ih

  get_d_append_right : (s t : List A) (i : ℕ) (d : A) → length s ≤ i → get_or (s ++ t) i d ≡ get_or t (i - length s) d
  get_d_append_right s t i d h = ap (λ v. get_or (s ++ t) v d) (sym (add-sub_of_le h)) ∙ get_or-append-add s t (i - length s) d

  pub listed_append : {s t : List A} {m n : ℕ} {a b : ℕ → A} {d : A} → Listed s m a d → Listed t n b d
      → Listed (s ++ t) (m + n) (λ i. cond (ltb i m) (a i) (b (i - m))) d
  listed_append {s} {t} {m} {n} {a} {b} {d} k l = record {
    long = simp (length-append, k.long, l.long);
    stands = λ i h. elim (dec_lt i m) [
      | yes left ↦ rw (lt-ltb i m left, get_or-append s t d i (rw k.long left)) (k.stands i left)
      | no right ↦ rw (le-ltb i m (omega arith), get_d_append_right s t i d (rw k.long (omega arith)), k.long)
          (l.stands (i - m) (omega arith))
    ];
  }

-- What is sought stands at this place of the list; d is the default of `get_or`.
pub record Sought {A : Type 0} (xs : List A) (d : A) (place : ℕ) (x : A) : Type 0 where
  pub inside : place < length xs
  pub is : get_or xs place d ≡ x

-- It stands in the first of two lists, or in the second.
module _ {A : Type 0} {xs : List A} {d x : A} {place : ℕ} (s t : List A) (split : xs ≡ s ++ t) (sought : Sought xs d place x) where
  pub sought_first : place < length s → get_or s place d ≡ x
  sought_first h = sym (get_or-append s t d place h) ∙ ap (λ (l : List A). get_or l place d) (sym split) ∙ sought.is

  pub sought_second : length s ≤ place → Sought t d (place - length s) x
  sought_second h =
      let all : place < length s + length t = rw (split, length-append) at sought.inside in
      record {
        inside = omega arith;
        is = sym (get_d_append_right s t place d h) ∙ ap (λ (l : List A). get_or l place d) (sym split) ∙ sought.is;
      }

module _ {A B C : Type 0} where
  pub each_map : (f : B → List C) (g : A → B) (xs : List A) → each (map g xs) f ≡ each xs (λ x. f (g x))
  each_map f g [] = refl
  each_map f g (x ∷ xs) = ap (λ t. f (g x) ++ t) (each_map f g xs)

  pub map_each : (g : B → C) (f : A → List B) (xs : List A) → map g (each xs f) ≡ each xs (λ x. map g (f x))
  map_each g f [] = refl
  map_each g f (x ∷ xs) = map-append g (f x) (each xs f) ∙ ap (λ t. map g (f x) ++ t) (map_each g f xs)

-- The lengths of all blocks, together.
abbrev pub total : {A : Type 0} → (A → ℕ) → List A → ℕ
total size [] = 0
total size (x ∷ xs) = size x + total size xs

module _ {A B : Type 0} where
  pub length_total : (f : A → List B) (xs : List A) → length (each xs f) ≡ total (λ x. length (f x)) xs
  length_total f [] = refl
  length_total f (x ∷ xs) = length-append (f x) (each xs f) ∙ ap (λ (m : ℕ). length (f x) + m) (length_total f xs)

pub factor_pos : (a j m : ℕ) → j < a * m → 0 < m
factor_pos a j zero h = absurd (omega (arith, mul-zero a))
factor_pos a j (suc m) h = omega arith

-- Blocks of one length.
module _ {A B : Type 0} (f : A → List B) (m : ℕ) (g : A → ℕ → B) (e : B) (same : (x : A) → Listed (f x) m (g x) e) where
  length_each : (xs : List A) → length (each xs f) ≡ length xs * m
  length_each [] = sym (zero-mul m)
  length_each (x ∷ xs) = rw (length-append, (same x).long, length_each xs, suc-mul, add_comm m)

  get_d_each : (xs : List A) (j : ℕ) (d : A) → j < length xs * m → get_or (each xs f) j e ≡ g (get_or xs (j / m) d) (j % m)
  get_d_each [] j d h = absurd (omega (arith, zero-mul m))
  get_d_each (x ∷ xs) j d h = elim (dec_lt j m) [
    | yes a ↦ rw (div-eq_of_lt a, mod-eq_of_lt a, get_or-append (f x) (each xs f) e j (rw (same x).long a)) ((same x).stands j a)
    | no b ↦ let a : m ≤ j = omega arith in let pos : 0 < m = factor_pos (suc (length xs)) j m h in
        rw (div-eq-sub-div pos a, mod-eq-sub-mod a, add-one, get_d_append_right (f x) (each xs f) j e (rw (same x).long a), (same x).long)
        (get_d_each xs (j - m) d (omega (arith, suc-mul (length xs) m)))
  ]

  pub listed_each : {xs : List A} {n : ℕ} {at : ℕ → A} {d : A} → Listed xs n at d
      → Listed (each xs f) (n * m) (λ j. g (at (j / m)) (j % m)) e
  listed_each {xs} {n} {at} {d} k = record {
    long = rw (length_each, k.long);
    stands = λ j h. rw (get_d_each xs j d (rw k.long h), k.stands (j / m) ((div-lt_iff_lt-mul (factor_pos n j m h)).1 h));
  }

-- The lengths of i blocks from block a on, together.
abbrev pub before : (ℕ → ℕ) → ℕ → ℕ → ℕ
before size a i = total size (numbers a i)

-- What stands at place j of m blocks from block a on, where `at k` says what stands in block k; e behind them all.
abbrev pub seek : {B : Type 0} → (ℕ → ℕ) → (ℕ → ℕ → B) → B → ℕ → ℕ → ℕ → B
seek size at e a zero j = e
seek {B} size at e a (suc m) j =
    let here : B = at a j in
    let later : B = seek size at e (suc a) m (j - size a) in
    cond (ltb j (size a)) here later

-- Where place j lies: in block a + i, at r.
pub record Place (size : ℕ → ℕ) (a m j : ℕ) : Type 0 where
  pub i : ℕ
  pub r : ℕ
  pub block_in : i < m
  pub in_block : r < size (a + i)
  pub is : before size a i + r ≡ j

module _ (size : ℕ → ℕ) where
  pub place : (a m j : ℕ) → j < before size a m → Place size a m j
  place a zero j h = absurd (omega arith)
  place a (suc m) j h = elim (dec_lt j (size a)) [
    | yes l ↦ record { i = 0; r = j; block_in = omega arith; in_block = rw add-zero l; is = zero-add j }
    | no l ↦ let le : size a ≤ j = omega arith in go le (place (suc a) m (j - size a) (omega arith))
  ]
    where
      go : size a ≤ j → Place size (suc a) m (j - size a) → Place size a (suc m) j
      go le p = record {
        i = suc p.i;
        r = p.r;
        block_in = omega arith;
        in_block = rw (add-suc, ← suc-add) p.in_block;
        is = omega arith;
      }

  pub before_next : (a i : ℕ) → before size a (suc i) ≡ before size a i + size (a + i)
  before_next a zero = omega (arith, ap size (add-zero a))
  before_next a (suc i) = rw (add-suc, ← suc-add) (let ih : _ = before_next (suc a) i in omega arith)

  pub block_le : (a m i : ℕ) → i < m → size (a + i) ≤ before size a m
  block_le a zero i h = absurd (omega arith)
  block_le a (suc m) zero h = rw add-zero (omega arith)
  block_le a (suc m) (suc i) h = rw (add-suc, ← suc-add) (let ih : _ = block_le (suc a) m i (omega arith) in omega arith)

  pub before_lt : (a m i r : ℕ) → i < m → r < size (a + i) → before size a i + r < before size a m
  before_lt a zero i r h k = absurd (omega arith)
  before_lt a (suc m) zero r h k = let l : r < size a = rw add-zero at k in omega arith
  before_lt a (suc m) (suc i) r h k =
      let ih : _ = before_lt (suc a) m i r (omega arith) (rw (add-suc, ← suc-add) at k) in
      omega arith

  module _ {B : Type 0} (at : ℕ → ℕ → B) (e : B) where
    pub seek_before : (a m i r : ℕ) → i < m → r < size (a + i) → seek size at e a m (before size a i + r) ≡ at (a + i) r
    seek_before a zero i r h k = absurd (omega arith)
    seek_before a (suc m) zero r h k = let l : r < size a = rw add-zero at k in rw (zero-add, lt-ltb r (size a) l, add-zero)
    seek_before a (suc m) (suc i) r h k =
        let k' : r < size (suc a + i) = rw (add-suc, ← suc-add) at k in
        rw (le-ltb (size a + before size (suc a) i + r) (size a) (omega arith), add_assoc, add-sub_cancel_left, add-suc, ← suc-add)
        (seek_before (suc a) m i r (omega arith) k')

    pub listed_blocks : (f : ℕ → List B) → ((k : ℕ) → Listed (f k) (size k) (at k) e)
        → (a m : ℕ) → Listed (each (numbers a m) f) (before size a m) (seek size at e a m) e
    listed_blocks f k a zero = record { long = refl; stands = λ j h. refl }
    listed_blocks f k a (suc m) = listed_append (k a) (listed_blocks f k (suc a) m)

  -- A function of what stands at a place.
  pub seek_map : {B C : Type 0} (f : B → C) (at : ℕ → ℕ → B) (at' : ℕ → ℕ → C) (e : B) (e' : C) (a m j : ℕ)
      → ((k r : ℕ) → a ≤ k → r < size k → f (at k r) ≡ at' k r) → j < before size a m → f (seek size at e a m j) ≡ seek size at' e' a m j
  seek_map f at at' e e' a zero j same h = absurd (omega arith)
  seek_map f at at' e e' a (suc m) j same h = elim (dec_lt j (size a)) [
    | yes l ↦ rw (lt-ltb j (size a) l) (same a j (le_refl a) l)
    | no l ↦ rw (le-ltb j (size a) (omega arith))
        (seek_map f at at' e e' (suc a) m (j - size a) (λ k r le. same k r (omega arith)) (omega arith))
  ]
