-- What the pairs of one group have in common: going on from remainders (r, s), the words that begin with 0 come first, and then those that
-- begin with 1; the state that each letter leads to is that of the remainders it makes.
use Prim.Native.Nat.{ℕ, zero, suc, ◌+◌, ◌-◌, ◌*◌, ◌%◌, ◌^◌, ◌≤◌, ◌<◌}
use native.Mathlib.Nat.{le_refl, pow-suc, lt_of_lt_of_le, add_comm, pos_of_ne-zero}
use native.Mathlib.Decide.{dec_lt}
use native.Mathlib.Omega.{arith}
use mathlib.Core.Path.{◌≡◌, refl, sym, ap, ap₂, ◌∙◌}
use mathlib.Core.Bool.{Bool, true, false, cond}
use mathlib.Core.List.{List, [], ◌∷◌, ◌++◌, map-map, map-append}
use lib.ListN.{length, get_or, length-map}
use lib.Dec.{eqb, leb}
use lib.Pow.{pow_mono}
use lib.Bits.{bit_xor}
use borrow.Author.Tests.{eq-eqb, ne_eqb, le-leb, lt-leb}
use Rattle.poly.specs.Code.{add, mul}
use Rattle.poly.proofs.Ring
use Rattle.poly.proofs.Blocks
use Rattle.poly.proofs.Binary.{add_again, add_xor}
use Rattle.euclid.specs.Chain.{Pair}
use Rattle.pairs.specs.Words.{State, s10, s11, s01, step, words, words_from}
use Rattle.pairs.specs.Sequences.{bit}
use Rattle.pairs.specs.Pairs.{turn}
use Rattle.listing.specs.Filling.{Written, state_of, onward, Fits, Ready}
use Rattle.pairs.proofs.Valid.{constant}
use Rattle.pairs.proofs.Words.{words_from_suc, words_closed, length_words}
use Rattle.pairs.proofs.Shares.{split, as_many}
use Rattle.pairs.proofs.Constants.{Constants, constants}
use Rattle.listing.proofs.Written.{joined}

abbrev pub pair : ℕ → ℕ → Pair
pair r s = record { f = r; g = s }

-- ---- states
state_even : (r s : ℕ) → r % 2 ≡ 0 → state_of r s ≡ s01
unfolding state_of
state_even r s e = rw (eq-eqb (r % 2) 0 e)

state_odd : (r s : ℕ) → (r % 2 ≡ 0 → ⊥) → state_of r s ≡ cond (eqb (s % 2) 0) s10 s11
unfolding state_of
state_odd r s n = rw (ne_eqb (r % 2) 0 n)

pub even_words : (m r s : ℕ) → 1 ≤ m → r % 2 ≡ 0 → 2 * length (words_from s10 (m - 1)) ≡ length (words_from (state_of r s) m)
even_words m r s some e = rw (state_even r s e) (omega (arith, split s01 m some))

pub odd_words : (m r s : ℕ) → 1 ≤ m → (r % 2 ≡ 0 → ⊥) → length (words_from s10 m) ≡ length (words_from (state_of r s) m)
odd_words m r s some n = rw (state_odd r s n) (go (eqb (s % 2) 0))
  where
    go : (b : Bool) → length (words_from s10 m) ≡ length (words_from (cond b s10 s11) m)
    go true = refl
    go false = sym (as_many m some)

pub some_words : (k : ℕ) → 2 ≤ k → 0 < length (words k)
some_words k h = omega (arith, words_closed k, pow_mono {i = 2} {j = k} h)

no_word : (k : ℕ) → length (words k) ≡ 0 → k ≡ 1
no_word zero e = absurd (omega (arith, words_closed 0))
no_word (suc zero) e = refl
no_word (suc (suc k)) e = absurd (omega (arith, some_words (suc (suc k)) (omega arith)))

-- One letter leads to (1,0) only from (0,1), two only from the others, and three or more from any state.
pub none_from : (m r s : ℕ) → 1 ≤ m → eqb (m + r % 2) 2 ≡ leb (length (words_from (state_of r s) m)) 0
none_from m r s some = elim (dec_lt (r % 2) 1) [
  | yes l ↦ let e : r % 2 ≡ 0 = omega arith in
      rw (e, ← (even_words m r s some e)) (decided (m + 0) (2 * length (words_from s10 (m - 1)))
      (λ two. let one : m - 1 ≡ 1 = omega arith in rw one (omega (arith, words_closed 1)))
      (λ none. omega (arith, no_word (m - 1) (omega arith))))
  | no l ↦ let e : r % 2 ≡ 1 = omega arith in
      rw (e, ← (odd_words m r s some (λ z. omega arith))) (decided (m + 1) (length (words_from s10 m))
      (λ two. let one : m ≡ 1 = omega arith in rw one (omega (arith, words_closed 1)))
      (λ none. omega (arith, no_word m none)))
]
  where
    decided : (a z : ℕ) → (a ≡ 2 → z ≡ 0) → (z ≡ 0 → a ≡ 2) → eqb a 2 ≡ leb z 0
    decided a z to from = elim (dec_lt 0 z) [
      | yes l ↦ ne_eqb a 2 (λ e. omega (arith, to e)) ∙ sym (lt-leb z 0 l)
      | no l ↦ eq-eqb a 2 (from (omega arith)) ∙ sym (le-leb z 0 (omega arith))
    ]

constants_of : (r s : ℕ) → 1 ≤ r % 2 + s % 2 → Constants (state_of r s) (pair r s)
constants_of r s odd = elim (dec_lt (r % 2) 1) [
  | yes l ↦ let e : r % 2 ≡ 0 = omega arith in rw (state_even r s e) (record { f = e; g = omega arith })
  | no l ↦ rw (state_odd r s (λ e. omega arith)) (elim (dec_lt (s % 2) 1) [
    | yes k ↦ let e : s % 2 ≡ 0 = omega arith in rw (eq-eqb (s % 2) 0 e) (record { f = omega arith; g = e })
    | no k ↦ rw (ne_eqb (s % 2) 0 (λ e. omega arith)) (record { f = omega arith; g = omega arith })
  ])
]

state_is : (s : State) (p : Pair) → Constants s p → state_of p.f p.g ≡ s
state_is s10 p c = state_odd p.f p.g (λ e. omega (arith, c.f)) ∙ rw (eq-eqb (p.g % 2) 0 c.g)
state_is s11 p c = state_odd p.f p.g (λ e. omega (arith, c.f)) ∙ rw (ne_eqb (p.g % 2) 0 (λ e. omega (arith, c.g)))
state_is s01 p c = state_even p.f p.g c.f

letter_of : (h : ℕ) (l : Bool) → constant (h * 2 + bit l) ≡ l
letter_of h false = ne_eqb ((h * 2 + 0) % 2) 1 (λ e. omega arith)
letter_of h true = eq-eqb ((h * 2 + 1) % 2) 1 (omega arith)

-- ---- one quotient, with head h
abbrev pub next0 : ℕ → ℕ → ℕ → ℕ
next0 h r s = add 2 (mul 2 h r * 2) s

abbrev pub next1 : ℕ → ℕ → ℕ → ℕ
next1 h r s = add 2 (next0 h r s) r

module _ (h r s : ℕ) where
  turned_0 : turn (pair r s) (h * 2 + bit false) ≡ pair (next0 h r s) r
  unfolding turn
  turned_0 = ap (λ v. pair (add 2 v s) r)
      (Ring.mul_cons 2 (le_refl 2) h r {d = 0} (omega arith) ∙ ap (add 2 (mul 2 h r * 2)) (Ring.scale_zero 2 (le_refl 2) r)
      ∙ Ring.add_zero_right 2 (le_refl 2) (mul 2 h r * 2))

  turned_1 : turn (pair r s) (h * 2 + bit true) ≡ pair (next1 h r s) r
  unfolding turn
  turned_1 =
      let P : ℕ = mul 2 h r * 2 in
      ap (λ v. pair v r)
      (ap (λ v. add 2 v s)
      (Ring.mul_cons 2 (le_refl 2) h r {d = 1} (omega arith) ∙ ap (add 2 P) (Ring.scale_one 2 (le_refl 2) r))
      ∙ Ring.add_assoc 2 (le_refl 2) P r s ∙ ap (add 2 P) (Ring.add_comm 2 (le_refl 2) r s) ∙ sym (Ring.add_assoc 2 (le_refl 2) P s r))

  module _ (odd : 1 ≤ r % 2 + s % 2) where
    after : (l : Bool) → Constants (step (state_of r s) l) (turn (pair r s) (h * 2 + bit l))
    after l = rw (letter_of h l) at (constants ((h * 2 + bit l) ∷ []) (state_of r s) (pair r s) (constants_of r s odd))

    after_0 : Constants (step (state_of r s) false) (pair (next0 h r s) r)
    after_0 = rw turned_0 at (after false)

    after_1 : Constants (step (state_of r s) true) (pair (next1 h r s) r)
    after_1 = rw turned_1 at (after true)

-- ---- going on
module _ (heads : List ℕ) (m r s : ℕ) (odd : 1 ≤ r % 2 + s % 2) where
  abbrev h : ℕ
  h = get_or heads m 0

  pub onward_suc : onward heads (suc m) r s ≡ onward heads m (next0 h r s) r ++ onward heads m (next1 h r s) r
  unfolding onward
  onward_suc =
      rw (
        words_from_suc (state_of r s) m,
        state_is (step (state_of r s) false) (pair (next0 h r s) r) (after_0 h r s odd),
        state_is (step (state_of r s) true) (pair (next1 h r s) r) (after_1 h r s odd),
        ← (turned_0 h r s),
        ← (turned_1 h r s),
      )
      (simp (map-append, map-map))

pub length_onward : (heads : List ℕ) (m r s : ℕ) → length (onward heads m r s) ≡ length (words_from (state_of r s) m)
unfolding onward
length_onward heads m r s = simp length-map

-- ---- the last letter: either one ends in (1,0)
twice : (a b : ℕ) → add 2 (add 2 a b) b ≡ a
twice a b = Ring.add_comm 2 (le_refl 2) (add 2 a b) b ∙ add_again a b

no_letter : (heads : List ℕ) (r s : ℕ) → state_of r s ≡ s10 → onward heads 0 r s ≡ pair (add 2 r s) r ∷ []
unfolding onward turn words_from
no_letter heads r s e = rw (e, Ring.one_mul 2 (le_refl 2))

pub onward_one : (heads : List ℕ) (r s : ℕ) → 1 ≤ r % 2 + s % 2 → 0 < length (words_from (state_of r s) 1)
    → onward heads 1 r s
    ≡ (pair (next1 (get_or heads 0 0) r s) (next0 (get_or heads 0 0) r s) ∷ [])
    ++ pair (next0 (get_or heads 0 0) r s) (next1 (get_or heads 0 0) r s) ∷ []
onward_one heads r s odd some = elim (dec_lt (r % 2) 1) [
  | yes l ↦ let e : state_of r s ≡ s01 = state_even r s (omega arith) in
      onward_suc heads 0 r s odd
      ∙ ap₂ ◌++◌
      (no_letter heads _ r (state_is _ _ (after_0 (get_or heads 0 0) r s odd) ∙ ap (λ v. step v false) e))
      (no_letter heads _ r (state_is _ _ (after_1 (get_or heads 0 0) r s odd) ∙ ap (λ v. step v true) e)
      ∙ ap (λ v. pair v (next1 (get_or heads 0 0) r s) ∷ []) (twice (next0 (get_or heads 0 0) r s) r))
  | no l ↦ absurd (omega (arith, odd_words 1 r s (le_refl 1) (λ e. omega arith), length_words s10 1))
]

-- ---- sizes
fits_le : (heads : List ℕ) (m a : ℕ) → Fits heads m a → a ≤ 31
fits_le heads zero a f = f
fits_le heads (suc m) a f = omega (arith, fits_le heads m (a + f.0) f.2)

module _ {heads : List ℕ} {m r s : ℕ} (ready : Ready heads (suc m) r s) where
  abbrev d : ℕ
  d = ready.room.0

  abbrev size : ℕ
  size = ready.size + d

  size_le : size ≤ 31
  size_le = fits_le heads m size ready.room.2

  product_small : mul 2 (get_or heads m 0) r < 2 ^ size
  product_small = rw (add_comm ready.size d) (Blocks.mul_lt 2 (le_refl 2) d ready.size ready.room.1 ready.small_r)

  pub product_lt : mul 2 (get_or heads m 0) r < 2 ^ 31
  product_lt = lt_of_lt_of_le product_small (pow_mono {i = size} {j = 31} size_le)

  more : 2 ^ suc ready.size ≤ 2 ^ suc size
  more = pow_mono {i = suc ready.size} {j = suc size} (omega arith)

  r_lt : r < 2 ^ suc size
  r_lt = lt_of_lt_of_le ready.small_r more

  next0_lt : next0 (get_or heads m 0) r s < 2 ^ suc size
  next0_lt = Blocks.add_lt 2 (le_refl 2) (suc size) (omega (arith, product_small, pow-suc 2 size)) (lt_of_lt_of_le ready.small_s more)

  next1_lt : next1 (get_or heads m 0) r s < 2 ^ suc size
  next1_lt = Blocks.add_lt 2 (le_refl 2) (suc size) next0_lt r_lt

  some_odd : (s : State) (p : Pair) → Constants s p → 1 ≤ p.f % 2 + p.g % 2
  some_odd s10 p c = omega (arith, c.f)
  some_odd s11 p c = omega (arith, c.f)
  some_odd s01 p c = omega (arith, c.g)

  pub ready_0 : 1 ≤ m → Ready heads m (next0 (get_or heads m 0) r s) r
  ready_0 some = record {
    some = some;
    few = omega (arith, ready.few);
    odd = some_odd _ _ (after_0 (get_or heads m 0) r s ready.odd);
    size = size;
    small_r = next0_lt;
    small_s = r_lt;
    room = ready.room.2;
  }

  pub ready_1 : 1 ≤ m → Ready heads m (next1 (get_or heads m 0) r s) r
  ready_1 some = record {
    some = some;
    few = omega (arith, ready.few);
    odd = some_odd _ _ (after_1 (get_or heads m 0) r s ready.odd);
    size = size;
    small_r = next1_lt;
    small_s = r_lt;
    room = ready.room.2;
  }

-- ---- one step of the code, with at least one letter left
pub product_fits : {heads : List ℕ} {m r s : ℕ} → Ready heads m r s → mul 2 (get_or heads (m - 1) 0) r < 2 ^ 31
product_fits {heads} {m} {r} {s} ready =
    let up : suc (m - 1) ≡ m = omega (arith, ready.some) in
    product_lt {heads = heads} {m = m - 1} {r = r} {s = s} (rw up ready)

module _ {heads : List ℕ} {m r s next : ℕ} (ready : Ready heads m r s) (is : next ≡ next0 (get_or heads (m - 1) 0) r s) where
  up : suc (m - 1) ≡ m
  up = omega (arith, ready.some)

  from_one : Ready heads (suc (m - 1)) r s
  from_one = rw up ready

  other : bit_xor next r ≡ next1 (get_or heads (m - 1) 0) r s
  other = sym (add_xor next r) ∙ ap (λ v. add 2 v r) is

  more_letters : (m ≡ 1 → ⊥) → 1 ≤ m - 1
  more_letters several = pos_of_ne-zero {n = m - 1} (λ e. several (omega (arith, ready.some)))

  pub asks_0 : (m ≡ 1 → ⊥) → Ready heads (m - 1) next r
  asks_0 several = rw is (ready_0 from_one (more_letters several))

  pub asks_1 : (m ≡ 1 → ⊥) → Ready heads (m - 1) (bit_xor next r) r
  asks_1 several = rw other (ready_1 from_one (more_letters several))

  pub both_letters : {skip rest done half all : ℕ} {old mid new : List ℕ}
      → rest ≡ skip - length (words_from (state_of next r) (m - 1)) → Written (onward heads (m - 1) next r) skip old done mid half
      → Written (onward heads (m - 1) (bit_xor next r) r) rest mid half new all → Written (onward heads m r s) skip old done new all
  both_letters {skip} {rest} er v w =
      let split : onward heads m r s ≡ onward heads (m - 1) next r ++ onward heads (m - 1) (bit_xor next r) r =
      ap (λ v. onward heads v r s) (sym up) ∙ onward_suc heads (m - 1) r s ready.odd
      ∙ ap₂ (λ (u v : ℕ). onward heads (m - 1) u r ++ onward heads (m - 1) v r) (sym is) (sym other) in
      let behind : rest ≡ skip - length (onward heads (m - 1) next r) =
      er ∙ ap (λ v. skip - v) (sym (length_onward heads (m - 1) next r)) in
      rw split (joined v (rw behind at w))

  pub last_letter : {skip rest done half all : ℕ} {old mid new : List ℕ} → m ≡ 1 → skip < length (words_from (state_of r s) m)
      → rest ≡ skip - 1 → Written (pair (bit_xor next r) next ∷ []) skip old done mid half
      → Written (pair next (bit_xor next r) ∷ []) rest mid half new all → Written (onward heads m r s) skip old done new all
  last_letter one some er v w =
      let none : m - 1 ≡ 0 = omega arith in
      let words : 0 < length (words_from (state_of r s) 1) = rw one at (zero_lt some) in
      let two : onward heads m r s ≡ (pair (bit_xor next r) next ∷ []) ++ pair next (bit_xor next r) ∷ [] =
      ap (λ v. onward heads v r s) one ∙ onward_one heads r s ready.odd words
      ∙ ap₂ (λ (u v : ℕ). (pair v u ∷ []) ++ pair u v ∷ []) (sym (rw none at is)) (sym (rw none at other)) in
      rw two (joined v (rw er at w))
    where
      zero_lt : {a b : ℕ} → a < b → 0 < b
      zero_lt l = omega arith
