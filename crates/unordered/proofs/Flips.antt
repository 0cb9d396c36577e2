-- Kept words come in twos that differ in the last letter: a letter leads to (1,0) only from (0,1), and there both do. From every state the
-- words of each length from 1 on that lead to (1,0) are even in number, so that the two have the indices 2i and 2i + 1.
use Prim.Native.Nat.{ℕ, zero, suc, ◌+◌, ◌-◌, ◌*◌, ◌/◌, ◌%◌}
use native.Mathlib.Decide.{dec_lt}
use native.Mathlib.Omega.{arith}
use mathlib.Core.Bool.{Bool, true, false, not, false≢true}
use mathlib.Core.List.{List, [], ◌∷◌, map}
use mathlib.Core.Path.{◌≡◌, refl, sym, ap}
use borrow.Author.Tests.{eq-eqb, ne_eqb}
use lib.ListN.{length}
use Rattle.pairs.specs.Words.{State, s10, s11, s01, step, run, is10}
use Rattle.pairs.proofs.Words.{count, word_rank}
use Rattle.unordered.specs.Unordered.{other}

-- ---- the other position
pub other_is : (j : ℕ) → other j ≡ j / 2 * 2 + (1 - j % 2)
unfolding other
other_is j = elim (dec_lt (j % 2) 1) [
  | yes l ↦ rw (eq-eqb (j % 2) 0 (omega arith)) (omega arith)
  | no l ↦ rw (ne_eqb (j % 2) 0 (λ e. omega arith)) (omega arith)
]

pub other_add : (a j : ℕ) → a % 2 ≡ 0 → other (a + j) ≡ a + other j
other_add a j e = omega (arith, other_is (a + j), other_is j)

-- ---- a list with its last entry changed
abbrev pub on_last : {A : Type 0} → (A → A) → List A → List A
on_last change [] = []
on_last change (x ∷ []) = change x ∷ []
on_last change (x ∷ y ∷ xs) = x ∷ on_last change (y ∷ xs)

pub length_last : {A : Type 0} (change : A → A) (xs : List A) → length (on_last change xs) ≡ length xs
length_last change [] = refl
length_last change (x ∷ []) = refl
length_last change (x ∷ y ∷ xs) = ap suc (length_last change (y ∷ xs))

pub map_last : {A B : Type 0} (f : A → B) (change : A → A) (change' : B → B) → ((x : A) → f (change x) ≡ change' (f x)) → (xs : List A)
    → map f (on_last change xs) ≡ on_last change' (map f xs)
map_last f change change' same [] = refl
map_last f change change' same (x ∷ []) = ap (λ y. y ∷ []) (same x)
map_last f change change' same (x ∷ y ∷ xs) = ap (◌∷◌ (f x)) (map_last f change change' same (y ∷ xs))

-- ---- words
leads_both : (s : State) (l : Bool) → is10 (step s (not l)) ≡ is10 (step s l)
leads_both s10 false = refl
leads_both s10 true = refl
leads_both s11 false = refl
leads_both s11 true = refl
leads_both s01 false = refl
leads_both s01 true = refl

pub flip_leads : (s : State) (w : List Bool) → is10 (run s (on_last not w)) ≡ is10 (run s w)
flip_leads s [] = refl
flip_leads s (l ∷ []) = leads_both s l
flip_leads s (l ∷ m ∷ w) = flip_leads (step s l) (m ∷ w)

pub count_even : (s : State) (m : ℕ) → count s (suc m) % 2 ≡ 0
count_even s10 zero = refl
count_even s11 zero = refl
count_even s01 zero = refl
count_even s10 (suc m) = omega (arith, count_even s01 m, count_even s11 m)
count_even s11 (suc m) = omega (arith, count_even s11 m, count_even s01 m)
count_even s01 (suc m) = omega (arith, count_even s10 m)

rank_letter : (s : State) (l : Bool) → is10 (step s l) ≡ true → word_rank s (not l ∷ []) ≡ other (word_rank s (l ∷ []))
unfolding other
rank_letter s10 false k = absurd (false≢true k)
rank_letter s10 true k = absurd (false≢true k)
rank_letter s11 false k = absurd (false≢true k)
rank_letter s11 true k = absurd (false≢true k)
rank_letter s01 false k = refl
rank_letter s01 true k = refl

pub flip_rank : (s : State) (l : Bool) (w : List Bool) → is10 (run s (l ∷ w)) ≡ true
    → word_rank s (on_last not (l ∷ w)) ≡ other (word_rank s (l ∷ w))
flip_rank s l [] k = rank_letter s l k
flip_rank s false (m ∷ w) k = flip_rank (step s false) m w k
flip_rank s true (m ∷ w) k =
    rw (length_last not (m ∷ w), flip_rank (step s true) m w k)
    (sym (other_add _ (word_rank (step s true) (m ∷ w)) (count_even (step s false) (length w))))
