-- The list holds every coprime pair once, and nothing else: pairs and valid sequences give each other, and each valid sequence stands once.
use mathlib.Core.Bool.{false, ◌&&◌, and-false}
use mathlib.Core.List.{List, [], ◌∷◌, reverse, reverse-reverse, tail-eq_of_cons-eq}
use mathlib.Core.Path.{◌≡◌, refl, sym, ap, ◌∙◌}
use Prim.Native.Nat.{ℕ, zero, suc, ◌%◌, ◌≤◌, ◌<◌}
use native.Mathlib.Nat.{lt_trans}
use native.Mathlib.Decide.{ℕ_discrete}
use native.Mathlib.Omega.{arith}
use borrow.Author.Tests.{eq-eqb, ne_eqb, lt-leb, leb-false}
use lib.Dec.{leb, eqb}
use lib.ListN.{length, get_or, length-map}
use Rattle.reply.specs.Reply.{served, ◌gives◌}
use Rattle.reply.proofs.Order.{none_applies}
use Rattle.poly.specs.Limits.{list_length}
use Rattle.poly.specs.Causes.{degree_cause}
use Rattle.poly.specs.Code.{HasDegree}
use Rattle.poly.specs.Coprime.{gcd}
use Rattle.poly.proofs.Ranges.{inside, Passed}
use Rattle.poly.proofs.Binary.{coprime_one}
use Rattle.euclid.specs.Chain.{Chain, Pair, chain}
use Rattle.pairs.specs.Sequences.{sequences}
use Rattle.pairs.specs.Pairs.{build, pairs, entry, start, index_of, CoprimePair}
use Rattle.pairs.specs.Replies.{pair_reply, pair_at_reply}
use Rattle.pairs.specs.Claims.{Stands, ListClaim}
use Rattle.pairs.proofs.Valid.{Valid}
use Rattle.pairs.proofs.Sequences.{sequence_rank, sequence_at_is, sequences_valid, valid_once}
use Rattle.pairs.proofs.Pairs.{pair_at_is, length_pairs, length_exact, length_counted}
use Rattle.pairs.proofs.Sequence.{later, sequence_of, whole, valid_chain, valid_pair, sequence_builds, sequence_valid}

-- the list of pairs is as long as the list of sequences, and has its pair at each position
same_length : (n : ℕ) → length (pairs n) ≡ length (sequences n)
unfolding pairs
same_length n = length-map (sequences n) build

at : (n j : ℕ) → j < length (pairs n) → get_or (pairs n) j start ≡ build (get_or (sequences n) j [])
at n j h = pair_at_is n j start h ∙ ap build (sym (sequence_at_is n j (rw (same_length n) at h)))

-- valid sequences that build the same pair are the same: they are its chain
build_once : (n : ℕ) (qs rs : List ℕ) → Valid n qs → Valid n rs → build qs ≡ build rs → qs ≡ rs
build_once n qs rs v w e =
    let reversed : reverse qs ≡ reverse rs =
    tail-eq_of_cons-eq
    (ap (λ (c : Chain). c.quotients)
    (sym (valid_chain n qs v) ∙ ap (λ (pair : Pair). chain 2 pair.f pair.g) e ∙ valid_chain n rs w)) in
    sym (reverse-reverse qs) ∙ ap reverse reversed ∙ reverse-reverse rs

pub entries_coprime : (n j : ℕ) → j < length (pairs n) → CoprimePair n (get_or (pairs n) j start)
entries_coprime n j h =
    rw (at n j h) (valid_pair n (get_or (sequences n) j []) (sequences_valid n j (rw (same_length n) at h)))

-- the codes of a coprime pair pass the tests of a code
pub coprime_passed : (n : ℕ) (pair : Pair) → CoprimePair n pair → Passed n pair.f pair.g
coprime_passed n pair c =
    record { degree_f = c.degree_f; odd_f = c.odd_f; degree_g = c.degree_g; odd_g = c.odd_g }

pub coprime_stands : (n : ℕ) → 1 ≤ n → (pair : Pair) → CoprimePair n pair → Stands n pair
coprime_stands n pos pair c =
    let qs = sequence_of pair in
    let v : Valid n qs = sequence_valid n pair c pos in
    let once = valid_once n qs v in
    let below : once.position < length (pairs n) = rw (same_length n) once.below in
    record {
      position = once.position;
      below = below;
      there = at n once.position below ∙ ap build once.stands ∙ sequence_builds n pair c;
      only =
          λ j h e.
          let l = rw (same_length n) at h in
          once.only j l
          (build_once n (get_or (sequences n) j []) qs (sequences_valid n j l) v (sym (at n j h) ∙ e ∙ sym (sequence_builds n pair c)));
    }

differs : (f g : ℕ) (pair : Pair) → (pair ≡ record { f = f; g = g } → ⊥) → (eqb pair.f f && eqb pair.g g) ≡ false
differs f g pair no_pair = go (ℕ_discrete pair.f f) (ℕ_discrete pair.g g)
  where
    go : Dec (pair.f ≡ f) → Dec (pair.g ≡ g) → (eqb pair.f f && eqb pair.g g) ≡ false
    go (yes a) (yes b) = absurd (no_pair (λ i. record { f = a i; g = b i }))
    go (yes a) (no b) = rw (ne_eqb pair.g g b) (and-false (eqb pair.f f))
    go (no a) d = rw (ne_eqb pair.f f a)

-- ---- where it stands is what `index_of` finds
index_is : (f g : ℕ) (l : List Pair) (j : ℕ) → j < length l → get_or l j start ≡ record { f = f; g = g }
    → ((i : ℕ) → i < j → get_or l i start ≡ record { f = f; g = g } → ⊥) → index_of f g l ≡ j
index_is f g [] j h e none = absurd (omega arith)
index_is f g (pair ∷ l) zero h e none =
    rw (eq-eqb pair.f f (ap (λ (v : Pair). v.f) e), eq-eqb pair.g g (ap (λ (v : Pair). v.g) e))
index_is f g (pair ∷ l) (suc j) h e none =
    rw (differs f g pair (none 0 (omega arith))) (ap suc (index_is f g l j (omega arith) e (λ i l. none (suc i) (omega arith))))

pub index_stands : (n : ℕ) (pair : Pair) (s : Stands n pair) → index_of pair.f pair.g (pairs n) ≡ s.position
index_stands n pair s =
    index_is pair.f pair.g (pairs n) s.position s.below s.there
    (λ i l e. omega (arith, s.only i (lt_trans l s.below) e))

-- the position by the rank of the chain's sequence
rank_stands : (n : ℕ) (pos : 1 ≤ n) (pair : Pair) (c : CoprimePair n pair)
    → (coprime_stands n pos pair c).position ≡ sequence_rank n (sequence_of pair)
unfolding coprime_stands valid_once
rank_stands n pos pair c = refl

pub standing : (n f g : ℕ) → 1 ≤ n → HasDegree 2 n f → HasDegree 2 n g → f % 2 ≡ 1 → g % 2 ≡ 1 → gcd 2 f g ≡ 1
    → (rs : List ℕ) → (chain 2 f g).quotients ≡ 1 ∷ rs
    → Valid n (reverse rs) × (index_of f g (pairs n) ≡ sequence_rank n (reverse rs))
unfolding sequence_of
standing n f g pos hf hg of og one rs is =
    let pair : Pair = record { f = f; g = g } in
    let c : CoprimePair n pair =
    record { degree_f = hf; degree_g = hg; odd_f = of; odd_g = og; coprime = (coprime_one f g).1 one } in
    let same : rs ≡ (later pair).quotients = tail-eq_of_cons-eq (sym is ∙ ap (λ (v : Chain). v.quotients) (whole n pair c)) in
    rw same
    (sequence_valid n pair c pos, index_stands n pair (coprime_stands n pos pair c) ∙ rank_stands n pos pair c)

pub list_complete : ListClaim
list_complete n pos =
    record {
      counted = length_counted n;
      closed = length_exact n;
      long = length_pairs n;
      coprime = entries_coprime n;
      once = coprime_stands n pos;
    }

-- ---- what the pair call answers
module _ (n : ℕ) (low : 1 ≤ n) (high : n ≤ 31) where
  pub pair_answers : (j : ℕ) → j < list_length n → pair_at_reply n j ≡ pair_reply (entry n j)
  unfolding pair_at_reply
  pair_answers j h = rw (inside 1 31 low high, lt-leb (list_length n) j h)

  -- where it gives f and g, these are the pair at that position of the list
  pub pair_given : (j f g : ℕ) → pair_at_reply n j ≡ served (f ∷ g ∷ []) → (j < list_length n) × (entry n j ≡ record { f = f; g = g })
  unfolding pair_at_reply
  pair_given j f g e =
      let (inner, (before_end, end)) = none_applies (degree_cause n ∷ leb (list_length n) j gives 2 ∷ []) _ _ e in
      let h : j < list_length n = leb-false (list_length n) j before_end in
      let given : served ((entry n j).f ∷ (entry n j).g ∷ []) ≡ served (f ∷ g ∷ []) = sym (pair_answers j h) ∙ e in
      let ef : (entry n j).f ≡ f = cc in
      let eg : (entry n j).g ≡ g = cc in
      (h, λ i. record { f = ef i; g = eg i })
