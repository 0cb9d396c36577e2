-- Why swapped pairs stand side by side. If q is the last quotient and (r, s) are the remainders before it, the pair is
-- (q × r + s + r, q × r + s). With q + 1 for q the two codes change places. Only the last letter changes, not the degrees or the
-- intermediate bits; and since the kept words of each length from 1 on are even in number, the position becomes the other one.
use Prim.Native.Nat.{ℕ, zero, suc, ◌+◌, ◌-◌, ◌*◌, ◌/◌, ◌%◌, ◌^◌, ◌≤◌, ◌<◌}
use native.Mathlib.Nat.{le_refl, pow-suc, mul-zero}
use native.Mathlib.Decide.{dec_lt}
use native.Mathlib.Omega.{arith}
use mathlib.Core.Bool.{not}
use mathlib.Core.List.{List, [], ◌∷◌, map}
use mathlib.Core.Path.{◌≡◌, refl, sym, ap, ◌∙◌}
use borrow.Author.Tests.{eq-eqb, ne_eqb}
use lib.ListN.{length}
use Rattle.loops.proofs.Loops.{before}
use Rattle.poly.specs.Code.{add, mul, degree}
use Rattle.poly.proofs.Ring
use Rattle.poly.proofs.Leading
use Rattle.poly.proofs.Binary.{add_again}
use Rattle.euclid.specs.Chain.{Pair}
use Rattle.pairs.specs.Counts.{sum}
use Rattle.pairs.specs.Words.{s10, kept}
use Rattle.pairs.specs.Pairs.{turn, turns, start, build, pairs, entry}
use Rattle.pairs.proofs.Valid.{Valid, EachPositive, constant}
use Rattle.pairs.proofs.Words.{count, word_rank}
use Rattle.pairs.proofs.Quotients.{pow_half, middle, code_has}
use Rattle.pairs.proofs.Compositions.{parts}
use Rattle.pairs.proofs.Blocks.{block_size, block_rank}
use Rattle.pairs.proofs.Sequences.{sequence_at, sequence_rank, sequence_at_rank}
use Rattle.pairs.proofs.Pairs.{length_blocks, pair_at_is, sequence_known}
use Rattle.unordered.specs.Unordered.{swap, other}
use Rattle.unordered.specs.Claims.{SwapClaim}
use Rattle.unordered.proofs.Flips.{other_is, other_add, on_last, length_last, map_last, flip_leads, flip_rank, count_even}

-- The quotient plus 1, and the sequence with 1 added to its last quotient.
abbrev plus_one : ℕ → ℕ
plus_one q = add 2 q 1

abbrev flipped : List ℕ → List ℕ
flipped qs = on_last plus_one qs

-- ---- the pair
last_turn : (q : ℕ) (rs : Pair) → turn (turn rs (plus_one q)) 1 ≡ swap (turn (turn rs q) 1)
unfolding turn
last_turn q rs =
    let r : ℕ = rs.f in
    let next : ℕ = add 2 (mul 2 q r) rs.g in
    let more : add 2 (mul 2 (plus_one q) r) rs.g ≡ add 2 next r =
    rw (Ring.add_mul 2 (le_refl 2) q 1 r, Ring.one_mul 2 (le_refl 2) r)
    (Ring.add_assoc 2 (le_refl 2) (mul 2 q r) r rs.g ∙ ap (add 2 (mul 2 q r)) (Ring.add_comm 2 (le_refl 2) r rs.g)
    ∙ sym (Ring.add_assoc 2 (le_refl 2) (mul 2 q r) rs.g r)) in
    let again : add 2 (add 2 next r) r ≡ next = Ring.add_comm 2 (le_refl 2) (add 2 next r) r ∙ add_again next r in
    rw (more, Ring.one_mul 2 (le_refl 2) next, Ring.one_mul 2 (le_refl 2) (add 2 next r), again)

turns_swap : (q : ℕ) (qs : List ℕ) (rs : Pair) → turn (turns rs (flipped (q ∷ qs))) 1 ≡ swap (turn (turns rs (q ∷ qs)) 1)
turns_swap q [] rs = last_turn q rs
turns_swap q (q' ∷ qs) rs = turns_swap q' qs (turn rs q)

-- ---- one quotient
plus_one_is : (q : ℕ) → plus_one q ≡ q / 2 * 2 + (q % 2 + 1) % 2
plus_one_is q = Ring.add_step 2 (le_refl 2) q 1 ∙ rw (Ring.add_zero_right 2 (le_refl 2) (q / 2))

flip_constant : (q : ℕ) → constant (plus_one q) ≡ not (constant q)
flip_constant q = elim (dec_lt (q % 2) 1) [
  | yes l ↦ rw (ne_eqb (q % 2) 1 (λ e. omega arith)) (eq-eqb (plus_one q % 2) 1 (omega (arith, plus_one_is q)))
  | no l ↦ rw (eq-eqb (q % 2) 1 (omega arith)) (ne_eqb (plus_one q % 2) 1 (λ e. omega (arith, plus_one_is q)))
]

module _ (q : ℕ) (pos : 1 ≤ degree 2 q) where
  flip_degree : degree 2 (plus_one q) ≡ degree 2 q
  flip_degree =
      Leading.degree_is 2 (le_refl 2)
      (record {
        low = omega (arith, plus_one_is q, pow_half (degree 2 q) pos, (code_has q pos).low);
        high = omega (arith, plus_one_is q, pow-suc 2 (degree 2 q), (code_has q pos).high);
      })

  flip_middle : (plus_one q - 2 ^ degree 2 (plus_one q)) / 2 ≡ (q - 2 ^ degree 2 q) / 2
  flip_middle = rw flip_degree (omega (arith, plus_one_is q, pow_half (degree 2 q) pos, (code_has q pos).low))

-- ---- the sequence
same_degrees : (qs : List ℕ) → EachPositive (map (degree 2) qs) → map (degree 2) (flipped qs) ≡ map (degree 2) qs
same_degrees [] p = refl
same_degrees (q ∷ []) p = ap (λ d. d ∷ []) (flip_degree q p.0)
same_degrees (q ∷ q' ∷ qs) p = ap (◌∷◌ (degree 2 q)) (same_degrees (q' ∷ qs) p.1)

same_middle : (qs : List ℕ) → EachPositive (map (degree 2) qs) → middle (flipped qs) ≡ middle qs
same_middle [] p = refl
same_middle (q ∷ []) p = ap (λ m. m * 2 ^ 0 + 0) (flip_middle q p.0)
same_middle (q ∷ q' ∷ qs) p = rw (same_degrees (q' ∷ qs) p.1, same_middle (q' ∷ qs) p.1)

flip_word : (qs : List ℕ) → map constant (flipped qs) ≡ on_last not (map constant qs)
flip_word qs = map_last constant plus_one not flip_constant qs

flip_valid : (n : ℕ) (qs : List ℕ) → Valid n qs → Valid n (flipped qs)
flip_valid n qs v = record {
  several = rw (length_last plus_one qs) v.several;
  positive = rw (same_degrees qs v.positive) v.positive;
  total = ap sum (same_degrees qs v.positive) ∙ v.total;
  word = ap kept (flip_word qs) ∙ flip_leads s10 (map constant qs) ∙ v.word;
}

-- ---- its position
even_times : (a b : ℕ) → b % 2 ≡ 0 → a * b % 2 ≡ 0
even_times a b e = sym (Ring.mul_mod_mod a b 2) ∙ rw (e, mul-zero a)

before_even : (size : ℕ → ℕ) → ((k : ℕ) → size (suc k) % 2 ≡ 0) → (a i : ℕ) → before size (suc a) i % 2 ≡ 0
before_even size even a zero = refl
before_even size even a (suc i) = omega (arith, even a, before_even size even (suc a) i)

block_even : (n k : ℕ) → block_size n (suc k) % 2 ≡ 0
unfolding block_size
block_even n k = even_times (parts n (suc k)) _ (even_times (2 ^ (n - suc k)) (count s10 (suc k)) (count_even s10 k))

flip_block : (n q : ℕ) (qs : List ℕ) → Valid n (q ∷ qs) → block_rank n (flipped (q ∷ qs)) ≡ other (block_rank n (q ∷ qs))
unfolding block_rank
flip_block n q qs v =
    let all = q ∷ qs in
    rw (
      same_degrees all v.positive,
      length_last plus_one all,
      same_middle all v.positive,
      flip_word all,
      flip_rank s10 (constant q) (map constant qs) v.word,
    )
    (sym (other_add _ (word_rank s10 (map constant all)) (even_times _ (count s10 (suc (length qs))) (count_even s10 (length qs)))))

flip_position : (n : ℕ) (qs : List ℕ) → Valid n qs → sequence_rank n (flipped qs) ≡ other (sequence_rank n qs)
unfolding sequence_rank
flip_position n [] v = absurd (omega (arith, v.several))
flip_position n (q ∷ qs) v =
    rw (length_last plus_one (q ∷ qs), flip_block n q qs v)
    (sym (other_add _ (block_rank n (q ∷ qs)) (before_even (block_size n) (block_even n) 1 (suc (length qs) - 2))))

build_swaps : (n : ℕ) (qs : List ℕ) → Valid n qs → build (flipped qs) ≡ swap (build qs)
unfolding build
build_swaps n [] v = absurd (omega (arith, v.several))
build_swaps n (q ∷ qs) v = turns_swap q qs start

-- ---- the list
pub length_even : (n : ℕ) → length (pairs n) % 2 ≡ 0
length_even n = rw length_blocks (before_even (block_size n) (block_even n) 1 (n - 1))

other_twice : (j : ℕ) → other (other j) ≡ j
other_twice j = omega (arith, other_is (other j), other_is j)

module _ (n j : ℕ) (below : j < length (pairs n)) where
  valid : Valid n (flipped (sequence_at n j))
  valid = flip_valid n (sequence_at n j) (sequence_known n j below).valid

  position : sequence_rank n (flipped (sequence_at n j)) ≡ other j
  position = flip_position n (sequence_at n j) (sequence_known n j below).valid ∙ ap other (sequence_known n j below).rank

  pub other_lt : other j < length (pairs n)
  other_lt = omega (arith, other_is j, length_even n)

  pub other_swaps : entry n (other j) ≡ swap (entry n j)
  other_swaps =
      let qs = sequence_at n j in
      pair_at_is n (other j) start other_lt ∙ ap (λ i. build (sequence_at n i)) (sym position)
      ∙ ap build (sequence_at_rank n (flipped qs) valid) ∙ build_swaps n qs (sequence_known n j below).valid
      ∙ ap swap (sym (pair_at_is n j start below))

pub pairs_swap : SwapClaim
pairs_swap = record { below = other_lt; there = other_swaps; twice = λ pair. refl; back = other_twice }
