-- What the calls answer: the length call and the call for the longest chains by the two parts of the list, and the chain call, for the pair
-- that the pair call gives, by the theorem on the list.
use Prim.Native.Nat.{ℕ, zero, suc, ◌+◌, ◌≤◌, ◌<◌}
use native.Mathlib.Nat.{le_refl}
use native.Mathlib.Omega.{arith}
use mathlib.Core.Bool.{false}
use mathlib.Core.List.{[], ◌∷◌, ◌++◌}
use mathlib.Core.Path.{◌≡◌, refl, ap, ◌∙◌}
use borrow.Author.Tests.{le-ltb}
use lib.ListN.{length, take}
use lib.Pow.{pow_mono}
use Rattle.reply.specs.Reply.{served, ◌gives◌}
use Rattle.reply.proofs.Order.{none_refuses}
use Rattle.loops.specs.Loops.{numbers}
use Rattle.poly.specs.Limits.{outside, list_length}
use Rattle.poly.specs.Causes.{degree_cause, code_causes}
use Rattle.poly.proofs.Ranges.{inside, within, codes_pass}
use Rattle.euclid.specs.Chain.{Pair, chain}
use Rattle.euclid.specs.Replies.{chain_reply}
use Rattle.euclid.proofs.Chains.{divisor_coprime}
use Rattle.pairs.specs.Words.{s10}
use Rattle.pairs.specs.Pairs.{pairs, entry, CoprimePair}
use Rattle.pairs.proofs.Words.{count, count_closed}
use Rattle.pairs.proofs.Pairs.{length_pairs}
use Rattle.pairs.proofs.Standing.{entries_coprime, coprime_passed, pair_answers}
use Rattle.longest.specs.Longest.{quotients_at}
use Rattle.longest.specs.Replies.{longest_reply}
use Rattle.longest.specs.Claims.{Counted, CallsClaim}
use Rattle.longest.proofs.LastBlock.{fewer, length_parted, quotients_le, reached, reaches, longest_last, longest_count}

-- ---- the call for the longest chains
module _ (n : ℕ) (inner : outside 1 31 n ≡ false) where
  low : 1 ≤ n
  low = (within 1 31 inner).0

  pub parted : list_length n ≡ fewer n + count s10 n
  parted = rw (← length_pairs n) (length_parted n low)

  answered : longest_reply n ≡ served (count s10 n ∷ take 1 (numbers (fewer n) (count s10 n)))
  unfolding longest_reply
  answered = rw (inner, longest_count n low, longest_last n low)

  pub none_reach : count s10 n ≡ 0 → longest_reply n ≡ served (0 ∷ [])
  none_reach e = answered ∙ rw e

  pub some_reach : 0 < count s10 n → longest_reply n ≡ served (count s10 n ∷ fewer n ∷ [])
  some_reach h = answered ∙ ap (λ front. served (count s10 n ∷ front)) (go (count s10 n) h)
    where
      go : (c : ℕ) → 0 < c → take 1 (numbers (fewer n) c) ≡ fewer n ∷ []
      go zero h = absurd (omega arith)
      go (suc c) h = refl

-- ---- the chain call, for a coprime pair and for the pair at a position
module _ (n : ℕ) (low : 1 ≤ n) (high : n ≤ 31) where
  chain_answers : (two : Pair) → CoprimePair n two → (room : ℕ) → 32 ≤ room
      → chain_reply n two.f two.g room ≡ served (length (chain 2 two.f two.g).quotients ∷ 1 ∷ [])
  chain_answers two c room long =
      rw (le-ltb room 32 long)
      (none_refuses (degree_cause n ∷ code_causes n two.f ++ code_causes n two.g ++ (false gives 4 ∷ [])) _
      (inside 1 31 low high, codes_pass n two.f two.g (false gives 4 ∷ []) (coprime_passed n two c) (refl, tt))
      ∙ ap (λ d. served (length (chain 2 two.f two.g).quotients ∷ d ∷ [])) ((divisor_coprime two.f two.g).0 c.coprime))

  counted : (j : ℕ) → j < list_length n → Counted n j (quotients_at n j)
  unfolding quotients_at
  counted j h =
      record {
        f = (entry n j).f;
        g = (entry n j).g;
        pair = pair_answers n low high j h;
        chain = chain_answers (entry n j) (entries_coprime n j (rw length_pairs h));
      }

  counted_all : (j : ℕ) → fewer n ≤ j → j < list_length n → Counted n j (n + 1)
  counted_all j l h = rw (← (reaches n j (rw length_pairs h) l)) (counted j h)

  counted_fewer : (j : ℕ) → j < fewer n → j < list_length n → (k : ℕ) × (k ≤ n) × Counted n j k
  counted_fewer j l h =
      let below : j < length (pairs n) = rw length_pairs h in
      let some : (quotients_at n j ≡ n + 1) → ⊥ = λ e. omega (arith, reached n j below e) in
      (quotients_at n j, omega (arith, quotients_le n j below), counted j h)

some_words : (n : ℕ) → 2 ≤ n → 0 < count s10 n
some_words n h = omega (arith, count_closed n, pow_mono {i = 2} {j = n} h)

pub calls_agree : CallsClaim
calls_agree = (
  none_reach 1 (inside 1 31 (le_refl 1) (omega arith)) refl,
  λ n several high.
      let low : 1 ≤ n = omega arith in
      let inner = inside 1 31 low high in
      record {
        count = count s10 n;
        first = fewer n;
        reply = some_reach n inner (some_words n several);
        some = some_words n several;
        end = rw (inner, ← (parted n inner));
        from = λ j l h. counted_all n low high j l (omega (arith, parted n inner));
        before = λ j h. counted_fewer n low high j (omega arith) (omega (arith, parted n inner));
      },
)
