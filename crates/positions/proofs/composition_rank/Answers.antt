-- `composition_rank` meets its contract: a plus adds the compositions with a comma in its place, a comma ends a degree.
use mathlib.Core.Bool.{cond}
use mathlib.Core.List.{List, ◌∷◌, map}
use mathlib.Core.Path.{◌≡◌, sym, ap, ◌∙◌}
use Prim.Native.Nat.{ℕ, suc, ◌+◌, ◌-◌, ◌*◌, ◌/◌, ◌^◌, ◌≤◌, ◌<◌}
use native.Mathlib.Nat.{add-zero, sub-zero}
use native.Mathlib.Decide.{dec_lt}
use native.Mathlib.Omega.{arith}
use borrow.Author.Tests.{lt-ltb, le-ltb}
use lib.Dec.{ltb}
use lib.ListN.{length, get_or, length-map}
use Rattle.poly.specs.Code.{degree}
use Rattle.pairs.specs.declared.block.Block.{Block}
use Rattle.pairs.specs.Sequences.{compositions}
use Rattle.positions.specs.Ranking.{StandsAt, backwards}
use Rattle.pairs.proofs.Valid.{Valid}
use Rattle.pairs.proofs.Compositions.{parts, listed_compositions, composition_rank, composition_rank_lt}
use Rattle.pairs.proofs.Sizes.{parts_lt}
use Rattle.positions.proofs.Ranking.{among_valid, length_backwards, backwards_count, backwards_step, composition_stands}
use Rattle.positions.proofs.ReadBack.{Walked, walked_none, walked_plus, walked_comma, walked_all, share_fits, share_computed, share_le}
use Rattle.positions.proofs.composition_rank.Invariants.{degrees}
use Rattle.positions.proofs.composition_rank.Goals as goal

small : (b : Block) → b.n < 32
small b = omega (arith, b.n_bound)

length-degrees : (chain : List ℕ) (k : ℕ) → length (degrees chain k) ≡ k
length-degrees chain k = length-map (backwards chain k) (degree 2) ∙ length_backwards chain k

degrees-step : (chain : List ℕ) (k : ℕ) {d : ℕ} → 0 < k → d ≡ degree 2 (get_or chain k 0) → degrees chain k ≡ d ∷ degrees chain (k - 1)
degrees-step chain k h is =
    ap (map (degree 2)) (backwards_step chain k h) ∙ ap (λ v. v ∷ degrees chain (k - 1)) (sym is)

module _ (n : ℕ) (chain : List ℕ) (k : ℕ) (v : Valid n (backwards chain k)) where
  rank_lt : n < 32 → composition_rank n (degrees chain k) < 2 ^ 31
  rank_lt small =
      omega (
        arith,
        composition_rank_lt n (degrees chain k) v.positive v.total,
        parts_lt n (length (degrees chain k)) small,
      )

  stands : {r : ℕ} → r ≡ composition_rank n (degrees chain k) → StandsAt (compositions n k) r (degrees chain k)
  stands is = rw is (rw length-degrees at (composition_stands n (degrees chain k) v.positive v.total))

  first : {count d : ℕ} → count ≡ length (compositions n k) → d ≡ degree 2 (get_or chain k 0)
      → Walked n (degrees chain k) 0 n count (k - 1) d (degrees chain (k - 1))
  first all is =
      let up : k ≡ suc (k - 1) = omega (arith, backwards_count n chain k v) in
      walked_none (degrees-step chain k (omega arith) is) v.positive v.total (length-degrees chain (k - 1))
      (all ∙ (listed_compositions n k).long ∙ ap (parts n) up)

pub loop-commas-init : goal.loop-commas-init
loop-commas-init c =
    let a = c.args in
    let v = among_valid a.block.n (backwards a.chain.now a.block.k) c.requires.listed in (
      omega (arith, backwards_count a.block.n a.chain.now a.block.k v),
      first a.block.n a.chain.now a.block.k v c.args.block.compositions_value c.degree_of-d.ensures,
    )

pub overflow_mul-count : goal.overflow_mul-count
overflow_mul-count c = record { fits = share_fits c.loop-commas.invariant.1 (small c.args.block) }

-- one gap more, whichever it is
turn : (n : ℕ) (all chain : List ℕ) {rank left count commas d next : ℕ} → 0 < commas → next ≡ degree 2 (get_or chain commas 0)
    → Walked n all rank left count commas d (degrees chain commas)
    → Walked n all (rank + cond (ltb 1 d) (count * commas / (left - 1)) 0) (left - 1)
    (cond (ltb 1 d) (count - count * commas / (left - 1)) (count * commas / (left - 1))) (commas - cond (ltb 1 d) 0 1)
    (cond (ltb 1 d) (d - 1) next) (degrees chain (commas - cond (ltb 1 d) 0 1))
turn n all chain {rank} {left} {count} {commas} {d} {next} h is w = elim (dec_lt 1 d) [
  | yes l ↦ rw (lt-ltb 1 d l, sub-zero commas) (walked_plus w h l)
  | no l ↦ rw (le-ltb 1 d (omega arith), add-zero rank) (walked_comma (rw (degrees-step chain commas h is) at w) (omega arith))
]

-- the same with the share and the gain as they are computed
walked_next : (n : ℕ) (all chain : List ℕ) {rank left count commas d next share gain : ℕ} → n < 32 → 0 < commas
    → share ≡ count * commas * (2 ^ 32 / (left - 1) + 1) / 2 ^ 32 → gain ≡ cond (ltb 1 d) share 0 → next ≡ degree 2 (get_or chain commas 0)
    → Walked n all rank left count commas d (degrees chain commas)
    → Walked n all (rank + gain) (left - 1) (cond (ltb 1 d) (count - share) share) (commas - cond (ltb 1 d) 0 1)
    (cond (ltb 1 d) (d - 1) next) (degrees chain (commas - cond (ltb 1 d) 0 1))
walked_next n all chain small pos shared gained is w =
    rw (gained, shared ∙ share_computed w small pos) (turn n all chain pos is w)

one_at_most : (d : ℕ) {commas : ℕ} → 0 < commas → cond (ltb 1 d) 0 1 ≤ commas
one_at_most d h = elim (dec_lt 1 d) [
  | yes l ↦ rw (lt-ltb 1 d l) (omega arith)
  | no l ↦ rw (le-ltb 1 d (omega arith)) h
]

pub overflow_add-rank : goal.overflow_add-rank
overflow_add-rank c =
    let a = c.args in
    let next = walked_next a.block.n (degrees a.chain.now a.block.k) a.chain.now (small c.args.block) c.loop-commas-test.true
    c.share-with_comma.ensures c.either-rank.ensures c.degree_of-next.ensures c.loop-commas.invariant.1 in
    record {
      fits = omega (
        arith,
        c.either-rank.ensures,
        next.rank_is,
        rank_lt a.block.n a.chain.now a.block.k
            (among_valid a.block.n (backwards a.chain.now a.block.k) c.requires.listed) (small c.args.block),
      );
    }

pub overflow_sub-count : goal.overflow_sub-count
overflow_sub-count c =
    rw (c.share-with_comma.ensures ∙ share_computed c.loop-commas.invariant.1 (small c.args.block) c.loop-commas-test.true)
    (share_le c.loop-commas.invariant.1 c.loop-commas-test.true)

pub loop-commas-preserved : goal.loop-commas-preserved
loop-commas-preserved c = let a = c.args in (
  omega (arith, c.loop-commas.invariant.0),
  rw (c.either-count.ensures, c.either-d.ensures, c.either.ensures)
      (walked_next a.block.n (degrees a.chain.now a.block.k) a.chain.now (small c.args.block) c.loop-commas-test.true
      c.share-with_comma.ensures c.either-rank.ensures c.degree_of-next.ensures c.loop-commas.invariant.1),
)

pub returns : goal.returns
returns c =
    let a = c.args in
    stands a.block.n a.chain.now a.block.k (among_valid a.block.n (backwards a.chain.now a.block.k) c.requires.listed)
    (walked_all c.loop-commas.invariant.1 (omega arith))
