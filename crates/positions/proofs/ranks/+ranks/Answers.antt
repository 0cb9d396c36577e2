-- The rankers meet their contracts: before a word stand those with a lower first letter, and those behind it that lead on alike.
use mathlib.Core.Bool.{true, false}
use mathlib.Core.Path.{◌≡◌}
use Prim.Native.Nat.{ℕ, ◌+◌, ◌-◌, ◌/◌, ◌%◌, ◌^◌, ◌≤◌, ◌<◌}
use native.Mathlib.Nat.{pos_of_ne-zero}
use native.Mathlib.Omega.{arith}
use lib.ListN.{length}
use Rattle.pairs.specs.Words.{State, s10, s11, s01, step, leads, words_from}
use Rattle.positions.specs.Ranking.{StandsAt, last_letters}
use Rattle.pairs.proofs.Reading.{from10_two, from11_two, from01_one}
use Rattle.positions.proofs.Ranking.{word_below, reads_zero, reads_one, ranks_zero, ranks_one, ranks_none, word_place_lt}
use Rattle.pairs.proofs.Shares.{Shares, power, shares01, fits10, shares10, fits11, shares11}
use Rattle.positions.proofs.ranks.+ranks.Goals as goal

-- at the test of the letter, with z words that begin with 0 and o that begin with 1
record Here (s : State) (t m x z o : ℕ) : Type 0 where
  measure : m ≡ t
  pos : 0 < m
  short : m < 32
  word : leads s (last_letters m x) ≡ true
  shares : Shares s m z o

module _ {s : State} {t m x z o : ℕ} (h : Here s t m x z o) where
  some : m ≡ 0 → ⊥
  some e = omega (arith, h.pos)

  module _ (letter : x / 2 ^ (m - 1) % 2 ≡ 0) where
    asks_0 : (m - 1 < t)
        × ((m - 1 < 32) × ((z ≡ length (words_from (step s false) (m - 1))) × (leads (step s false) (last_letters (m - 1) x) ≡ true)))
    asks_0 = (omega arith, (omega arith, (h.shares.zeros, reads_zero s m x some letter h.word)))

    gives-0 : {r : ℕ} → StandsAt (words_from (step s false) (m - 1)) r (last_letters (m - 1) x)
        → StandsAt (words_from s m) r (last_letters m x)
    gives-0 = ranks_zero s m x some letter

  module _ (letter : x / 2 ^ (m - 1) % 2 ≡ 0 → ⊥) where
    asks_1 : (m - 1 < t)
        × ((m - 1 < 32) × ((o ≡ length (words_from (step s true) (m - 1))) × (leads (step s true) (last_letters (m - 1) x) ≡ true)))
    asks_1 = (omega arith, (omega arith, (h.shares.ones, reads_one s m x some letter h.word)))

    gives-1 : {r : ℕ} → StandsAt (words_from (step s true) (m - 1)) r (last_letters (m - 1) x)
        → StandsAt (words_from s m) (z + r) (last_letters m x)
    gives-1 = ranks_one s m x some letter h.shares.zeros

    sum_lt : {r : ℕ} → StandsAt (words_from (step s true) (m - 1)) r (last_letters (m - 1) x) → z + r < 2 ^ 31
    sum_lt {r} k = word_place_lt s m (z + r) (last_letters m x) h.short (gives-1 k)

-- what a reader is given
abbrev Given : State → ℕ → ℕ → ℕ → ℕ → Type 0
Given s t m x count = (m ≡ t) × ((m < 32) × ((count ≡ length (words_from s m)) × (leads s (last_letters m x) ≡ true)))

given : (s : State) (x : ℕ) {t m count : ℕ} → m ≡ t → m < 32 → count ≡ length (words_from s m) → leads s (last_letters m x) ≡ true
    → Given s t m x count
given s x e short long word = (e, (short, (long, word)))

here : (s : State) (x : ℕ) {t m count : ℕ} (z o : ℕ) → Given s t m x count → 0 < m → Shares s m z o → Here s t m x z o
here s x z o (e, (short, (long, word))) pos shares = record { measure = e; pos = pos; short = short; word = word; shares = shares }

module _ (x : ℕ) {t m count : ℕ} (g : Given s01 t m x count) where
  one : 1 ≤ m
  one = from01_one m _ (word_below s01 m x g.1.1.1)

  here01 : Here s01 t m x (count / 2) (count / 2)
  here01 = here s01 x _ _ g one (shares01 m count one g.1.1.0)

module _ (x : ℕ) {t m count : ℕ} (g : Given s11 t m x count) where
  few11 : m ≤ 31
  few11 = omega (arith, g.1.0)

  two11 : 2 ≤ m
  two11 = from11_two m _ (word_below s11 m x g.1.1.1)

  here11 : Here s11 t m x (power m - count) (count - (power m - count))
  here11 = here s11 x _ _ g (omega (arith, two11)) (shares11 m count few11 two11 g.1.1.0)

module _ (x : ℕ) {t m count : ℕ} (pos : 1 ≤ m) (g : Given s10 t m x count) where
  few10 : m ≤ 31
  few10 = omega (arith, g.1.0)

  two10 : 2 ≤ m
  two10 = from10_two m _ pos (word_below s10 m x g.1.1.1)

  here10 : Here s10 t m x (count - (power m - count)) (power m - count)
  here10 = here s10 x _ _ g pos (shares10 m count few10 two10 g.1.1.0)

  fit10 : (count ≤ power m) × (power m - count ≤ count)
  fit10 = fits10 m count few10 two10 g.1.1.0

pub rank01-rank10-requires : goal.rank01-rank10-requires
rank01-rank10-requires t c =
    let g : Given s01 t c.args.m c.args.x c.args.count = given s01 c.args.x c.decreases c.requires.short c.requires.all c.requires.word in
    asks_0 (here01 c.args.x g) c.if-x-rest-eq0.true

pub rank01-returns-then-x-rest-eq0 : goal.rank01-returns-then-x-rest-eq0
rank01-returns-then-x-rest-eq0 t c =
    let g : Given s01 t c.args.m c.args.x c.args.count = given s01 c.args.x c.decreases c.requires.short c.requires.all c.requires.word in
    gives-0 (here01 c.args.x g) c.if-x-rest-eq0.true c.rank10.ensures

pub rank01-rank10-requires-2 : goal.rank01-rank10-requires-2
rank01-rank10-requires-2 t c =
    let g : Given s01 t c.args.m c.args.x c.args.count = given s01 c.args.x c.decreases c.requires.short c.requires.all c.requires.word in
    asks_1 (here01 c.args.x g) c.if-x-rest-eq0.false

pub rank01-overflow_add-result : goal.rank01-overflow_add-result
rank01-overflow_add-result t c =
    let g : Given s01 t c.args.m c.args.x c.args.count = given s01 c.args.x c.decreases c.requires.short c.requires.all c.requires.word in
    omega (arith, sum_lt (here01 c.args.x g) c.if-x-rest-eq0.false c.rank10-2.ensures)

pub rank01-returns : goal.rank01-returns
rank01-returns t c =
    let g : Given s01 t c.args.m c.args.x c.args.count = given s01 c.args.x c.decreases c.requires.short c.requires.all c.requires.word in
    gives-1 (here01 c.args.x g) c.if-x-rest-eq0.false c.rank10-2.ensures

pub rank10-returns-then-m-eq0 : goal.rank10-returns-then-m-eq0
rank10-returns-then-m-eq0 t c =
    ranks_none s10 c.args.m c.args.x c.if-m-eq0.true c.requires.word

pub rank10-overflow_sub-ones : goal.rank10-overflow_sub-ones
rank10-overflow_sub-ones t c =
    let g : Given s10 t c.args.m c.args.x c.args.count = given s10 c.args.x c.decreases c.requires.short c.requires.all c.requires.word in
    (fit10 c.args.x (pos_of_ne-zero c.if-m-eq0.false) g).0

pub rank10-overflow_sub-zeros : goal.rank10-overflow_sub-zeros
rank10-overflow_sub-zeros t c =
    let g : Given s10 t c.args.m c.args.x c.args.count = given s10 c.args.x c.decreases c.requires.short c.requires.all c.requires.word in
    (fit10 c.args.x (pos_of_ne-zero c.if-m-eq0.false) g).1

pub rank10-rank01-requires : goal.rank10-rank01-requires
rank10-rank01-requires t c =
    let g : Given s10 t c.args.m c.args.x c.args.count = given s10 c.args.x c.decreases c.requires.short c.requires.all c.requires.word in
    asks_0 (here10 c.args.x (pos_of_ne-zero c.if-m-eq0.false) g) c.if-x-rest-eq0.true

pub rank10-returns-then-x-rest-eq0 : goal.rank10-returns-then-x-rest-eq0
rank10-returns-then-x-rest-eq0 t c =
    let g : Given s10 t c.args.m c.args.x c.args.count = given s10 c.args.x c.decreases c.requires.short c.requires.all c.requires.word in
    gives-0 (here10 c.args.x (pos_of_ne-zero c.if-m-eq0.false) g) c.if-x-rest-eq0.true c.rank01.ensures

pub rank10-rank11-requires : goal.rank10-rank11-requires
rank10-rank11-requires t c =
    let g : Given s10 t c.args.m c.args.x c.args.count = given s10 c.args.x c.decreases c.requires.short c.requires.all c.requires.word in
    asks_1 (here10 c.args.x (pos_of_ne-zero c.if-m-eq0.false) g) c.if-x-rest-eq0.false

pub rank10-overflow_add-result : goal.rank10-overflow_add-result
rank10-overflow_add-result t c =
    let g : Given s10 t c.args.m c.args.x c.args.count = given s10 c.args.x c.decreases c.requires.short c.requires.all c.requires.word in
    omega (arith, sum_lt (here10 c.args.x (pos_of_ne-zero c.if-m-eq0.false) g) c.if-x-rest-eq0.false c.rank11.ensures)

pub rank10-returns : goal.rank10-returns
rank10-returns t c =
    let g : Given s10 t c.args.m c.args.x c.args.count = given s10 c.args.x c.decreases c.requires.short c.requires.all c.requires.word in
    gives-1 (here10 c.args.x (pos_of_ne-zero c.if-m-eq0.false) g) c.if-x-rest-eq0.false c.rank11.ensures

pub rank11-overflow_sub-zeros : goal.rank11-overflow_sub-zeros
rank11-overflow_sub-zeros t c =
    let g : Given s11 t c.args.m c.args.x c.args.count = given s11 c.args.x c.decreases c.requires.short c.requires.all c.requires.word in
    (fits11 _ _ (few11 c.args.x g) (two11 c.args.x g) c.requires.all).0

pub rank11-rank11-requires : goal.rank11-rank11-requires
rank11-rank11-requires t c =
    let g : Given s11 t c.args.m c.args.x c.args.count = given s11 c.args.x c.decreases c.requires.short c.requires.all c.requires.word in
    asks_0 (here11 c.args.x g) c.if-x-rest-eq0.true

pub rank11-returns-then-x-rest-eq0 : goal.rank11-returns-then-x-rest-eq0
rank11-returns-then-x-rest-eq0 t c =
    let g : Given s11 t c.args.m c.args.x c.args.count = given s11 c.args.x c.decreases c.requires.short c.requires.all c.requires.word in
    gives-0 (here11 c.args.x g) c.if-x-rest-eq0.true c.rank11.ensures

pub rank11-overflow_sub-count : goal.rank11-overflow_sub-count
rank11-overflow_sub-count t c =
    let g : Given s11 t c.args.m c.args.x c.args.count = given s11 c.args.x c.decreases c.requires.short c.requires.all c.requires.word in
    (fits11 _ _ (few11 c.args.x g) (two11 c.args.x g) c.requires.all).1

pub rank11-rank01-requires : goal.rank11-rank01-requires
rank11-rank01-requires t c =
    let g : Given s11 t c.args.m c.args.x c.args.count = given s11 c.args.x c.decreases c.requires.short c.requires.all c.requires.word in
    asks_1 (here11 c.args.x g) c.if-x-rest-eq0.false

pub rank11-overflow_add-result : goal.rank11-overflow_add-result
rank11-overflow_add-result t c =
    let g : Given s11 t c.args.m c.args.x c.args.count = given s11 c.args.x c.decreases c.requires.short c.requires.all c.requires.word in
    omega (arith, sum_lt (here11 c.args.x g) c.if-x-rest-eq0.false c.rank01.ensures)

pub rank11-returns : goal.rank11-returns
rank11-returns t c =
    let g : Given s11 t c.args.m c.args.x c.args.count = given s11 c.args.x c.decreases c.requires.short c.requires.all c.requires.word in
    gives-1 (here11 c.args.x g) c.if-x-rest-eq0.false c.rank01.ensures
