-- A pattern is filled site by site: the symbols are stored one after the other behind the sites before, which stand.
use mathlib.Core.Logic.{◌⊎◌, inl, inr}
use mathlib.Core.Path.{◌≡◌, refl, sym, ap, ◌∙◌}
use mathlib.Core.List.{List, [], ◌∷◌}
use Prim.Native.Nat.{ℕ, zero, suc, ◌+◌, ◌-◌, ◌*◌, ◌/◌, ◌%◌, ◌≤◌, ◌<◌}
use native.Mathlib.Nat.{add-zero, mul_comm, mul-suc, mul-le-mul_left, mod-lt, div-add-mod, div-lt_iff_lt-mul}
use native.Mathlib.Nat.{eq-or-lt_of_le, le_of_suc-le-suc}
use native.Mathlib.Decide.{dec_lt}
use native.Mathlib.Numerals.{add-one}
use native.Mathlib.Omega.{arith}
use lib.Arith.{digits_lt}
use lib.ListN.{length, get_or, set, length-set}
use lib.Seq.{sets, length-sets, get_or-set_same, get_or-set_other}
use Rattle.squares.specs.Doubling.{by_turns, Repeated, Put}

-- what stands before a run of stores, and in it
pub stores_before : (pattern : List ℕ) (at : ℕ) (symbols : List ℕ) (j : ℕ) → j < at
    → get_or (sets pattern at symbols) j 0 ≡ get_or pattern j 0
stores_before pattern at [] j h = refl
stores_before pattern at (s ∷ symbols) j h =
    stores_before (set pattern at s) (suc at) symbols j (omega arith) ∙ get_or-set_other pattern at j s 0 (λ e. omega arith)

pub stores_in : (pattern : List ℕ) (at : ℕ) (symbols : List ℕ) (k : ℕ) → k < length symbols → at + length symbols ≤ length pattern
    → get_or (sets pattern at symbols) (at + k) 0 ≡ get_or symbols k 0
stores_in pattern at [] k h room = absurd (omega arith)
stores_in pattern at (s ∷ symbols) zero h room =
    rw (add-zero at)
    (stores_before (set pattern at s) (suc at) symbols at (omega arith) ∙ get_or-set_same pattern at s 0 (omega arith))
stores_in pattern at (s ∷ symbols) (suc k) h room =
    let next : at + suc k ≡ suc at + k = omega arith in
    rw next (stores_in (set pattern at s) (suc at) symbols k (omega arith) (rw (length-set pattern at s) (omega arith)))

-- one byte more of those that are put
pub one_put : {before bytes after : List ℕ} {at count : ℕ} → at + count < length after → Put before at count bytes after
    → Put before at (count + 1) bytes (set after (at + count) (get_or bytes count 0))
one_put {before} {bytes} {after} {at} {count} room p = record {
  long = length-set after (at + count) v ∙ p.long;
  low = λ j h. get_or-set_other after (at + count) j v 0 (λ e. omega arith) ∙ p.low j h;
  new = λ k h. new k (eq-or-lt_of_le (le_of_suc-le-suc (rw add-one at h)));
}
  where
    v : ℕ
    v = get_or bytes count 0

    new : (k : ℕ) → (k ≡ count) ⊎ (k < count) → get_or (set after (at + count) v) (at + k) 0 ≡ get_or bytes k 0
    new k (inl e) = rw e (get_or-set_same after (at + count) v 0 room)
    new k (inr l) = get_or-set_other after (at + count) (at + k) v 0 (λ e. omega arith) ∙ p.new k l

-- the bytes before `at` have the symbols by turns
pub record Turned (symbols pattern : List ℕ) (at : ℕ) : Type 0 where
  pub stored : (j : ℕ) → j < at → get_or pattern j 0 ≡ by_turns symbols j

-- eight bytes more
pub eight_more : {symbols pattern pattern' bytes : List ℕ} {at next : ℕ} → next ≡ at + 8 → Put pattern at 8 bytes pattern'
    → ((k : ℕ) → k < 8 → get_or bytes k 0 ≡ by_turns symbols (at + k))
    → Turned symbols pattern at → Turned symbols pattern' next
eight_more {symbols} {pattern} {pattern'} {bytes} {at} {next} behind p is t = record { stored = stored }
  where
    stored : (j : ℕ) → j < next → get_or pattern' j 0 ≡ by_turns symbols j
    stored j h = elim (dec_lt j at) [
      | yes l ↦ p.low j l ∙ t.stored j l
      | no l ↦ let k : ℕ = j - at in
          let there : j ≡ at + k = omega arith in
          rw there (p.new k (omega arith) ∙ is k (omega arith))
    ]

-- the first i sites have their symbols
pub record Begun (symbols pattern : List ℕ) (i : ℕ) : Type 0 where
  pub most : i ≤ 64
  pub long : length pattern ≡ 192
  pub at : (site : ℕ) {k : ℕ} → site < i → k < length symbols → get_or pattern (length symbols * site + k) 0 ≡ get_or symbols k 0

module _ (symbols : List ℕ) {pattern : List ℕ} where
  pub one_more_lem : {i : ℕ} → i < 64 → length symbols ≤ 3 → Begun symbols pattern i
      → Begun symbols (sets pattern (length symbols * i) symbols) (suc i)
  one_more_lem {i} l few b = record { most = l; long = length-sets pattern (length symbols * i) symbols ∙ b.long; at = at }
    where
      at : (site : ℕ) {k : ℕ} → site < suc i → k < length symbols
          → get_or (sets pattern (length symbols * i) symbols) (length symbols * site + k) 0 ≡ get_or symbols k 0
      at site {k} h hk = go (eq-or-lt_of_le (le_of_suc-le-suc h))
        where
          go : (site ≡ i) ⊎ (site < i)
              → get_or (sets pattern (length symbols * i) symbols) (length symbols * site + k) 0 ≡ get_or symbols k 0
          go (inl e) =
              let room : length symbols * i + length symbols ≤ 192 =
              omega (arith, mul-suc (length symbols) i, mul-le-mul_left (length symbols) l) in
              rw e (stores_in pattern (length symbols * i) symbols k hk (rw b.long room))
          go (inr less) =
              let before : length symbols * site + k < length symbols * i =
              rw (mul_comm (length symbols) site, mul_comm (length symbols) i) (digits_lt less hk) in
              stores_before pattern (length symbols * i) symbols (length symbols * site + k) before ∙ b.at site less hk

  pub all_sites : 0 < length symbols → Begun symbols pattern 64 → Repeated symbols pattern
  all_sites some b = record { at = at }
    where
      at : (j : ℕ) → j < 64 * length symbols → get_or pattern j 0 ≡ get_or symbols (j % length symbols) 0
      at j h =
          ap (λ (v : ℕ). get_or pattern v 0) (sym (div-add-mod j (length symbols)))
          ∙ b.at (j / length symbols) ((div-lt_iff_lt-mul some).1 h) (mod-lt j some)
