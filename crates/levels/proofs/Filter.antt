-- The pass with the filter: no level passed is equal to an earlier one, so it is for those left to say; and the slot of each level passed
-- is taken, so that a level whose slot is free is equal to none of them.
use mathlib.Core.Path.{◌≡◌, refl, sym, ap, ◌∙◌}
use Prim.Native.Nat.{ℕ, suc, ◌+◌, ◌%◌, ◌≤◌, ◌<◌}
use mathlib.Core.Bool.{Bool, false, true, not, ◌||◌, true≢false}
use mathlib.Core.List.{List, [], ◌∷◌, reverse, reverse-append}
use native.Mathlib.Numerals.{add-one}
use native.Mathlib.Omega.{arith}
use lib.Dec.{eqb}
use lib.ListN.{length, get_or, set, take, drop, replicate, length-set, length-replicate, drop_of_length-le}
use lib.Seq.{take-suc, drop-cons, get_or-set_same, get_or-set_other}
use borrow.Author.Tests.{ne_eqb, eqb-true, eqb-false}
use Rattle.levels.specs.Levels.{any_barred, repeated, repeats}
use Rattle.levels.proofs.Members.{repeated_append, repeated_reverse}

pub record Filtering (levels : List ℕ) (seen : List Bool) (i : ℕ) : Type 0 where
  pub same : repeats levels ≡ any_barred repeated (reverse (take i levels)) (drop i levels)
  pub free : (level : ℕ) → get_or seen (level % 1024) false ≡ false → repeated (take i levels) level ≡ false
  pub slots : length seen ≡ 1024

pub none_filtered : (levels : List ℕ) → Filtering levels (replicate 1024 false) 0
none_filtered levels = record { same = refl; free = λ level e. refl; slots = length-replicate 1024 false }

module _ {levels : List ℕ} {seen : List Bool} {i : ℕ} (s : Filtering levels seen i) where
  pub all_filtered : length levels ≤ i → true ≡ not (repeats levels)
  all_filtered h = rw (s.same, drop_of_length-le levels h)

  module _ (there : i < length levels) where
    abbrev level : ℕ
    level = get_or levels i 0

    here : repeats levels ≡ (repeated (take i levels) level || any_barred repeated (level ∷ reverse (take i levels)) (drop (suc i) levels))
    here = rw (s.same, drop-cons levels i 0 there, repeated_reverse (take i levels) level)

    pub found_repeated : repeated (take i levels) level ≡ true → false ≡ not (repeats levels)
    found_repeated e = rw (here, e)

    module _ (new : repeated (take i levels) level ≡ false) where
      still_free : (other : ℕ) → get_or (set seen (level % 1024) true) (other % 1024) false ≡ false
          → repeated (take (suc i) levels) other ≡ false
      still_free other e =
          rw (take-suc levels i 0 there, repeated_append (take i levels) (level ∷ []) other) (go (eqb (other % 1024) (level % 1024)) refl)
        where
          go : (b : Bool) → eqb (other % 1024) (level % 1024) ≡ b → (repeated (take i levels) other || (eqb other level || false)) ≡ false
          go true q =
              let slot : level % 1024 < length seen = rw s.slots (omega arith) in
              let taken = get_or-set_same seen (level % 1024) true false slot in
              absurd (true≢false (sym taken ∙ (rw (eqb-true (other % 1024) (level % 1024) q) at e)))
          go false q =
              let apart = eqb-false (other % 1024) (level % 1024) q in
              let free = rw (get_or-set_other seen (level % 1024) (other % 1024) true false apart) at e in
              rw (s.free other free, ne_eqb other level (λ same. apart (ap (λ v. v % 1024) same)))

      pub one_filtered : Filtering levels (set seen (level % 1024) true) (i + 1)
      one_filtered =
          record {
            same = rw (here, new, add-one, take-suc levels i 0 there, reverse-append (take i levels) (level ∷ []));
            free = rw add-one still_free;
            slots = rw length-set s.slots;
          }
