-- The pass over a list of levels in the file: the levels passed are listed nearest first, and unless one of them is equal to an earlier
-- one, what is said of the whole list is said of what is left.
use mathlib.Core.Path.{◌≡◌, refl, ◌∙◌}
use Prim.Native.Nat.{ℕ, suc, ◌+◌, ◌-◌, ◌≤◌, ◌<◌}
use mathlib.Core.Bool.{Bool, false, true, cond, ◌||◌}
use mathlib.Core.List.{List, [], ◌∷◌, ◌++◌, reverse, reverse-cons}
use native.Mathlib.Nat.{sub-zero}
use native.Mathlib.Numerals.{add-one}
use native.Mathlib.Omega.{arith}
use lib.ListN.{length, take, drop, set, length-append, length-set, length-reverse}
use lib.Seq.{drop-cons, append_snoc, take-append_seam, set-append_seam}
use borrow.Author.Tests.{lt-ltb, le-ltb}
use Rattle.levels.specs.Levels.{repeated, repeats}
use Rattle.levels.proofs.Members.{repeats_more}
use Rattle.reply.specs.Reply.{◌gives◌, over}
use Rattle.leb128.specs.Parser.{parsed, failed, Parser, pure, resume, barring}
use Rattle.leb128.specs.Number.{limits64, number, field}
use Rattle.trial.specs.Rules.{today}
use Rattle.trial.specs.Levels.{level_causes, parse_levels}

pub record Passed (file : List ℕ) (at count next i : ℕ) (before : List ℕ) : Type 0 where
  pub size : length before ≡ i
  pub few : i ≤ count
  pub same : cond (repeats (reverse before)) (failed 14) (parse_levels today (count - i) before (drop next file))
      ≡ parse_levels today count [] (drop at file)

pub none_passed : (file : List ℕ) (at count : ℕ) → Passed file at count at 0 []
none_passed file at count = record { size = refl; few = omega arith; same = rw sub-zero }

-- 14 of the levels passed, then 14 of the next one.
either_repeats : (passed next : Bool) (level : ℕ) (after : ℕ → Parser (List ℕ)) (bytes : List ℕ)
    → cond (passed || next) (failed 14) (after level bytes)
    ≡ cond passed (failed 14) (resume (barring (next gives 14 ∷ []) (pure level) bytes) after)
either_repeats true next level after bytes = refl
either_repeats false true level after bytes = refl
either_repeats false false level after bytes = refl

module _ {file : List ℕ} {at count next i : ℕ} {before : List ℕ} (p : Passed file at count next i before) where
  pub all_passed : count ≤ i
      → cond (repeats (reverse before)) (failed 14) (parsed (reverse before) (drop next file)) ≡ parse_levels today count [] (drop at file)
  all_passed h = let none : count - i ≡ 0 = omega arith in rw none at p.same

  module _ (more : i < count) where
    next_level : cond (repeats (reverse before)) (failed 14)
        (resume (field limits64 (level_causes today before) (drop next file))
        (λ level. parse_levels today (count - (i + 1)) (level ∷ before)))
        ≡ parse_levels today count [] (drop at file)
    next_level = let s : count - i ≡ suc (count - (i + 1)) = omega arith in rw s at p.same

    pub no_number : (why : ℕ) → number (drop next file) ≡ failed why
        → cond (repeats (reverse before)) (failed 14) (failed why) ≡ parse_levels today count [] (drop at file)
    no_number why e = rw e at next_level

    pub too_high : {level : ℕ} {rest : List ℕ} → number (drop next file) ≡ parsed level rest → 65535 < level
        → cond (repeats (reverse before)) (failed 14) (failed 13) ≡ parse_levels today count [] (drop at file)
    too_high {level} e h = rw (e, lt-ltb 65535 level h) at next_level

    pub one_passed : (level behind : ℕ) → number (drop next file) ≡ parsed level (drop behind file) → level ≤ 65535
        → Passed file at count behind (i + 1) (level ∷ before)
    one_passed level behind e h =
        let rest : ℕ → Parser (List ℕ) = λ level. parse_levels today (count - (i + 1)) (level ∷ before) in
        record {
          size = rw (p.size, add-one);
          few = omega arith;
          same =
              rw (repeats_more before level)
              (either_repeats (repeats (reverse before)) (repeated before level) level rest (drop behind file)
              ∙ (rw (e, le-ltb 65535 level h) at next_level));
        }

-- One value more at the front of a slice.
pub over_more : (front slice : List ℕ) {i : ℕ} (value : ℕ) → length front ≡ i → i < length slice
    → set (over front slice) i value ≡ over (front ++ (value ∷ [])) slice
over_more front slice value place h =
    let more : length front < length slice = rw place h in
    rw (← place, drop-cons slice (length front) 0 more, set-append_seam, length-append, add-one, append_snoc)

-- What holds at the head of the loop that reads: the levels passed are at the front of the slice.
pub record Storing (file : List ℕ) (at count : ℕ) (out₀ out : List ℕ) (next i : ℕ) : Type 0 where
  pub before : List ℕ
  pub passed : Passed file at count next i before
  pub stored : out ≡ over (reverse before) out₀
  pub kept : length out ≡ length out₀
  pub inside : next ≤ length file

module _ {file : List ℕ} {at count : ℕ} {out₀ out : List ℕ} {next i : ℕ} (s : Storing file at count out₀ out next i) where
  place : length (reverse s.before) ≡ i
  place = length-reverse s.before ∙ s.passed.size

  pub front : take i out ≡ reverse s.before
  front = rw (s.stored, ← place) (take-append_seam (reverse s.before) _)

  pub all_stored : count ≤ i
      → cond (repeats (take i out)) (failed 14) (parsed (take count out) (drop next file)) ≡ parse_levels today count [] (drop at file)
  all_stored h =
      let end : count ≡ i = omega (arith, s.passed.few) in
      let whole : take count out ≡ reverse s.before = rw end front in
      rw (whole, front) (all_passed s.passed h)

  pub one_stored : (level behind : ℕ) → i < length out₀ → Passed file at count behind (i + 1) (level ∷ s.before)
      → behind ≤ length file → Storing file at count out₀ (set out i level) behind (i + 1)
  one_stored level behind h passed inside =
      record {
        before = level ∷ s.before;
        passed = passed;
        stored = rw (s.stored, reverse-cons) (over_more (reverse s.before) out₀ level place h);
        kept = rw (length-set, s.kept);
        inside = inside;
      }
