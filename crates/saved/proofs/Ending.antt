-- The end of a file that is read. In place of a degree above 31 the code has 0, and 3 refuses either.
use mathlib.Core.Bool.{true, false, true≢false}
use mathlib.Core.List.{List, []}
use Rattle.std.specs.Prelude.{Result, Ok, Err}
use Rattle.std.specs.Result.{OkIff, result_unwrap_or}
use mathlib.Core.Path.{◌≡◌, sym, ap, ◌∙◌}
use Prim.Native.Nat.{ℕ, ◌^◌, ◌≤◌, ◌<◌}
use native.Mathlib.Decide.{dec_lt}
use native.Mathlib.Omega.{arith}
use borrow.Author.Tests.{lt-ltb}
use lib.ListN.{length}
use Rattle.reply.specs.Numbers.{number_of}
use Rattle.reply.specs.declared.Refusal.{Refusal}
use Rattle.poly.proofs.Ranges.{outside_below, outside_above}
use Rattle.leb128.specs.Parser.{Parser, parsed, failed, parse_end}
use Rattle.walk.specs.declared.Walk.{Walk}
use Rattle.walk.specs.Walks.{walk_at, bad_record, righted}
use Rattle.walk.proofs.Looks.{bad_degree}
use Rattle.saved.specs.Saved.{parse_last}
use Rattle.saved.specs.Replies.{load_reply, record_read}
use Rattle.saved.specs.Answers.{Loads}

-- ---- an answer from what the parser gives
module _ (parser : Parser Walk) (bytes : List ℕ) where
  pub refused_load : (why : Refusal) → parser bytes ≡ failed (number_of why) → Loads parser bytes (Err why)
  refused_load why e = record { reply = ap load_reply (sym e); walk = ap record_read (sym e) }

  pub read_load : {walk : Walk} {rest : List ℕ} → parser bytes ≡ parsed walk rest → Loads parser bytes (Ok walk)
  read_load e = record { reply = ap load_reply (sym e); walk = ap record_read (sym e) }

  pub same_load : (other : Parser Walk) (rest : List ℕ) {r : Result Walk Refusal} → parser bytes ≡ other rest → Loads other rest r
      → Loads parser bytes r
  same_load other rest e loads = record {
    reply = loads.reply ∙ ap load_reply (sym e);
    walk = loads.walk ∙ ap record_read (sym e);
  }

-- ---- the last cause
module _ (walk : Walk) where
  pub trailing : (bytes : List ℕ) → 0 < length bytes → parse_last walk bytes ≡ failed 17
  unfolding parse_end
  trailing bytes more = rw (lt-ltb 0 (length bytes) more)

  pub ended_bad : bad_record walk ≡ true → parse_last walk [] ≡ failed 3
  unfolding parse_end
  ended_bad bad = rw bad

  pub ended_good : bad_record walk ≡ false → parse_last walk [] ≡ parsed walk []
  unfolding parse_end
  ended_good good = rw good

-- ---- the record that the code puts together, and the one that the file says
-- The degree as it is where it fits 32 bits, and 0 where it does not.
pub record Narrowed (degree narrow : ℕ) : Type 0 where
  pub fits : degree < 2 ^ 32 → narrow ≡ degree
  pub cut : 2 ^ 32 ≤ degree → narrow ≡ 0

pub narrowed : {E : Type 0} {degree narrow : ℕ} (tried : Result ℕ E) → OkIff tried (degree < 2 ^ 32) degree
    → narrow ≡ result_unwrap_or tried 0 → Narrowed degree narrow
narrowed (Ok n) (small, is) e = record { fits = λ _. e ∙ is; cut = λ large. absurd (omega arith) }
narrowed (Err why) large e = record { fits = λ small. absurd (large small); cut = λ _. e }

module _ (narrow degree position : ℕ) (marks counts : List ℕ) (is : Narrowed degree narrow) where
  abbrev said : Walk
  said = walk_at degree position marks counts

  abbrev made : Walk
  made = record { degree = narrow; position = position; marks = marks; counts = counts; f = 0; g = 0 }

  -- a degree that is cut is bad, and so is the one that it is cut to
  module _ {A : Type 0} where
    by_width : (narrow ≡ degree → A) → (bad_record made ≡ true → bad_record said ≡ true → A) → A
    by_width same both = go (dec_lt degree (2 ^ 32))
      where
        go : Dec (degree < 2 ^ 32) → A
        go (yes small) = same (is.fits small)
        go (no large) =
            both (bad_degree made (rw (is.cut (omega arith)) (outside_below 1 31 (omega arith))))
            (bad_degree said (outside_above 1 31 (omega arith)))

  same_test : bad_record made ≡ bad_record said
  unfolding bad_record
  same_test = by_width (λ e. rw e) (λ one other. one ∙ sym other)

  made_right : bad_record made ≡ false → righted made ≡ said
  made_right good = by_width (λ e. ap (λ n. walk_at n position marks counts) e) (λ bad other. absurd (true≢false (sym bad ∙ good)))

  pub bad_end : bad_record made ≡ true → parse_last said [] ≡ failed 3
  bad_end bad = ended_bad said (sym same_test ∙ bad)

  pub good_end : bad_record made ≡ false → parse_last said [] ≡ parsed (righted made) []
  good_end good = rw (made_right good) (ended_good said (sym same_test ∙ good))
