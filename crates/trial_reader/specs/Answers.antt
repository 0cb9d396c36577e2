-- What the reader's calls promise: the reply of each answer, and what is left in lent memory.
use Rattle.std.specs.Prelude.{◌≡◌, ℕ, ◌-◌, List, [], ◌∷◌, Result, Ok, Err, length, take, drop}
use Rattle.reply.specs.Reply.{Reply}
use Rattle.reply.specs.declared.Refusal.{Refusal}
use Rattle.reply.specs.Answers.{answer_reply}
use Rattle.trial_reader.specs.declared.reader.Content.{Content}
use Rattle.trial_reader.specs.declared.reader.Trial.{Trial}
use Rattle.leb128.specs.Parser.{Parsed}
use Rattle.trial.specs.Trial.{Trial as TrialContent}
use Rattle.trial.specs.Replies.{read, read_reply, name_read, levels_after}

-- Degree, f, g; where in the file the name starts and how long it is; the version and, in version 2, h. Or the number of the refusal.
abbrev pub read_trial_reply : Result Content Refusal → Reply
read_trial_reply =
    answer_reply (λ c. c.degree ∷ c.f ∷ c.g ∷ c.name_at ∷ c.size ∷ c.version ∷ take (c.version - 1) (c.h ∷ []))

-- In version 1 the place of h, of which the reply says nothing, holds 0.
abbrev pub Unused : Result Content Refusal → Type 0
Unused (Ok c) = c.version ≡ 1 → c.h ≡ 0
Unused (Err why) = Unit

-- The part of a file that holds the name, by the reader's answer; empty where the file is refused.
abbrev pub name_part : List ℕ → Result Content Refusal → List ℕ
name_part file (Ok c) = take c.size (drop c.name_at file)
name_part file (Err why) = []

-- What reading a file gives, with these slices lent for the levels.
abbrev pub read_into : List ℕ → List ℕ → List ℕ → List ℕ → Parsed TrialContent
read_into file powers forces times = read (length powers ∷ length forces ∷ length times ∷ []) file

-- `read`: its reply; that the part of the file that the reply points at is the name; and each slice afterwards.
pub record ReadDone (file powers forces times : List ℕ) (r : Result Content Refusal) (powers' forces' times' : List ℕ) : Type 0 where
  pub reply : read_trial_reply r ≡ read_reply (length file) (read_into file powers forces times)
  pub unused : Unused r
  pub name : name_part file r ≡ name_read (read_into file powers forces times)
  pub powers_after : powers' ≡ levels_after 0 (read_into file powers forces times) powers
  pub forces_after : forces' ≡ levels_after 1 (read_into file powers forces times) forces
  pub times_after : times' ≡ levels_after 2 (read_into file powers forces times) times

-- `open`: what `read` promises of its answer, and the bytes of the part that the answer points at. Equal bytes at another place would
-- pass for it: `answer` alone says the place.
pub record Opens (file powers forces times : List ℕ) (r : Trial) (powers' forces' times' : List ℕ) : Type 0 where
  pub answer : ReadDone file powers forces times r.answer powers' forces' times'
  pub name : r.name.now ≡ name_part file r.answer
