-- What the writer promises: the reply of its answer, and what is left in lent memory.
use Rattle.std.specs.Prelude.{◌≡◌, ℕ, List, [], ◌∷◌, Result, length}
use Rattle.reply.specs.Reply.{Reply}
use Rattle.reply.specs.declared.Refusal.{Refusal}
use Rattle.reply.specs.Answers.{answer_reply}
use Rattle.trial.specs.Trial.{Trial}
use Rattle.trial.specs.Replies.{write_reply, file_after}

-- The length written, or the number of the refusal.
abbrev pub written_reply : Result ℕ Refusal → Reply
written_reply = answer_reply (λ size. size ∷ [])

-- `write`: its reply, and the slice afterwards.
pub record WriteDone (t : Trial) (out : List ℕ) (r : Result ℕ Refusal) (out' : List ℕ) : Type 0 where
  pub reply : written_reply r ≡ write_reply t (length out)
  pub after : out' ≡ file_after t out
