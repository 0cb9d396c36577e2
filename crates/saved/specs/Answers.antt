-- What the calls promise: the reply of each answer, and the record or the lent memory afterwards.
use Rattle.std.specs.Prelude.{◌≡◌, ℕ, List, [], ◌∷◌, Result, length}
use Rattle.reply.specs.Reply.{Reply}
use Rattle.reply.specs.Answers.{answer_reply}
use Rattle.reply.specs.declared.Refusal.{Refusal}
use Rattle.leb128.specs.Parser.{Parser}
use Rattle.walk.specs.declared.Walk.{Walk}
use Rattle.walk.specs.Walks.{change_reply, record_given}
use Rattle.saved.specs.Replies.{save_reply, file_after, load_reply, record_read}

-- The length written, or the number of the refusal.
abbrev pub saved_reply : Result ℕ Refusal → Reply
saved_reply = answer_reply (λ size. size ∷ [])

-- `save`: its reply, and the slice afterwards.
pub record SaveDone (walk : Walk) (out : List ℕ) (r : Result ℕ Refusal) (out' : List ℕ) : Type 0 where
  pub reply : saved_reply r ≡ save_reply walk (length out)
  pub after : out' ≡ file_after walk out

-- `load`: its reply, and the record that it gives, are those of the parser.
pub record Loads (parser : Parser Walk) (bytes : List ℕ) (r : Result Walk Refusal) : Type 0 where
  pub reply : change_reply r ≡ load_reply (parser bytes)
  pub walk : record_given r ≡ record_read (parser bytes)
