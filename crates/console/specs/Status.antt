-- A reply in C's terms: the number that a call returns, and what stands behind the pointers that it was lent.
use Rattle.std.specs.Prelude.{ℕ, [], Result, Ok, Err, get_or}
use Rattle.reply.specs.Reply.{Reply, served, refused, spent}
use Rattle.reply.specs.Answers.{answer_reply}
use Rattle.reply.specs.declared.Refusal.{Refusal}

-- 0 for served, the papers' number for refused; spent gets 255, which is no refusal's number.
abbrev pub status : Reply → ℕ
status (served values) = 0
status (refused number) = number
status spent = 255

-- What stands behind the pointer for value i after a call: that value where the call is served with one; otherwise what stood there.
abbrev pub value : ℕ → Reply → ℕ → ℕ
value i (served values) old = get_or values i old
value i (refused number) old = old
value i spent old = old

-- The same of an answer, whatever its value: the number, and what stands behind the pointer for the value.
abbrev pub status_of : {A : Type 0} → Result A Refusal → ℕ
status_of answer = status (answer_reply (λ _. []) answer)

abbrev pub stored : {A : Type 0} → Result A Refusal → A → A
stored (Ok value) old = value
stored (Err refusal) old = old
