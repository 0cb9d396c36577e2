-- What the calls answer, as the papers speak of it.
use Rattle.std.specs.Prelude.{ℕ, List, Option, None, Some, Result, Ok, Err}
use Rattle.reply.specs.declared.Refusal.{Refusal}
use Rattle.reply.specs.Numbers.{number_of}
use Rattle.reply.specs.Reply.{Reply, served, refused, spent}

-- The reply of a call that answers its values, or why there are none.
abbrev pub answer_reply : {A : Type 0} → (A → List ℕ) → Result A Refusal → Reply
answer_reply values (Ok a) = served (values a)
answer_reply values (Err refusal) = refused (number_of refusal)

-- The same of a call that may also say spent.
abbrev pub optional_reply : {A : Type 0} → (A → List ℕ) → Result (Option A) Refusal → Reply
optional_reply values (Ok (Some a)) = served (values a)
optional_reply values (Ok None) = spent
optional_reply values (Err refusal) = refused (number_of refusal)
