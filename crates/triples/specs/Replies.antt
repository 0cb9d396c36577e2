-- The reply of the triple call.
use Rattle.std.specs.Prelude.{ℕ, Option, Result, cond, [], ◌∷◌, ltb, length}
use Rattle.reply.specs.Answers.{optional_reply}
use Rattle.reply.specs.Reply.{Reply, served, spent, unless}
use Rattle.reply.specs.declared.Refusal.{Refusal}
use Rattle.poly.specs.Causes.{sheet_degree_cause}
use Rattle.triples.specs.Triples.{Triple, triples, triple_at}

-- The answer as the documents speak of it.
abbrev pub given_reply : Result (Option Triple) Refusal → Reply
given_reply = optional_reply (λ triple. triple.f ∷ triple.g ∷ triple.h ∷ [])

-- Served with the three codes.
abbrev pub triple_reply : Triple → Reply
triple_reply triple = served (triple.f ∷ triple.g ∷ triple.h ∷ [])

-- The triple at a position; 12, degree outside 2 to 6; spent, if the position is not below the number of entries.
unfoldable pub triple_at_reply : ℕ → ℕ → Reply
triple_at_reply n position =
    unless (sheet_degree_cause n ∷ []) (cond (ltb position (length (triples n))) (triple_reply (triple_at n position)) spent)
