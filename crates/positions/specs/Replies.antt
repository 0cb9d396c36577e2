-- The reply of the position call.
use Rattle.std.specs.Prelude.{ℕ, Result, [], ◌∷◌, ◌++◌}
use Rattle.reply.specs.Reply.{Reply, served, unless}
use Rattle.reply.specs.Answers.{answer_reply}
use Rattle.reply.specs.declared.Refusal.{Refusal}
use Rattle.poly.specs.Causes.{degree_cause, code_causes, common_factor}
use Rattle.pairs.specs.Pairs.{pairs, index_of}

abbrev pub place_reply : Result ℕ Refusal → Reply
place_reply = answer_reply (λ position. position ∷ [])

-- The position of a pair.
unfoldable pub position_reply : ℕ → ℕ → ℕ → Reply
position_reply n f g =
    unless (degree_cause n ∷ code_causes n f ++ code_causes n g ++ (common_factor f g ∷ [])) (served (index_of f g (pairs n) ∷ []))
