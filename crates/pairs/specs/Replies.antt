-- The reply of the pair call.
use Rattle.std.specs.Prelude.{ℕ, Result, [], ◌∷◌, leb}
use Rattle.reply.specs.Reply.{Reply, served, unless, ◌gives◌}
use Rattle.reply.specs.Answers.{answer_reply}
use Rattle.reply.specs.declared.Refusal.{Refusal}
use Rattle.poly.specs.Limits.{list_length}
use Rattle.poly.specs.Causes.{degree_cause}
use Rattle.euclid.specs.Chain.{Pair}
use Rattle.pairs.specs.Pairs.{entry}
use Rattle.pairs.specs.declared.pair.Pair.{Pair as Codes}

-- Two codes of the program as the paper's pair.
abbrev pub pair_of : Codes → Pair
pair_of codes = record { f = codes.f; g = codes.g }

abbrev pub found_reply : Result Codes Refusal → Reply
found_reply = answer_reply (λ codes. codes.f ∷ codes.g ∷ [])

-- Both codes.
abbrev pub pair_reply : Pair → Reply
pair_reply pair = served (pair.f ∷ pair.g ∷ [])

-- The pair at a position; 2, position not below the list's length.
unfoldable pub pair_at_reply : ℕ → ℕ → Reply
pair_at_reply n position =
    unless (degree_cause n ∷ leb (list_length n) position gives 2 ∷ []) (pair_reply (entry n position))
