-- The replies of this crate's calls.
use Rattle.std.specs.Prelude.{ℕ, List, Result, [], ◌∷◌, ◌++◌, ltb, length, drop}
use Rattle.reply.specs.Reply.{Reply, served, unless, ◌gives◌, after}
use Rattle.reply.specs.Answers.{answer_reply}
use Rattle.reply.specs.declared.Refusal.{Refusal}
use Rattle.poly.specs.Causes.{degree_cause, code_causes, common_factor}
use Rattle.euclid.specs.Chain.{chain}
use Rattle.euclid.specs.declared.Chain.{Chain}

abbrev pub chained_reply : Result Chain Refusal → Reply
chained_reply = answer_reply (λ written. written.count ∷ written.divisor ∷ [])

-- The count of quotients and the greatest common divisor; room is the length of the lent slice.
abbrev pub chain_reply : ℕ → ℕ → ℕ → ℕ → Reply
chain_reply n f g room =
    unless (degree_cause n ∷ code_causes n f ++ code_causes n g ++ (ltb room 32 gives 4 ∷ []))
    (served (length (chain 2 f g).quotients ∷ (chain 2 f g).divisor ∷ []))

-- The lent slice afterwards: the quotients, and behind them what stood there; where the call is refused, all that stood there.
abbrev pub chain_content : ℕ → ℕ → ℕ → List ℕ → List ℕ
chain_content n f g out =
    after (chain_reply n f g (length out)) ((chain 2 f g).quotients ++ drop (length (chain 2 f g).quotients) out) out

-- Two codes that must be coprime, at the degree n, which is not judged here: the codes' own causes, then 8.
abbrev pub check_coprime_reply : ℕ → ℕ → ℕ → Reply
check_coprime_reply n f g = unless (code_causes n f ++ code_causes n g ++ (common_factor f g ∷ [])) (served [])
