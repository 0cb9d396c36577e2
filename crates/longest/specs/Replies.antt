-- The reply of the call for the longest chains.
use Rattle.std.specs.Prelude.{ℕ, Option, None, Some, Result, List, [], ◌∷◌, length, take}
use Rattle.reply.specs.Reply.{Reply, served, unless}
use Rattle.reply.specs.Answers.{answer_reply}
use Rattle.reply.specs.declared.Refusal.{Refusal}
use Rattle.poly.specs.Causes.{degree_cause}
use Rattle.longest.specs.Longest.{longest_at}
use Rattle.longest.specs.declared.Reach.{Reach}

abbrev pub reach_values : Option Reach → List ℕ
reach_values (Some reach) = reach.count ∷ reach.first ∷ []
reach_values None = 0 ∷ []

abbrev pub reach_reply : Result (Option Reach) Refusal → Reply
reach_reply = answer_reply reach_values

-- How many positions reach the longest chains, and the first of them where there is one.
unfoldable pub longest_reply : ℕ → Reply
longest_reply n = unless (degree_cause n ∷ []) (served (length (longest_at n) ∷ take 1 (longest_at n)))
