-- The reply of the call for the pairs from a position on, and the lent slice afterwards.
use Rattle.std.specs.Prelude.{ℕ, Result, ◌/◌, List, [], ◌∷◌, ◌++◌, leb, ltb, length, take, drop}
use Rattle.reply.specs.Reply.{Reply, served, unless, ◌gives◌, after}
use Rattle.reply.specs.Answers.{answer_reply}
use Rattle.reply.specs.declared.Refusal.{Refusal}
use Rattle.poly.specs.Limits.{list_length}
use Rattle.poly.specs.Causes.{degree_cause}
use Rattle.euclid.specs.Chain.{Pair}
use Rattle.pairs.specs.Pairs.{pairs}

abbrev pub filled_reply : Result ℕ Refusal → Reply
filled_reply = answer_reply (λ count. count ∷ [])

-- f and g of each pair in turn.
abbrev pub codes : List Pair → List ℕ
codes [] = []
codes (pair ∷ rest) = pair.f ∷ pair.g ∷ codes rest

-- The pairs from a position on, as many as fit into `room` numbers.
unfoldable pub pairs_from : ℕ → ℕ → ℕ → List Pair
pairs_from n position room = take (room / 2) (drop position (pairs n))

-- How many there are; 4, a slice that holds no pair.
unfoldable pub from_reply : ℕ → ℕ → ℕ → Reply
from_reply n position room =
    unless (degree_cause n ∷ leb (list_length n) position gives 2 ∷ ltb room 2 gives 4 ∷ [])
    (served (length (pairs_from n position room) ∷ []))

-- The lent slice afterwards: their codes, and behind them what stood there; where the call is refused, all that stood there.
unfoldable pub from_content : ℕ → ℕ → List ℕ → List ℕ
from_content n position out =
    let written : List ℕ = codes (pairs_from n position (length out)) in
    after (from_reply n position (length out)) (written ++ drop (length written) out) out
