-- The reply of the second list's pair call.
use Rattle.std.specs.Prelude.{ℕ, [], ◌∷◌, leb}
use Rattle.reply.specs.Reply.{Reply, unless, ◌gives◌}
use Rattle.poly.specs.Causes.{degree_cause}
use Rattle.pairs.specs.Replies.{pair_reply}
use Rattle.unordered.specs.Unordered.{unordered_entry, unordered_length}

-- The pair at entry j; 2, entry not below half the first list's length.
unfoldable pub unordered_reply : ℕ → ℕ → Reply
unordered_reply n j = unless (degree_cause n ∷ leb (unordered_length n) j gives 2 ∷ []) (pair_reply (unordered_entry n j))
