-- What is shown of the call for the pairs from a position on.
use Rattle.std.specs.Prelude.{List, [], ◌∷◌, ◌≡◌, ℕ, ◌+◌, ◌*◌, ◌<◌, length, get_or}
use Rattle.reply.specs.Reply.{served}
use Rattle.pairs.specs.Replies.{pair_at_reply}
use Rattle.listing.specs.Replies.{from_reply, from_content}

-- The call for many pairs writes what the pair call answers, position by position.
abbrev pub FromClaim : Type 0
FromClaim =
    (n position : ℕ) (out : List ℕ) (many i : ℕ) → from_reply n position (length out) ≡ served (many ∷ []) → i < many
    → let written : List ℕ = from_content n position out in
    pair_at_reply n (position + i) ≡ served (get_or written (2 * i) 0 ∷ get_or written (2 * i + 1) 0 ∷ [])
