-- What is shown of the position call.
use Rattle.std.specs.Prelude.{◌↔◌, [], ◌∷◌, ◌≡◌, ℕ, ◌≤◌}
use Rattle.reply.specs.Reply.{served}
use Rattle.pairs.specs.Replies.{pair_at_reply}
use Rattle.positions.specs.Replies.{position_reply}

-- The pair call and the position call undo each other.
abbrev pub UndoClaim : Type 0
UndoClaim = (n : ℕ) → 1 ≤ n → n ≤ 31 → (j f g : ℕ) → (pair_at_reply n j ≡ served (f ∷ g ∷ [])) ↔ (position_reply n f g ≡ served (j ∷ []))
