-- The replies of this crate's calls.
use Rattle.std.specs.Prelude.{ℕ, [], ◌∷◌}
use Rattle.reply.specs.Reply.{Reply, served, unless}
use Rattle.poly.specs.Causes.{sheet_degree_cause, coprime_causes}

-- Three codes that must be pairwise coprime: the degree's cause, the codes' own, then 8 for any two.
abbrev pub check_three_reply : ℕ → ℕ → ℕ → ℕ → Reply
check_three_reply n f g h = unless (sheet_degree_cause n ∷ coprime_causes n (f ∷ g ∷ h ∷ [])) (served [])
