-- The replies of this crate's calls: each answer as the paper speaks of it, and the reply that the paper gives.
use Rattle.std.specs.Prelude.{ℕ, ⊤, Result, ◌^◌, [], ◌∷◌, ◌++◌}
use Rattle.reply.specs.Reply.{Reply, served, unless}
use Rattle.reply.specs.Answers.{answer_reply}
use Rattle.reply.specs.declared.Refusal.{Refusal}
use Rattle.poly.specs.Limits.{list_length}
use Rattle.poly.specs.Causes.{degree_cause, code_causes}
use Rattle.poly.specs.declared.arithmetic.Divided.{Divided}
use Rattle.poly.specs.Division.{Division}

abbrev pub count_reply : Result ℕ Refusal → Reply
count_reply = answer_reply (λ number. number ∷ [])

-- The order 2^n of a degree's squares.
abbrev pub order_reply : ℕ → Reply
order_reply n = unless (degree_cause n ∷ []) (served (2 ^ n ∷ []))

-- The length of a degree's list.
abbrev pub length_reply : ℕ → Reply
length_reply n = unless (degree_cause n ∷ []) (served (list_length n ∷ []))

-- A check gives no value.
abbrev pub checked_reply : Result ⊤ Refusal → Reply
checked_reply = answer_reply (λ _. [])

-- A code tried against the degree n, whatever n is: 1 is not given here.
abbrev pub check_reply : ℕ → ℕ → Reply
check_reply n code = unless (code_causes n code) (served [])

-- Two codes, f before g.
abbrev pub check_pair_reply : ℕ → ℕ → ℕ → Reply
check_pair_reply n f g = unless (code_causes n f ++ code_causes n g) (served [])

abbrev pub division_of : Divided → Division
division_of d = record { quotient = d.quotient; remainder = d.remainder }
