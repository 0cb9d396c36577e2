-- Only contracts of functions inside the crate use these definitions: codes that the table has, and the answer whether some are coprime.
use Rattle.std.specs.Prelude.{ℕ, ◌%◌, ◌≤◌, Bool, true, false, [], ◌≡◌}
use Rattle.reply.specs.Reply.{Reply, served, refused}
use Rattle.poly.specs.Code.{HasDegree}

-- A binary code that may stand at degree n, one of the table's.
pub record InTable (n code : ℕ) : Type 0 where
  pub low : 1 ≤ n
  pub high : n ≤ 6
  pub degree_is : HasDegree 2 n code
  pub constant : code % 2 ≡ 1

-- The answer whether codes are coprime, as the reply of their common factors alone.
abbrev pub coprime_reply : Bool → Reply
coprime_reply true = served []
coprime_reply false = refused 8
