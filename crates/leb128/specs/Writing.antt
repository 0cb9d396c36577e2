-- Bytes put into a slice from a position on; the answer is the position behind them.
use Rattle.std.specs.Prelude.{cond, ◌≡◌, ℕ, ◌+◌, List, leb, length}
use Rattle.std.proofs.lemmas.List.Edits.{sets}

pub record Puts (out : List ℕ) (at : ℕ) (bytes : List ℕ) (r : ℕ) (out' : List ℕ) : Type 0 where
  pub next : r ≡ at + length bytes
  pub after : out' ≡ sets out at bytes

-- The same where they fit; where they do not, nothing is put, and the answer is the position given.
pub record PutsFitting (out : List ℕ) (at : ℕ) (bytes : List ℕ) (r : ℕ) (out' : List ℕ) : Type 0 where
  pub next : r ≡ cond (leb (at + length bytes) (length out)) (at + length bytes) at
  pub after : out' ≡ cond (leb (at + length bytes) (length out)) (sets out at bytes) out
