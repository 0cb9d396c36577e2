-- The triples of the list that document 02's request f asks for are those that version 2 trials can have: what the triple call gives, the
-- sheet call of three codes serves, and neither the reader nor the writer refuses it as the head of a version 2 trial; and what one of the
-- three lets pass, the triple call gives.
use Rattle.std.specs.Prelude.{List, [], ◌∷◌, ◌++◌, ◌≡◌, ℕ, ◌*◌, ◌^◌, ◌≤◌}
use Rattle.reply.specs.Reply.{served, unless}
use Rattle.squares.specs.Replies.{sheet3_reply}
use Rattle.leb128.specs.Parser.{parsed}
use Rattle.leb128.specs.Number.{AllBelow}
use Rattle.trial.specs.Rules.{today}
use Rattle.trial.specs.Trial.{Head, Trial, head_from, encode_head, head_causes, parse_head}
use Rattle.trial.specs.Replies.{read}
use Rattle.triples.specs.declared.Triple.{Triple}
use Rattle.triples.specs.Replies.{triple_reply, triple_at_reply}
use Rattle.triples.specs.Claims.{GivenOnce}

abbrev pub codes_from : Triple → List ℕ
codes_from triple = triple.f ∷ triple.g ∷ triple.h ∷ []

abbrev pub head_for : ℕ → Triple → Head
head_for n triple = head_from 2 n (codes_from triple)

-- A triple passes as the codes of a sheet and of a version 2 file, which the writer writes and the reader reads.
pub record Admitted (n : ℕ) (triple : Triple) : Type 0 where
  pub sheet : (room : ℕ) → 3 * 4 ^ n ≤ room → sheet3_reply n triple.f triple.g triple.h room ≡ served []
  pub writer : unless (head_causes today (head_for n triple)) (served []) ≡ served []
  pub reader : (rest : List ℕ) → parse_head today (encode_head (head_for n triple) ++ rest) ≡ parsed (head_for n triple) rest

-- Those that the triple call gives do, and no others: each that passes is given at one position.
pub record OfferedClaim : Type 0 where
  pub given : (n position : ℕ) (triple : Triple) → triple_at_reply n position ≡ triple_reply triple → Admitted n triple
  pub served_given : (n room : ℕ) (triple : Triple) → sheet3_reply n triple.f triple.g triple.h room ≡ served []
      → GivenOnce n triple
  pub written_given : (n : ℕ) (triple : Triple) → unless (head_causes today (head_for n triple)) (served []) ≡ served []
      → GivenOnce n triple
  pub read_given : (rooms file : List ℕ) (t : Trial) (rest : List ℕ) (triple : Triple) → AllBelow 256 file
      → read rooms file ≡ parsed t rest → t.head.codes ≡ codes_from triple → GivenOnce t.head.degree triple
