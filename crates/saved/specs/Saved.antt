-- Document 02, request i: a walk in a file. Kind 1 is what consoles stored before, degree and position, behind the number of the kind;
-- kind 2 adds the marks and the counts.
use Rattle.std.specs.Prelude.{ℕ, cond, List, [], ◌∷◌, ◌++◌, ltb, eqb, replicate}
use Rattle.reply.specs.Reply.{Cause, ◌gives◌}
use Rattle.poly.specs.Limits.{outside}
use Rattle.leb128.specs.Parser.{Parser, pure, ◌>>=◌, checked, parse_end}
use Rattle.leb128.specs.Number.{encode_numbers, limits64, number, field, fields}
use Rattle.walk.specs.declared.Walk.{Walk}
use Rattle.walk.specs.Walks.{walk_at, full_count, record_cause}

-- Kind 2: degree, position, the eight marks, each 0 if empty and else its position plus 1, as a record stores them, and the eight counts.
-- The next pair is not saved.
unfoldable pub encode_walk : Walk → List ℕ
encode_walk walk = encode_numbers (2 ∷ walk.degree ∷ walk.position ∷ (walk.marks ++ walk.counts))

-- 22: neither 1 nor 2.
abbrev pub kind_causes : ℕ → List Cause
kind_causes kind = outside 1 2 kind gives 22 ∷ []

-- 23: a count above the highest.
abbrev pub count_causes : ℕ → List Cause
count_causes count = ltb full_count count gives 23 ∷ []

-- A mark is refused, if at all, with the whole record.
abbrev pub mark_causes : ℕ → List Cause
mark_causes mark = []

-- The eight marks, or the eight counts. Kind 1 has none: marks are empty, counts 0.
abbrev pub eight : ℕ → (ℕ → List Cause) → Parser (List ℕ)
eight kind causes = cond (eqb kind 1) (pure (replicate 8 0)) (fields limits64 causes 8)

-- 17: bytes behind the last number; then 3: a bad record.
abbrev pub parse_last : Walk → Parser Walk
parse_last walk = checked (parse_end walk) (λ read. record_cause read ∷ [])

-- A whole file. The next pair of its record is worked out.
unfoldable pub load : Parser Walk
load =
    field limits64 kind_causes >>= λ kind.
    number >>= λ degree.
    number >>= λ position.
    eight kind mark_causes >>= λ marks.
    eight kind count_causes >>= λ counts.
    parse_last (walk_at degree position marks counts)
