-- Trial files as they were before document 02's request e, but with today's numbers: version 1 alone, with two codes and two lists, field
-- by field. No contract speaks of it; what is shown is that version 1 is still what it was.
use Rattle.std.specs.Prelude.{ℕ, ◌^◌, not, ◌||◌, List, [], ◌∷◌, ◌++◌, ltb, eqb, length}
use Rattle.levels.specs.Levels.{repeated, repeats}
use Rattle.reply.specs.Reply.{Reply, served, Cause, ◌gives◌, unless}
use Rattle.poly.specs.Causes.{code_causes, common_factor}
use Rattle.leb128.specs.Parser.{Parser, pure, ◌>>=◌, barring, parse_end}
use Rattle.leb128.specs.Number.{encode_number, encode_numbers, limits64, field}
use Rattle.trial.specs.Rules.{Rules}
use Rattle.trial.specs.Levels.{parse_levels}
use Rattle.trial.specs.Trial.{Trial, degree_causes, parse_name}
use Rattle.trial.specs.Replies.{name_causes}

-- The rules then, but with today's numbers: what request i changed for both versions is not the question here.
abbrev pub before : Rules
before = record { highest = 1; barred = repeated; numbers = limits64 }

abbrev pub content_before : ℕ → ℕ → ℕ → List ℕ → List ℕ → List ℕ → Trial
content_before n f g powers forces name =
    record { head = record { version = 1; degree = n; codes = f ∷ g ∷ [] }; lists = powers ∷ forces ∷ []; name = name }

abbrev pub version_causes_before : ℕ → List Cause
version_causes_before v = not (eqb v 1) gives 11 ∷ []

-- 6 and 7 for g, then 8.
abbrev pub second_causes : ℕ → ℕ → ℕ → List Cause
second_causes n f g = code_causes n g ++ (common_factor f g ∷ [])

-- The lists and the name, behind the codes; the codes, behind the degree; a whole file.
abbrev pub body_before : ℕ → ℕ → ℕ → Parser Trial
body_before n f g =
    parse_levels before (2 ^ n) [] >>= λ powers.
    parse_levels before (2 ^ n) [] >>= λ forces.
    parse_name before >>= parse_end >>= λ name.
    pure (content_before n f g powers forces name)

abbrev pub codes_before : ℕ → Parser Trial
codes_before n = field before.numbers (code_causes n) >>= λ f. field before.numbers (second_causes n f) >>= λ g. body_before n f g

abbrev pub parse_before : Parser Trial
parse_before = field before.numbers version_causes_before >>= λ _. field before.numbers degree_causes >>= codes_before

-- The reader's decision, with room for two lists of levels.
abbrev pub read_before : ℕ → ℕ → Parser Trial
read_before powers_room forces_room = barring ((ltb powers_room 64 || ltb forces_room 64) gives 4 ∷ []) parse_before

abbrev pub encode_before : ℕ → ℕ → ℕ → List ℕ → List ℕ → List ℕ → List ℕ
encode_before n f g powers forces name =
    encode_number 1 ++ encode_number n ++ encode_number f ++ encode_number g
    ++ encode_numbers powers ++ encode_numbers forces ++ encode_number (length name) ++ name

abbrev pub causes_before : ℕ → ℕ → ℕ → List ℕ → List ℕ → List ℕ → List Cause
causes_before n f g powers forces name =
    degree_causes n ++ code_causes n f ++ second_causes n f g
    ++ ((not (eqb (length powers) (2 ^ n)) || not (eqb (length forces) (2 ^ n))) gives 4
    ∷ repeats powers gives 14
    ∷ repeats forces gives 14
    ∷ [])
    ++ name_causes name

-- The writer's reply, with the size of the file and the room for it.
abbrev pub write_reply_before : ℕ → ℕ → ℕ → List ℕ → List ℕ → List ℕ → ℕ → Reply
write_reply_before n f g powers forces name room =
    let size : ℕ = length (encode_before n f g powers forces name) in
    unless (causes_before n f g powers forces name ++ (ltb room size gives 4 ∷ [])) (served (size ∷ []))
