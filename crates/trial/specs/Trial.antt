-- Document 01, "Trial file", and document 02, request e: the content of a trial, its encoding, and the parser of a file, field by field.
-- One definition serves both versions: version v has v + 1 codes and v + 1 lists of levels.
use Rattle.std.specs.Prelude.{ℕ, zero, suc, ◌^◌, Bool, false, ◌||◌, List, [], ◌∷◌, ◌++◌, ltb, length, take, drop}
use Rattle.reply.specs.Reply.{Cause, ◌gives◌}
use Rattle.poly.specs.Limits.{outside}
use Rattle.poly.specs.Causes.{sheet_degree_cause, code_causes, common_factors, coprime_causes}
use Rattle.leb128.specs.Parser.{parsed, Parser, pure, ◌>>=◌, barring, checked, parse_end}
use Rattle.leb128.specs.Number.{encode_number, encode_numbers, field, fields}
use Rattle.trial.specs.Rules.{Rules, today}
use Rattle.trial.specs.Levels.{parse_levels}

-- The fields in front of the levels. The codes are f, g and, in version 2, h.
pub record Head : Type 0 where
  pub version : ℕ
  pub degree : ℕ
  pub codes : List ℕ

-- The lists are the powers, the forces and, in version 2, the times: list k has the levels that the symbols of code k stand for.
pub record Trial : Type 0 where
  pub head : Head
  pub lists : List (List ℕ)
  pub name : List ℕ

-- A content from its parts, as a call passes them: codes and lists that the version does not have are left out.
abbrev pub head_from : ℕ → ℕ → List ℕ → Head
head_from v n codes = record { version = v; degree = n; codes = take (suc v) codes }

abbrev pub trial_from : ℕ → ℕ → List ℕ → List (List ℕ) → List ℕ → Trial
trial_from v n codes lists name = record { head = head_from v n codes; lists = take (suc v) lists; name = name }

unfoldable pub encode_head : Head → List ℕ
encode_head head = encode_numbers (head.version ∷ head.degree ∷ head.codes)

abbrev pub encode_lists : List (List ℕ) → List ℕ
encode_lists [] = []
encode_lists (levels ∷ lists) = encode_numbers levels ++ encode_lists lists

unfoldable pub encode_body : List (List ℕ) → List ℕ → List ℕ
encode_body lists name = encode_lists lists ++ encode_number (length name) ++ name

unfoldable pub encode : Trial → List ℕ
encode t = encode_head t.head ++ encode_body t.lists t.name

-- 11: a version that the rules do not have.
abbrev pub version_causes : Rules → ℕ → List Cause
version_causes rules v = outside 1 rules.highest v gives 11 ∷ []

-- 12: degree outside 2 to 6.
abbrev pub degree_causes : ℕ → List Cause
degree_causes n = sheet_degree_cause n ∷ []

-- What a head is refused for: its version, its degree, 6 and 7 for each code, then 8 for any two.
abbrev pub head_causes : Rules → Head → List Cause
head_causes rules head =
    version_causes rules head.version ++ degree_causes head.degree ++ coprime_causes head.degree head.codes

-- The codes, behind the version v and the degree n. 8 follows the last of them.
unfoldable pub parse_coprime : Rules → ℕ → ℕ → Parser Head
parse_coprime rules v n =
    checked (fields rules.numbers (code_causes n) (suc v)) common_factors >>= λ codes.
    pure (record { version = v; degree = n; codes = codes })

unfoldable pub parse_head : Rules → Parser Head
parse_head rules = field rules.numbers (version_causes rules) >>= λ v. field rules.numbers degree_causes >>= parse_coprime rules v

-- 15: longer than 40 bytes.
abbrev pub size_causes : ℕ → List Cause
size_causes size = ltb 40 size gives 15 ∷ []

-- Some byte is outside 32 to 126.
abbrev pub any_unprintable : List ℕ → Bool
any_unprintable [] = false
any_unprintable (byte ∷ bytes) = outside 32 126 byte || any_unprintable bytes

-- What a name of the given size at the front of the bytes is refused for. 9: some are missing; 16: one is outside 32 to 126.
abbrev pub text_causes : ℕ → List ℕ → List Cause
text_causes size bytes = ltb (length bytes) size gives 9 ∷ any_unprintable (take size bytes) gives 16 ∷ []

unfoldable pub parse_text : ℕ → Parser (List ℕ)
parse_text size bytes = barring (text_causes size bytes) (λ _. parsed (take size bytes) (drop size bytes)) bytes

unfoldable pub parse_name : Rules → Parser (List ℕ)
parse_name rules = field rules.numbers size_causes >>= parse_text

-- So many lists of levels, each of the length given.
abbrev pub parse_lists : Rules → ℕ → ℕ → Parser (List (List ℕ))
parse_lists rules order zero = pure []
parse_lists rules order (suc count) =
    parse_levels rules order [] >>= λ levels. parse_lists rules order count >>= λ lists. pure (levels ∷ lists)

-- The lists and the name, behind the head.
unfoldable pub parse_body : Rules → Head → Parser Trial
parse_body rules head =
    parse_lists rules (2 ^ head.degree) (suc head.version) >>= λ lists.
    parse_name rules >>= parse_end >>= λ name.
    pure (record { head = head; lists = lists; name = name })

-- A whole file, under any rules and under today's.
abbrev pub parse_under : Rules → Parser Trial
parse_under rules = parse_head rules >>= parse_body rules

unfoldable pub parse : Parser Trial
parse = parse_under today
