-- Document 01, "Trial file": numbers are in groups of seven bits, lowest group first; the high bit is set on every byte but the last. This
-- is unsigned LEB128, without needless bytes.
use Rattle.std.specs.Prelude.{ℕ, zero, suc, ◌+◌, ◌*◌, ◌/◌, ◌%◌, ◌<◌, cond, List, [], ◌∷◌, ◌++◌, ltb, get_or}
use Rattle.reply.specs.Reply.{Cause, ◌gives◌}
use Rattle.leb128.specs.Parser.{Parsed, parsed, failed, Parser, pure, ◌>>=◌, checked}

-- Every entry is below the bound: bytes are below 256, levels below 65536.
abbrev pub AllBelow : ℕ → List ℕ → Type 0
AllBelow bound entries = (i : ℕ) → get_or entries i 0 < bound

-- The bytes of a number whose lowest group is low and whose other groups make up high. The first number is fuel; high is enough.
abbrev pub encode_groups : ℕ → ℕ → ℕ → List ℕ
encode_groups zero low high = low ∷ []
encode_groups (suc k) low zero = low ∷ []
encode_groups (suc k) low (suc high) = (low + 128) ∷ encode_groups k (suc high % 128) (suc high / 128)

unfoldable pub encode_number : ℕ → List ℕ
encode_number n = encode_groups n (n % 128) (n / 128)

-- The numbers of a list, one after the other.
abbrev pub encode_numbers : List ℕ → List ℕ
encode_numbers [] = []
encode_numbers (n ∷ ns) = encode_number n ++ encode_numbers ns

-- The number that the bytes behind a group give, put above that group. If it is 0, its one byte is a needless last byte: 10.
abbrev pub above : ℕ → Parsed ℕ → Parsed ℕ
above low (parsed zero rest) = failed 10
above low (parsed (suc high) rest) = parsed (low + 128 * suc high) rest
above low (failed number) = failed number

-- A number of at most `limit` bytes. 9: the bytes end before the number does and before its last allowed byte; 10: it is longer,
-- or its last byte is needless.
abbrev pub parse_groups : ℕ → Parser ℕ
parse_groups zero bytes = failed 10
parse_groups (suc limit) [] = failed 9
parse_groups (suc limit) (byte ∷ bytes) = cond (ltb byte 128) (parsed byte bytes) (above (byte % 128) (parse_groups limit bytes))

-- 10: above the ceiling.
abbrev pub ceiling_causes : ℕ → ℕ → List Cause
ceiling_causes ceiling n = ltb ceiling n gives 10 ∷ []

-- How many bytes a number may take, and how high it may be.
pub record Limits : Type 0 where
  pub bytes : ℕ
  pub ceiling : ℕ

unfoldable pub parse_number : Limits → Parser ℕ
parse_number limits = checked (parse_groups limits.bytes) (ceiling_causes limits.ceiling)

-- Document 01's limits, and today's (document 02, request i).
abbrev pub limits32 : Limits
limits32 = record { bytes = 5; ceiling = 4294967295 }

abbrev pub limits64 : Limits
limits64 = record { bytes = 10; ceiling = 18446744073709551615 }

-- A number of a file, under today's limits.
abbrev pub number : Parser ℕ
number = parse_number limits64

-- A number that is refused for the causes given, in their order.
abbrev pub field : Limits → (ℕ → List Cause) → Parser ℕ
field limits causes = checked (parse_number limits) causes

-- So many of them, one after the other.
abbrev pub fields : Limits → (ℕ → List Cause) → ℕ → Parser (List ℕ)
fields limits causes zero = pure []
fields limits causes (suc count) = field limits causes >>= λ n. fields limits causes count >>= λ others. pure (n ∷ others)
