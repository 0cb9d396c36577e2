-- Only a contract inside the crate uses this definition.
use Rattle.std.specs.Prelude.{ℕ}
use Rattle.leb128.specs.Parser.{Parser, checked}
use Rattle.leb128.specs.Number.{above, parse_groups, ceiling_causes, limits64}

-- A number behind its first byte, which has the high bit set and the group low: nine bytes are left.
abbrev pub parse_more : ℕ → Parser ℕ
parse_more low = checked (λ bytes. above low (parse_groups 9 bytes)) (ceiling_causes limits64.ceiling)
