-- The rules for files in which releases differ. The parser takes them as a parameter.
use Rattle.std.specs.Prelude.{ℕ}
use Rattle.levels.specs.Levels.{Rule, repeated}
use Rattle.leb128.specs.Number.{Limits, limits64}

pub record Rules : Type 0 where
  -- The highest version; the lowest is 1.
  pub highest : ℕ
  -- Which level may not follow those before it in its list.
  pub barred : Rule
  -- How long and how high a number may be.
  pub numbers : Limits

-- Today's rules. Document 02, request a: a level equal to an earlier one of its list may not follow; request e: version 2; request i:
-- numbers of 64 bits.
abbrev pub today : Rules
today = record { highest = 2; barred = repeated; numbers = limits64 }
