-- Only a contract inside the crate uses these definitions: eight numbers read from a file, with a position of the file standing for the
-- bytes from there on.
use Rattle.std.specs.Prelude.{◌≡◌, ℕ, ◌≤◌, List, [], ◌∷◌, Result, Ok, Err, ltb, length, drop}
use Rattle.reply.specs.Reply.{Cause, ◌gives◌}
use Rattle.reply.specs.Numbers.{number_of}
use Rattle.reply.specs.declared.Refusal.{Refusal}
use Rattle.leb128.specs.Parser.{Parsed, parsed, failed}
use Rattle.leb128.specs.Number.{limits64, fields}

-- 23: above the most that is allowed.
abbrev pub at_most : ℕ → ℕ → List Cause
at_most most n = ltb most n gives 23 ∷ []

-- Eight numbers with the position behind them, or what they are refused for.
abbrev pub ReadEight : Type 0
ReadEight = Result (List ℕ × ℕ) Refusal

abbrev pub eight_parsed : List ℕ → ReadEight → Parsed (List ℕ)
eight_parsed file (Ok (numbers, next)) = parsed numbers (drop next file)
eight_parsed file (Err why) = failed (number_of why)

abbrev pub Inside : List ℕ → ReadEight → Type 0
Inside file (Ok (numbers, next)) = next ≤ length file
Inside file (Err why) = Unit

-- The answer is what the parser of eight numbers gives at the position.
pub record EightRead (most : ℕ) (file : List ℕ) (at : ℕ) (r : ReadEight) : Type 0 where
  pub says : eight_parsed file r ≡ fields limits64 (at_most most) 8 (drop at file)
  pub inside : Inside file r
