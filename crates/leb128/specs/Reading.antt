-- What the call that reads a number answers, in the words of the parser, with a position of the file standing for the bytes from there on.
use Rattle.std.specs.Prelude.{◌≡◌, ℕ, ◌≤◌, List, Result, Ok, Err, length, drop}
use Rattle.reply.specs.Numbers.{number_of}
use Rattle.reply.specs.declared.Refusal.{Refusal}
use Rattle.leb128.specs.Parser.{Parsed, parsed, failed, Parser}

-- A number with the position behind it, or what it is refused for.
abbrev pub ReadNumber : Type 0
ReadNumber = Result (ℕ × ℕ) Refusal

-- A number and the bytes behind it.
abbrev pub number_parsed : List ℕ → ReadNumber → Parsed ℕ
number_parsed file (Ok (n, next)) = parsed n (drop next file)
number_parsed file (Err why) = failed (number_of why)

-- The position behind the number is one of the file's.
abbrev pub NumberInside : List ℕ → ReadNumber → Type 0
NumberInside file (Ok (n, next)) = next ≤ length file
NumberInside file (Err why) = Unit

-- The answer is what the parser of a number gives at the position.
pub record Reads (parser : Parser ℕ) (file : List ℕ) (at : ℕ) (r : ReadNumber) : Type 0 where
  pub says : number_parsed file r ≡ parser (drop at file)
  pub inside : NumberInside file r
