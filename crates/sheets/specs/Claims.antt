-- What is shown of the check of a sheet.
use Rattle.std.specs.Prelude.{◌↔◌, List, [], ◌≡◌, ℕ, ◌^◌, ◌≤◌, length, take}
use Rattle.reply.specs.Reply.{served}
use Rattle.squares.specs.Squares.{Latin, Orthogonal}
use Rattle.squares.specs.Sheets.{shown}
use Rattle.squares.specs.Replies.{sheet_reply, sheet_bytes}
use Rattle.sheets.specs.Replies.{sheet_size, check_sheet_reply}

-- What a sheet is to be: of order 3 to 64, with enough bytes, both of its squares Latin squares, and the two orthogonal.
pub record GraecoLatinSheet (N : ℕ) (bytes : List ℕ) : Type 0 where
  pub low : 3 ≤ N
  pub high : N ≤ 64
  pub long : sheet_size N ≤ length bytes
  pub first_latin : Latin N (shown 2 N 0 bytes)
  pub second_latin : Latin N (shown 2 N 1 bytes)
  pub orthogonal : Orthogonal N (shown 2 N 0 bytes) (shown 2 N 1 bytes)

-- A sheet passes precisely if it is one of these.
abbrev pub PassClaim : Type 0
PassClaim = (N : ℕ) (bytes : List ℕ) → (check_sheet_reply N bytes ≡ served []) ↔ GraecoLatinSheet N bytes

-- Bytes behind the sheet are not looked at: the reply is that to the sheet alone.
abbrev pub BehindClaim : Type 0
BehindClaim = (N : ℕ) (bytes : List ℕ) → check_sheet_reply N bytes ≡ check_sheet_reply N (take (sheet_size N) bytes)

-- Every sheet that the sheet call writes passes, whatever is behind it.
abbrev pub WrittenClaim : Type 0
WrittenClaim =
    (n f g : ℕ) (lent : List ℕ) → sheet_reply n f g (length lent) ≡ served []
    → check_sheet_reply (2 ^ n) (sheet_bytes n f g lent) ≡ served []
