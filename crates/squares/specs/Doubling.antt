-- The runs of bytes by which a sheet is filled, each the exclusive or of an earlier run and a pattern. No public contract speaks of it.
use Rattle.std.specs.Prelude.{◌⊎◌, ◌≡◌, List, [], ◌∷◌, map, ℕ, suc, ◌+◌, ◌*◌, ◌/◌, ◌%◌, ◌^◌, ◌≤◌, ◌<◌, ltb, length, get_or}
use Rattle.std.specs.Int.Bits.{bit_xor}
use Rattle.reply.specs.Reply.{Reply, served, ◌gives◌, unless}
use Rattle.squares.specs.Symbols.{symbol}

-- The symbol at a site given as one number, row * 2^n + col.
abbrev pub at_site : ℕ → ℕ → ℕ → ℕ
at_site n f site = symbol 2 n f (site / 2 ^ n) (site % 2 ^ n)

-- The symbols of several codes at site 2^m.
abbrev pub unit_symbols : ℕ → ℕ → List ℕ → List ℕ
unit_symbols n m codes = map (λ (code : ℕ). at_site n code (2 ^ m)) codes

-- Symbols one after the other, over and over; a pattern has them for 64 sites.
abbrev pub by_turns : List ℕ → ℕ → ℕ
by_turns symbols i = get_or symbols (i % length symbols) 0

pub record Repeated (symbols pattern : List ℕ) : Type 0 where
  pub at : (i : ℕ) → i < 64 * length symbols → get_or pattern i 0 ≡ by_turns symbols i

-- The first `count` of some bytes put from `at` on; what is before `at` stands.
pub record Put (before : List ℕ) (at count : ℕ) (bytes after : List ℕ) : Type 0 where
  pub long : length after ≡ length before
  pub low : (j : ℕ) → j < at → get_or after j 0 ≡ get_or before j 0
  pub new : (k : ℕ) → k < count → get_or after (at + k) 0 ≡ get_or bytes k 0

-- Part of one block, or some whole blocks.
abbrev pub Whole : ℕ → ℕ → Type 0
Whole block size = (size < block) ⊎ (size % block ≡ 0)

-- The reply of a sheet of `width` bytes a site to codes that have passed: the length decides.
abbrev pub room_reply : ℕ → ℕ → ℕ → Reply
room_reply width n len = unless (ltb len (width * 4 ^ n) gives 4 ∷ []) (served [])

-- What the filling of a sheet of two or three codes rests on.
pub record Fillable (n : ℕ) (codes : List ℕ) : Type 0 where
  pub some : 1 ≤ n
  pub few : n < 7
  pub two_or_three : (length codes ≡ 2) ⊎ (length codes ≡ 3)
  pub small : (k : ℕ) → k < length codes → get_or codes k 0 < 2 ^ suc n

-- The `count` bytes from `to` on are those from `from` on, exclusive or the pattern; all others stand.
pub record Added (before : List ℕ) (from to count : ℕ) (pattern : ℕ → ℕ) (after : List ℕ) : Type 0 where
  pub long : length after ≡ length before
  pub low : (j : ℕ) → j < to → get_or after j 0 ≡ get_or before j 0
  pub new : (i : ℕ) → i < count → get_or after (to + i) 0 ≡ bit_xor (get_or before (from + i) 0) (pattern i)
  pub high : (j : ℕ) → to + count ≤ j → get_or after j 0 ≡ get_or before j 0
