-- A trial's own promise, in demand 3's words, of any file that the reader accepts, of either version: in the sheet of its degree and codes
-- each level of one of its lists meets each level of another at exactly one site. `read` is the reader's decision, over which its contract
-- gives reply and slices; `sheet_reply` and `sheet_bytes` are the reply and the lent bytes of the sheet call, and `sheet3_reply` and
-- `sheet3_bytes` those of the call with three codes.
use Rattle.std.specs.Prelude.{cond, List, [], ◌≢◌, ◌≡◌, ℕ, suc, ◌*◌, ◌^◌, ◌≤◌, ◌<◌, eqb, length, get_or}
use Rattle.reply.specs.Reply.{Reply, served}
use Rattle.squares.specs.Squares.{Square, ExactlyOne, Site, On}
use Rattle.squares.specs.Sheets.{shown}
use Rattle.squares.specs.Replies.{sheet_reply, sheet_bytes, sheet3_reply, sheet3_bytes}
use Rattle.leb128.specs.Parser.{parsed}
use Rattle.leb128.specs.Number.{AllBelow}
use Rattle.trial.specs.Trial.{Trial}
use Rattle.trial.specs.Replies.{read, list_of}

-- The level stands in the list.
pub record LevelOf (level : ℕ) (levels : List ℕ) : Type 0 where
  pub place : ℕ
  pub below : place < length levels
  pub there : get_or levels place 0 ≡ level

-- The level that a square gives a site: symbol s means entry s of the list, counted from 0. It is one of the list's where each symbol of
-- the square is a place in it.
abbrev pub level_at : List ℕ → Square → Site → ℕ
level_at levels square site = get_or levels (square site.row site.col) 0

abbrev pub Places : ℕ → List ℕ → Square → Type 0
Places N levels square = (row col : ℕ) → row < N → col < N → square row col < length levels

-- Laid together, two squares of order N give each site a level of either list, and each level of one meets each level of the other at
-- exactly one site.
pub record Meeting (N : ℕ) (levels others : List ℕ) (first second : Square) : Type 0 where
  pub level_given : Places N levels first
  pub other_given : Places N others second
  pub once : (level other : ℕ) → LevelOf level levels → LevelOf other others
      → ExactlyOne (λ (site : Site). On N site × (level_at levels first site ≡ level) × (level_at others second site ≡ other))

-- Code k of a trial: 0 is f, 1 is g, 2 is h.
abbrev pub code_of : ℕ → Trial → ℕ
code_of k t = get_or t.head.codes k 0

-- The sheet of a trial is of its version: two bytes a site in version 1, three in version 2.
abbrev pub trial_sheet_reply : Trial → ℕ → Reply
trial_sheet_reply t room =
    let n : ℕ = t.head.degree in
    cond (eqb t.head.version 1) (sheet_reply n (code_of 0 t) (code_of 1 t) room)
    (sheet3_reply n (code_of 0 t) (code_of 1 t) (code_of 2 t) room)

abbrev pub trial_sheet_bytes : Trial → List ℕ → List ℕ
trial_sheet_bytes t lent =
    let n : ℕ = t.head.degree in
    cond (eqb t.head.version 1) (sheet_bytes n (code_of 0 t) (code_of 1 t) lent)
    (sheet3_bytes n (code_of 0 t) (code_of 1 t) (code_of 2 t) lent)

-- The call for its sheet is served for a trial. Byte k of each site shows the place of a level in list k, and the levels of any two
-- lists meet.
pub record Kept (t : Trial) (lent : List ℕ) : Type 0 where
  pub reply : trial_sheet_reply t (length lent) ≡ served []
  pub meeting : (k l : ℕ) → k ≤ t.head.version → l ≤ t.head.version → k ≢ l
      → let N : ℕ = 2 ^ t.head.degree in
      let square : ℕ → Square = λ (k : ℕ). shown (suc t.head.version) N k (trial_sheet_bytes t lent) in
      Meeting N (list_of k t) (list_of l t) (square k) (square l)

-- So it is for every file that the reader accepts, its bytes below 256 as those of a slice are, and any lent bytes that the sheet fits in.
abbrev pub TrialClaim : Type 0
TrialClaim =
    (rooms file : List ℕ) (t : Trial) (rest : List ℕ) → AllBelow 256 file → read rooms file ≡ parsed t rest
    → (lent : List ℕ) → suc t.head.version * 4 ^ t.head.degree ≤ length lent → Kept t lent
