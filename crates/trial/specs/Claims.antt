-- What is shown of reading and writing trial files. Bytes are below 256 and levels below 65536, as those of slices are.
use Rattle.std.specs.Prelude.{cond, ◌⊎◌, ◌↔◌, ◌≢◌, ◌≡◌, ℕ, suc, ◌-◌, ◌^◌, ◌≤◌, List, [], ◌∷◌, ◌++◌, eqb, length, get_or, take}
use Rattle.reply.specs.Reply.{served, over}
use Rattle.levels.specs.Levels.{repeated, not_above}
use Rattle.leb128.specs.Parser.{parsed}
use Rattle.leb128.specs.Number.{AllBelow, encode_number, encode_numbers, limits32, number}
use Rattle.trial.specs.Rules.{Rules}
use Rattle.trial.specs.Trial.{Trial, trial_from, encode, parse_under, parse}
use Rattle.trial.specs.Replies.{read, content_reply, read_reply, name_read, list_of, levels_after, write_reply, file_after}
use Rattle.trial.specs.Before.{content_before, read_before, encode_before, write_reply_before}

-- All levels of all lists are below 65536.
abbrev pub LowLevels : List (List ℕ) → Type 0
LowLevels lists = (k : ℕ) → AllBelow 65536 (get_or lists k [])

-- The slices lent for levels are long enough.
abbrev pub Roomy : List ℕ → Type 0
Roomy [] = Unit
Roomy (room ∷ rooms) = (64 ≤ room) × Roomy rooms

-- What the writer is given by a caller who passes on what the reader gave. Where the file has no third code and list, whatever the caller
-- has for them is passed on.
abbrev pub passed_on : Trial → ℕ → List ℕ → Trial
passed_on t h times =
    trial_from t.head.version t.head.degree (get_or t.head.codes 0 0 ∷ get_or t.head.codes 1 0 ∷ get_or t.head.codes 2 h ∷ [])
    (list_of 0 t ∷ list_of 1 t ∷ get_or t.lists 2 times ∷ []) t.name

pub record WrittenAgain (file : List ℕ) (t : Trial) (out : List ℕ) : Type 0 where
  pub reply : write_reply t (length out) ≡ served (length file ∷ [])
  pub bytes : file_after t out ≡ over file out

-- An accepted file, of either version, written again from its content, has the same bytes.
abbrev pub AgainClaim : Type 0
AgainClaim =
    (file : List ℕ) (t : Trial) (rest : List ℕ) → AllBelow 256 file → parse file ≡ parsed t rest
    → (h : ℕ) (times out : List ℕ) → length file ≤ length out → WrittenAgain file (passed_on t h times) out

-- The reader reads exactly the content t from a file of the given size, and puts its lists at the front of the slices lent for them.
pub record ReadBack (t : Trial) (size : ℕ) (rooms file : List ℕ) : Type 0 where
  pub whole : length file ≡ size
  pub content : read rooms file ≡ parsed t []
  pub reply : read_reply size (read rooms file) ≡ content_reply size t
  pub name : name_read (read rooms file) ≡ t.name
  pub levels : (k : ℕ) (slice : List ℕ) → levels_after k (read rooms file) slice ≡ over (list_of k t) slice

-- The bytes that the writer left, as many as it said, are read back to the same content, at either version.
abbrev pub BackClaim : Type 0
BackClaim =
    (v n f g h : ℕ) (powers forces times name out : List ℕ) (size : ℕ) → LowLevels (powers ∷ forces ∷ times ∷ [])
    → let t : Trial = trial_from v n (f ∷ g ∷ h ∷ []) (powers ∷ forces ∷ times ∷ []) name in
    write_reply t (length out) ≡ served (size ∷ [])
    → (rooms : List ℕ) → Roomy rooms → ReadBack t size rooms (take size (file_after t out))

-- No trial file of a version has more bytes.
abbrev pub file_room : ℕ → ℕ
file_room v = cond (eqb v 1) 429 622

-- Neither one that the writer wrote nor one that the reader accepts.
pub record RoomClaim : Type 0 where
  pub written : (v n f g h : ℕ) (powers forces times name : List ℕ) (room size : ℕ) → LowLevels (powers ∷ forces ∷ times ∷ [])
      → write_reply (trial_from v n (f ∷ g ∷ h ∷ []) (powers ∷ forces ∷ times ∷ []) name) room ≡ served (size ∷ []) → size ≤ file_room v
  pub accepted : (rooms file : List ℕ) (t : Trial) (rest : List ℕ) → AllBelow 256 file
      → read rooms file ≡ parsed t rest → length file ≤ file_room t.head.version

-- Document 01's own rules: version 1 alone; a level not above the one before it may not follow; numbers of 32 bits.
abbrev pub document01 : Rules
document01 = record { highest = 1; barred = not_above; numbers = limits32 }

-- Files accepted before are still accepted: what document 01's rules let pass, the reader accepts with the same content.
abbrev pub StillClaim : Type 0
StillClaim =
    (file : List ℕ) (t : Trial) (rest : List ℕ) → parse_under document01 file ≡ parsed t rest
    → (rooms : List ℕ) → Roomy rooms → read rooms file ≡ parsed t rest

-- The rules before request i: numbers of 32 bits.
abbrev pub shorter_numbers : Rules
shorter_numbers = record { highest = 2; barred = repeated; numbers = limits32 }

-- A file is accepted now exactly where it was before request i, with the same content. The slices lent for levels were and are judged
-- before the file.
abbrev pub SameFilesClaim : Type 0
SameFilesClaim =
    (file : List ℕ) (t : Trial) (rest : List ℕ) → (parse_under shorter_numbers file ≡ parsed t rest) ↔ (parse file ≡ parsed t rest)

-- What is shown of a content of version 1 that the reader gives: the values that it gave before request e, and the version behind them;
-- the two lists, each put where it was put before; and a third slice is left as it was.
pub record GivenBefore (n f g : ℕ) (powers forces name : List ℕ) : Type 0 where
  pub reply : (size : ℕ)
      → content_reply size (content_before n f g powers forces name)
      ≡ served (n ∷ f ∷ g ∷ (size - length name) ∷ length name ∷ 1 ∷ [])
  pub first : (rest slice : List ℕ) → levels_after 0 (parsed (content_before n f g powers forces name) rest) slice ≡ over powers slice
  pub second : (rest slice : List ℕ) → levels_after 1 (parsed (content_before n f g powers forces name) rest) slice ≡ over forces slice
  pub third : (rest slice : List ℕ) → levels_after 2 (parsed (content_before n f g powers forces name) rest) slice ≡ slice

-- A file whose version is not 2 is read as before request e, but for the numbers of request i, with a third slice that is long enough:
-- refused by the same number, or accepted with the same content.
pub record UnchangedClaim : Type 0 where
  pub decision : (file : List ℕ) → ((rest : List ℕ) → number file ≢ parsed 2 rest)
      → (powers_room forces_room times_room : ℕ) → 64 ≤ times_room
      → read (powers_room ∷ forces_room ∷ times_room ∷ []) file ≡ read_before powers_room forces_room file
  pub given : (n f g : ℕ) (powers forces name : List ℕ) → GivenBefore n f g powers forces name

-- The layout of version 2: a third code behind g, and a third list behind the forces.
abbrev pub LayoutClaim : Type 0
LayoutClaim =
    (n f g h : ℕ) (powers forces times name : List ℕ)
    → encode (trial_from 2 n (f ∷ g ∷ h ∷ []) (powers ∷ forces ∷ times ∷ []) name)
    ≡ encode_number 2 ++ encode_number n ++ encode_number f ++ encode_number g ++ encode_number h
    ++ encode_numbers powers ++ encode_numbers forces ++ encode_numbers times ++ encode_number (length name) ++ name

-- An accepted content: version v, 1 or 2, has v + 1 codes and v + 1 lists of 2^n levels each.
pub record AcceptedContent (t : Trial) : Type 0 where
  pub version : (t.head.version ≡ 1) ⊎ (t.head.version ≡ 2)
  pub codes : length t.head.codes ≡ suc t.head.version
  pub lists : length t.lists ≡ suc t.head.version
  pub levels : (k : ℕ) → k ≤ t.head.version → length (list_of k t) ≡ 2 ^ t.head.degree

abbrev pub ContentClaim : Type 0
ContentClaim =
    (rooms file : List ℕ) (t : Trial) (rest : List ℕ) → AllBelow 256 file → read rooms file ≡ parsed t rest → AcceptedContent t

-- At version 1, whatever is given for a third code and a third list, the writer decides as before and writes the same bytes.
pub record WrittenBefore (n f g h : ℕ) (powers forces times name : List ℕ) (room : ℕ) : Type 0 where
  pub reply : write_reply (trial_from 1 n (f ∷ g ∷ h ∷ []) (powers ∷ forces ∷ times ∷ []) name) room
      ≡ write_reply_before n f g powers forces name room
  pub bytes : encode (trial_from 1 n (f ∷ g ∷ h ∷ []) (powers ∷ forces ∷ times ∷ []) name) ≡ encode_before n f g powers forces name

abbrev pub BeforeClaim : Type 0
BeforeClaim = (n f g h : ℕ) (powers forces times name : List ℕ) (room : ℕ) → WrittenBefore n f g h powers forces times name room
