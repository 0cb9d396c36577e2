-- What is claimed of saving walks and reading them (document 02, request i). Bytes are below 256, as those of slices are.
use Rattle.std.specs.Prelude.{◌≡◌, ℕ, ◌≤◌, List, [], ◌∷◌, length, take}
use Rattle.reply.specs.Reply.{served, over}
use Rattle.poly.specs.Limits.{list_length}
use Rattle.leb128.specs.Parser.{parsed}
use Rattle.leb128.specs.Number.{AllBelow, encode_numbers, number}
use Rattle.walk.specs.declared.Walk.{Walk}
use Rattle.walk.specs.Walks.{righted}
use Rattle.walk.specs.Calls.{Call}
use Rattle.walk.specs.Claims.{Sound, GoesOn}
use Rattle.saved.specs.Saved.{encode_walk, load}
use Rattle.saved.specs.Replies.{save_reply, file_after}
use Rattle.saved.specs.Release.{OldWalk, from_old, AnswersAsOld}

-- Reading begins a walk of its own. Its record is sound, so that all that is claimed of a list of calls on a walk holds from it: draws and
-- counts run on from what the file says, and what draws give is added to those counts. Nothing is claimed across the reading.
pub record Resumed (walk : Walk) : Type 0 where
  pub sound : Sound walk
  pub goes_on : (calls : List Call) → GoesOn walk calls

abbrev pub ResumedClaim : Type 0
ResumedClaim = (file : List ℕ) (walk : Walk) (rest : List ℕ) → load file ≡ parsed walk rest → Resumed walk

-- Eight marks and eight counts, as every record of the program has.
pub record EightEach (walk : Walk) : Type 0 where
  pub eight_marks : length walk.marks ≡ 8
  pub eight_counts : length walk.counts ≡ 8

-- A file reads back to the record that was saved, with the pair worked out: to the record itself where that was sound.
pub record ReadBack (walk : Walk) (size : ℕ) (file : List ℕ) : Type 0 where
  pub long : length file ≡ size
  pub righted_read : load file ≡ parsed (righted walk) []
  pub sound_read : Sound walk → load file ≡ parsed walk []

-- The bytes that saving left at the front of the slice, as many as it said, read back so.
abbrev pub BackClaim : Type 0
BackClaim =
    (walk : Walk) → EightEach walk → (out : List ℕ) (size : ℕ) → save_reply walk (length out) ≡ served (size ∷ [])
    → ReadBack walk size (take size (file_after walk out))

-- An accepted file of kind 2 is the encoding of the record that is read, so that it has the same bytes when that is saved again.
pub record SavedAgain (file : List ℕ) (walk : Walk) (out : List ℕ) : Type 0 where
  pub encoding : encode_walk walk ≡ file
  pub reply : save_reply walk (length out) ≡ served (length file ∷ [])
  pub bytes : file_after walk out ≡ over file out

abbrev pub AgainClaim : Type 0
AgainClaim =
    (file : List ℕ) (walk : Walk) (rest behind : List ℕ) → AllBelow 256 file → number file ≡ parsed 2 behind → load file ≡ parsed walk rest
    → (out : List ℕ) → length file ≤ length out → SavedAgain file walk out

-- A file of kind 1 holds the degree and the position of the old release and nothing else. Its walk has empty marks and counts of zero, and
-- answers, up to the first return that is served, as the old release would have.
pub record FirstKind (file : List ℕ) (walk : Walk) : Type 0 where
  pub old : OldWalk
  pub bytes : file ≡ encode_numbers (1 ∷ old.degree ∷ old.position ∷ [])
  pub begins : walk ≡ from_old old
  pub goes_on : AnswersAsOld old

-- Every file of kind 1 that is read is such a one, and every record that the old release accepts is read from one.
pub record FirstKindClaim : Type 0 where
  pub accepted : (file : List ℕ) (walk : Walk) (rest behind : List ℕ) → AllBelow 256 file → number file ≡ parsed 1 behind
      → load file ≡ parsed walk rest → FirstKind file walk
  pub all_read : (old : OldWalk) → 1 ≤ old.degree → old.degree ≤ 31 → old.position ≤ list_length old.degree
      → load (encode_numbers (1 ∷ old.degree ∷ old.position ∷ [])) ≡ parsed (from_old old) []

-- No saved walk has more than 155 bytes, neither one that was saved nor one that is read.
pub record RoomClaim : Type 0 where
  pub saved : (walk : Walk) → EightEach walk → (room size : ℕ) → save_reply walk room ≡ served (size ∷ []) → size ≤ 155
  pub read : (file : List ℕ) (walk : Walk) (rest : List ℕ) → AllBelow 256 file → load file ≡ parsed walk rest → length file ≤ 155
