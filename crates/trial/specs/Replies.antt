-- What the reader and the writer of a trial file reply, and what they leave in lent memory.
use Rattle.std.specs.Prelude.{ℕ, ◌-◌, ◌^◌, not, List, [], ◌∷◌, ◌++◌, map, ltb, eqb, length, get_or, take, drop}
use Rattle.levels.specs.Levels.{repeats}
use Rattle.reply.specs.Reply.{Reply, served, refused, Cause, ◌gives◌, unless, after, over}
use Rattle.leb128.specs.Parser.{Parsed, parsed, failed, Parser, barring}
use Rattle.trial.specs.Rules.{today}
use Rattle.trial.specs.Trial.{Trial, encode, head_causes, size_causes, any_unprintable, parse}

-- The reader's decision, with so much room in each of the slices lent for the levels. 4 comes first: one of them is shorter than 64.
unfoldable pub read : List ℕ → Parser Trial
read rooms = barring (map (λ room. ltb room 64 gives 4) rooms) parse

-- Degree, f, g; where the name is: its start, since it is the last of the file's bytes, and its length; the version and, in version 2, h.
abbrev pub content_reply : ℕ → Trial → Reply
content_reply size t =
    served (t.head.degree ∷ take 2 t.head.codes
    ++ ((size - length t.name) ∷ length t.name ∷ t.head.version ∷ drop 2 t.head.codes))

abbrev pub read_reply : ℕ → Parsed Trial → Reply
read_reply size (parsed t rest) = content_reply size t
read_reply size (failed number) = refused number

-- The name that the reader gives; none where the file is refused.
abbrev pub name_read : Parsed Trial → List ℕ
name_read (parsed t rest) = t.name
name_read (failed number) = []

-- List k of a content: 0 the powers, 1 the forces, 2 the times, of which version 1 has none.
abbrev pub list_of : ℕ → Trial → List ℕ
list_of k t = get_or t.lists k []

-- A slice lent for list k, after reading. Where the content has no such list, nothing is put.
abbrev pub levels_after : ℕ → Parsed Trial → List ℕ → List ℕ
levels_after k (parsed t rest) slice = over (list_of k t) slice
levels_after k (failed number) slice = slice

-- 4: a list of levels is not of the length that the degree asks.
abbrev pub length_causes : ℕ → List (List ℕ) → List Cause
length_causes order lists = map (λ levels. not (eqb (length levels) order) gives 4) lists

-- 14, list by list: a level is equal to an earlier one of its list.
abbrev pub repeat_causes : List (List ℕ) → List Cause
repeat_causes lists = map (λ levels. repeats levels gives 14) lists

abbrev pub list_causes : ℕ → List (List ℕ) → List Cause
list_causes order lists = length_causes order lists ++ repeat_causes lists

-- 15: too long; 16: a byte outside 32 to 126.
abbrev pub name_causes : List ℕ → List Cause
name_causes name = size_causes (length name) ++ (any_unprintable name gives 16 ∷ [])

-- What the writer refuses the rest of a content for, behind the head.
abbrev pub body_causes : Trial → List Cause
body_causes t = list_causes (2 ^ t.head.degree) t.lists ++ name_causes t.name

-- What the writer refuses a content for.
unfoldable pub content_causes : Trial → List Cause
content_causes t = head_causes today t.head ++ body_causes t

-- 4: a slice with this room is too short for a file of this size.
abbrev pub room_causes : ℕ → ℕ → List Cause
room_causes room size = ltb room size gives 4 ∷ []

-- The writer's reply: the length of the file, unless the content is refused or the slice has too little room.
unfoldable pub write_reply : Trial → ℕ → Reply
write_reply t room = unless (content_causes t ++ room_causes room (length (encode t))) (served (length (encode t) ∷ []))

-- The slice lent for the file, after writing.
abbrev pub file_after : Trial → List ℕ → List ℕ
file_after t out = after (write_reply t (length out)) (over (encode t) out) out
