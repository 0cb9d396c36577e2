-- What saving a walk and reading one reply, what saving leaves in lent memory, and the record that reading gives.
use Rattle.std.specs.Prelude.{ℕ, List, [], ◌∷◌, ltb, length}
use Rattle.reply.specs.Reply.{Reply, served, refused, ◌gives◌, unless, after, over}
use Rattle.leb128.specs.Parser.{Parsed, parsed, failed}
use Rattle.walk.specs.declared.Walk.{Walk}
use Rattle.walk.specs.Walks.{begun, record_cause}
use Rattle.saved.specs.Saved.{encode_walk}

-- Saving gives the length of the file. It is refused by 3, then by 4 where the room is below that length.
unfoldable pub save_reply : Walk → ℕ → Reply
save_reply walk room =
    let size : ℕ = length (encode_walk walk) in
    unless (record_cause walk ∷ ltb room size gives 4 ∷ []) (served (size ∷ []))

-- The slice lent for the file, after saving.
abbrev pub file_after : Walk → List ℕ → List ℕ
file_after walk out = after (save_reply walk (length out)) (over (encode_walk walk) out) out

-- Reading has no values to give: it gives a record.
abbrev pub load_reply : Parsed Walk → Reply
load_reply (parsed walk rest) = served []
load_reply (failed number) = refused number

-- That record. Where a file is refused, it is one of degree 0, which every call refuses.
abbrev pub record_read : Parsed Walk → Walk
record_read (parsed walk rest) = walk
record_read (failed number) = begun 0
