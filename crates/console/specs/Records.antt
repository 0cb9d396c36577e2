-- The library's records and replies, put together from what C passes.
use Rattle.std.specs.Prelude.{ℕ, cond, eqb, List, [], ◌≡◌, length, take, drop}
use Rattle.reply.specs.Reply.{Reply, after}
use Rattle.trial.specs.Trial.{Trial}
use Rattle.trial.specs.Replies.{read_reply, name_read, levels_after, write_reply, file_after}
use Rattle.trial_reader.specs.Answers.{read_into}
use Rattle.walk.specs.declared.Walk.{Walk}
use Rattle.walk.specs.Walks.{begun, start_reply, look_reply, draw_reply, after_draw, set_mark_reply}
use Rattle.walk.specs.Walks.{after_set_mark, go_back_reply, after_go_back}
use Rattle.saved.specs.Saved.{load}
use Rattle.saved.specs.Replies.{save_reply, file_after as saved_after, load_reply, record_read}
use Rattle.console.specs.Status.{status, value}

-- The reply to reading a file with these slices lent for the levels: degree, f, g, the name's offset and length, the version and, in
-- version 2, h.
abbrev pub trial_reply : List ℕ → List ℕ → List ℕ → List ℕ → Reply
trial_reply file powers forces times = read_reply (length file) (read_into file powers forces times)

-- A call that changes a record and gives no values: what it returns, and the record after it.
pub record Changes (reply : Reply) (changed walk' : Walk) (r : ℕ) : Type 0 where
  pub returned : r ≡ status reply
  pub stored : walk' ≡ changed

-- A start, with what stood in the record before; reading a saved walk, likewise; setting a mark; going back to one.
abbrev pub Starts : ℕ → Walk → Walk → ℕ → Type 0
Starts n walk = Changes (start_reply n) (after (start_reply n) (begun n) walk)

abbrev pub Loaded : List ℕ → Walk → Walk → ℕ → Type 0
Loaded file walk = Changes (load_reply (load file)) (after (load_reply (load file)) (record_read (load file)) walk)

abbrev pub SetsMark : Walk → ℕ → Walk → ℕ → Type 0
SetsMark walk mark = Changes (set_mark_reply walk mark) (after_set_mark walk mark)

abbrev pub GoesBack : Walk → ℕ → Walk → ℕ → Type 0
GoesBack walk mark = Changes (go_back_reply walk mark) (after_go_back walk mark)

-- Storing the new record in the lent one exactly where the status is 0 makes such a call's promise true, whatever stood there.
abbrev pub Stores : (Walk → Walk → ℕ → Type 0) → Walk → ℕ → Type 0
Stores says new s = (walk : Walk) → says walk (cond (eqb s 0) new walk) s

-- A call that writes a file: what it returns, the slice after it, and what stands behind the pointer for the length, with what stood there
-- before.
pub record Writes (reply : Reply) (written : List ℕ) (size : ℕ) (out' : List ℕ) (size' r : ℕ) : Type 0 where
  pub returned : r ≡ status reply
  pub out_after : out' ≡ written
  pub size_after : size' ≡ value 0 reply size

-- Saving a walk, with the slice before it.
abbrev pub WalkSaved : Walk → List ℕ → ℕ → List ℕ → ℕ → ℕ → Type 0
WalkSaved walk out = Writes (save_reply walk (length out)) (saved_after walk out)

-- A call that gives a pair: what it returns, and what stands behind the two pointers after it, with what stood there before.
pub record Gives (reply : Reply) (f g f' g' r : ℕ) : Type 0 where
  pub returned : r ≡ status reply
  pub first : f' ≡ value 0 reply f
  pub second : g' ≡ value 1 reply g

abbrev pub Looks : Walk → ℕ → ℕ → ℕ → ℕ → ℕ → Type 0
Looks walk = Gives (look_reply walk)

-- A draw for a bonder: the same, and the record after it.
pub record Draws (walk : Walk) (bonder : ℕ) (walk' : Walk) (f g f' g' r : ℕ) : Type 0 where
  pub answered : Gives (draw_reply walk bonder) f g f' g' r
  pub moved : walk' ≡ after_draw walk bonder

-- What stands behind the seven pointers for the values of a file.
pub record FileValues : Type 0 where
  pub degree : ℕ
  pub f : ℕ
  pub g : ℕ
  pub name : ℕ
  pub size : ℕ
  pub version : ℕ
  pub h : ℕ

abbrev pub file_values : ℕ → ℕ → ℕ → ℕ → ℕ → ℕ → ℕ → FileValues
file_values degree f g name size version h =
    record { degree = degree; f = f; g = g; name = name; size = size; version = version; h = h }

-- What stands there after a call with this reply: in version 1 there is no value for h.
abbrev pub values_after : Reply → FileValues → FileValues
values_after reply old =
    file_values (value 0 reply old.degree) (value 1 reply old.f) (value 2 reply old.g) (value 3 reply old.name)
    (value 4 reply old.size) (value 5 reply old.version) (value 6 reply old.h)

-- Reading a file: what it returns, the slices of levels after it, and what stands behind the pointers after it, with what stood there
-- before; and that the part of the file at the name's offset, of the name's length, is the name.
pub record TrialRead (file powers forces times : List ℕ) (old : FileValues) (powers' forces' times' : List ℕ) (new : FileValues) (r : ℕ)
    : Type 0 where
  pub returned : r ≡ status (trial_reply file powers forces times)
  pub powers_after : powers' ≡ levels_after 0 (read_into file powers forces times) powers
  pub forces_after : forces' ≡ levels_after 1 (read_into file powers forces times) forces
  pub times_after : times' ≡ levels_after 2 (read_into file powers forces times) times
  pub stored : new ≡ values_after (trial_reply file powers forces times) old
  pub named : after (trial_reply file powers forces times) (take new.size (drop new.name file)) []
      ≡ name_read (read_into file powers forces times)

-- Writing a trial file, with the slice before it.
abbrev pub TrialWritten : Trial → List ℕ → ℕ → List ℕ → ℕ → ℕ → Type 0
TrialWritten t out = Writes (write_reply t (length out)) (file_after t out)
