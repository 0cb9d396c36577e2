-- The codec in the words of the papers, over whole files: the two laws of the encoding and the bound of its length, carried over to the
-- replies.
use mathlib.Core.Path.{◌≡◌, refl, ap, ◌∙◌}
use Prim.Native.Nat.{ℕ, zero, suc, ◌≤◌}
use mathlib.Core.List.{List, [], ◌∷◌, ◌++◌, map, append_assoc, append-nil}
use native.Mathlib.Omega.{arith}
use lib.ListN.{length, get_or, take}
use lib.Dec.{ltb}
use lib.Seq.{take-append_seam}
use borrow.Author.Tests.{le-ltb}
use Rattle.reply.specs.Reply.{served, ◌gives◌}
use Rattle.reply.proofs.Order.{NoneApplies, none_applies, none_refuses, clear_append, clear_left}
use Rattle.poly.proofs.Ranges.{within}
use Rattle.leb128.specs.Parser.{parsed}
use Rattle.leb128.specs.Number.{AllBelow}
use Rattle.leb128.proofs.Parser.{barring_clear, barred}
use Rattle.trial.specs.Trial.{Trial, trial_from, encode_head, encode_body, encode, parse}
use Rattle.trial.specs.Replies.{read, content_causes, room_causes, write_reply, file_after}
use Rattle.trial.specs.Claims.{LowLevels, Roomy, passed_on, AgainClaim, BackClaim, RoomClaim, ContentClaim, LayoutClaim}
use Rattle.trial.proofs.Content.{Formed, sound, formed, version_is}
use Rattle.trial.proofs.Trial.{Accepted, trial_back, trial_same}
use Rattle.trial.proofs.Room.{encode_room}

-- Two or three entries, one by one; a third that is not there may be anything.
pub parts_of : {A : Type 0} (v : ℕ) (xs : List A) (d third : A) → 1 ≤ v → v ≤ 2 → length xs ≡ suc v
    → take (suc v) (get_or xs 0 d ∷ get_or xs 1 d ∷ get_or xs 2 third ∷ []) ≡ xs
parts_of v [] d third low high e = absurd (omega arith)
parts_of v (x ∷ []) d third low high e = absurd (omega arith)
parts_of v (x ∷ y ∷ []) d third low high e = let v_is : v ≡ 1 = omega arith in rw v_is
parts_of v (x ∷ y ∷ z ∷ []) d third low high e = let v_is : v ≡ 2 = omega arith in rw v_is
parts_of v (x ∷ y ∷ z ∷ w ∷ xs) d third low high e = absurd (omega arith)

passed_on_lem : (t : Trial) (h : ℕ) (times : List ℕ) → Formed t → NoneApplies (content_causes t) → passed_on t h times ≡ t
passed_on_lem t h times formed clear =
    let v : ℕ = t.head.version in
    let (low, high) = within 1 2 (sound t clear).version in
    let codes = parts_of v t.head.codes 0 h low high formed.codes in
    let lists = parts_of v t.lists [] times low high formed.lists in
    rw (codes, lists)

pub written_again : AgainClaim
unfolding write_reply
written_again file t rest below e h times out room =
    let a = trial_same file below e in
    let fits : length (encode t) ≤ length out = rw a.same room in
    let room_clear : NoneApplies (room_causes (length out) (length (encode t))) = (le-ltb (length out) (length (encode t)) fits, tt) in
    let clear = clear_append (content_causes t) (room_causes (length out) (length (encode t))) a.clear room_clear in
    let reply : write_reply t (length out) ≡ served (length (encode t) ∷ []) =
    none_refuses (content_causes t ++ room_causes (length out) (length (encode t))) (served (length (encode t) ∷ [])) clear in
    rw (passed_on_lem t h times a.formed a.clear) (record { reply = rw (← a.same) reply; bytes = rw (reply, a.same) })

-- What the writer's reply tells: the content is refused for nothing, and this is the length of its encoding.
pub record Wrote (t : Trial) (size : ℕ) : Type 0 where
  pub clear : NoneApplies (content_causes t)
  pub length_is : length (encode t) ≡ size

pub wrote : (t : Trial) (room size : ℕ) → write_reply t room ≡ served (size ∷ []) → Wrote t size
unfolding write_reply
wrote t room size e =
    let causes = content_causes t ++ room_causes room (length (encode t)) in
    let clear = none_applies causes (length (encode t) ∷ []) (size ∷ []) e in
    let reply = none_refuses causes (served (length (encode t) ∷ [])) clear in
    record { clear = clear_left (content_causes t) (room_causes room (length (encode t))) clear; length_is = cc }

-- With enough room for the levels the reader only parses.
pub parses : (rooms file : List ℕ) → Roomy rooms → read rooms file ≡ parse file
unfolding read
parses rooms file roomy = barring_clear (map (λ room. ltb room 64 gives 4) rooms) parse file (enough rooms roomy)
  where
    enough : (rooms : List ℕ) → Roomy rooms → NoneApplies (map (λ room. ltb room 64 gives 4) rooms)
    enough [] roomy = tt
    enough (room ∷ rooms) roomy = (le-ltb room 64 roomy.0, enough rooms roomy.1)

-- The lists that the version has are below 65536 if all are.
low_taken : (count : ℕ) (lists : List (List ℕ)) → LowLevels lists → LowLevels (take count lists)
low_taken zero lists low = λ k i. omega arith
low_taken (suc count) [] low = low
low_taken (suc count) (levels ∷ lists) low = elim [ zero ↦ low 0 | suc k ↦ low_taken count lists (λ k. low (suc k)) k ]

-- What a call passed, where it was written.
module _ (v n f g h : ℕ) (powers forces times name : List ℕ) where
  abbrev given : Trial
  given = trial_from v n (f ∷ g ∷ h ∷ []) (powers ∷ forces ∷ times ∷ []) name

  given_formed : NoneApplies (content_causes given) → Formed given
  given_formed clear = formed v n (f ∷ g ∷ h ∷ []) (powers ∷ forces ∷ times ∷ []) name refl refl (sound given clear).version

pub read_back : BackClaim
read_back v n f g h powers forces times name out size low e rooms roomy =
    let t : Trial = given v n f g h powers forces times name in
    let w = wrote t (length out) size e in
    let low_lists = low_taken (suc v) (powers ∷ forces ∷ times ∷ []) low in
    let file_is : take size (file_after t out) ≡ encode t = rw (e, ← w.length_is) (take-append_seam (encode t) _) in
    let back : read rooms (take size (file_after t out)) ≡ parsed t [] =
    parses rooms _ roomy ∙ rw file_is (trial_back t (given_formed v n f g h powers forces times name w.clear) low_lists w.clear) in
    record {
      whole = ap length file_is ∙ w.length_is;
      content = back;
      reply = rw back;
      name = rw back;
      levels = λ k slice. rw back;
    }

-- A file that the reader accepts is the encoding of a content that the writer accepts.
pub read_same : (rooms file : List ℕ) {t : Trial} {rest : List ℕ} → AllBelow 256 file → read rooms file ≡ parsed t rest → Accepted file t
unfolding read
read_same rooms file below e = trial_same file below (barred (map (λ room. ltb room 64 gives 4) rooms) parse file e).1

pub file_room_lem : RoomClaim
file_room_lem =
    record {
      written =
          λ v n f g h powers forces times name room size low e.
          let t : Trial = given v n f g h powers forces times name in
          let w = wrote t room size e in
          let low_lists = low_taken (suc v) (powers ∷ forces ∷ times ∷ []) low in
          rw w.length_is at (encode_room t (given_formed v n f g h powers forces times name w.clear) low_lists w.clear);
      accepted =
          λ rooms file t rest below e.
          let a = read_same rooms file below e in rw a.same at (encode_room t a.formed a.low a.clear);
    }

pub content_accepted : ContentClaim
content_accepted rooms file t rest below e =
    let a = read_same rooms file below e in
    let s = sound t a.clear in
    record {
      version = version_is t.head.version s.version;
      codes = a.formed.codes;
      lists = a.formed.lists;
      levels = λ k h. (s.lists k (omega (arith, a.formed.lists))).long;
    }

pub layout : LayoutClaim
unfolding encode encode_head encode_body
layout n f g h powers forces times name = simp (append_assoc, append-nil)
