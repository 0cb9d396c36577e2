-- The claims. A file is read part by part, and each part is the encoding of what was read; what is saved is within the limits of numbers,
-- so that each part is read back.
use mathlib.Core.Bool.{false}
use mathlib.Core.List.{List, [], ◌∷◌, ◌++◌, append-nil}
use mathlib.Core.Path.{◌≡◌, refl, sym, ap, ◌∙◌}
use Prim.Native.Nat.{ℕ, suc, ◌≤◌, ◌<◌}
use native.Mathlib.Decide.{dec_lt}
use native.Mathlib.Omega.{arith}
use borrow.Author.Tests.{le-ltb, ltb-false}
use lib.Dec.{ltb}
use lib.ListN.{length, get_or, take, replicate, length-append}
use lib.Seq.{take-append_seam}
use Rattle.reply.specs.Reply.{served, ◌gives◌}
use Rattle.reply.proofs.Order.{none_applies, none_refuses}
use Rattle.poly.specs.Limits.{outside, list_length}
use Rattle.poly.proofs.Ranges.{list_length_lt}
use Rattle.leb128.specs.Parser.{parsed}
use Rattle.leb128.specs.Number.{AllBelow, encode_number, encode_numbers, limits64}
use Rattle.leb128.proofs.Number.{encode_most, number_back, number_same}
use Rattle.leb128.proofs.Field.{NoneOf, field_back, below_rest, fields_back, fields_same}
use Rattle.walk.specs.declared.Walk.{Walk}
use Rattle.walk.specs.Walks.{walk_at, full_count, bad_record, record_cause, righted}
use Rattle.walk.specs.Claims.{Good, Sound}
use Rattle.walk.proofs.Looks.{good, accepted}
use Rattle.walk.proofs.Keeping.{holding, right_next}
use Rattle.walk.proofs.Counting.{nothing_yet}
use Rattle.walk.proofs.Claims.{walk_goes_on}
use Rattle.saved.specs.Saved.{encode_walk, kind_causes, count_causes, mark_causes, load}
use Rattle.saved.specs.Replies.{save_reply, file_after}
use Rattle.saved.specs.Release.{from_old}
use Rattle.saved.specs.Claims.{ResumedClaim, EightEach, BackClaim, AgainClaim, FirstKind, FirstKindClaim, RoomClaim}
use Rattle.saved.proofs.Ending.{ended_good}
use Rattle.saved.proofs.Saving.{parts, few_bytes, room}
use Rattle.saved.proofs.Release.{released}
use Rattle.saved.proofs.Parts.{Parts, parts_read, parts_sound}

pub resumed : ResumedClaim
resumed file walk rest e =
    let sound = parts_sound (parts_read file e) in record { sound = sound; goes_on = walk_goes_on walk sound }

-- ---- what a record that is saved is known for
-- the record with its pair set right passes where the record does
righted_good : (walk : Walk) → bad_record walk ≡ false → bad_record (righted walk) ≡ false
unfolding bad_record
righted_good walk e = e

sound_righted : (walk : Walk) → Sound walk → righted walk ≡ walk
sound_righted walk sound =
    sym (holding walk.degree walk.position walk.marks walk.counts (sym (right_next walk sound.right)))

none_above : (most k : ℕ) (numbers : List ℕ) → ((i : ℕ) → get_or numbers i 0 ≤ most) → NoneOf (λ n. ltb most n gives k ∷ []) numbers
none_above most k [] low = tt
none_above most k (n ∷ numbers) low = ((le-ltb most n (low 0), tt), none_above most k numbers (λ i. low (suc i)))

no_causes : (numbers : List ℕ) → NoneOf mark_causes numbers
no_causes [] = tt
no_causes (n ∷ numbers) = (tt, no_causes numbers)

-- a saved record is good, and the length is its encoding's
saved : (walk : Walk) (room size : ℕ) → save_reply walk room ≡ served (size ∷ [])
    → (bad_record walk ≡ false) × (length (encode_walk walk) ≤ room) × (length (encode_walk walk) ≡ size)
unfolding save_reply
saved walk room size e =
    let causes = record_cause walk ∷ ltb room (length (encode_walk walk)) gives 4 ∷ [] in
    let (good, (long, end)) = none_applies causes (length (encode_walk walk) ∷ []) (size ∷ []) e in
    let same : served (length (encode_walk walk) ∷ []) ≡ served (size ∷ []) = sym (none_refuses causes _ (good, (long, end))) ∙ e in
    (good, ltb-false room (length (encode_walk walk)) long, cc)

module _ (walk : Walk) (eight : EightEach walk) (ok : bad_record walk ≡ false) where
  abbrev is_good : Good walk
  is_good = good walk ok

  few : list_length walk.degree < 1000000000000000000
  few = list_length_lt walk.degree is_good.degree_high

  read_back : load (encode_walk walk) ≡ parsed (righted walk) []
  unfolding load outside
  read_back =
      let tables : List ℕ = encode_numbers walk.marks ++ encode_numbers walk.counts in
      let position : walk.position ≤ 18446744073709551615 = let l = is_good.position in omega (arith, few) in
      let degree : walk.degree ≤ 18446744073709551615 = let l = is_good.degree_high in omega arith in
      let marks = rw eight.eight_marks at
      (fields_back mark_causes walk.marks (encode_numbers walk.counts)
      (λ i. let l = is_good.marks i in omega (arith, few)) (no_causes walk.marks)) in
      let counts = rw (eight.eight_counts, append-nil) at
      (fields_back count_causes walk.counts [] (λ i. let l = is_good.counts i in omega arith)
      (none_above full_count 23 walk.counts is_good.counts)) in
      rw (
        parts walk,
        field_back kind_causes 2 (encode_number walk.degree ++ (encode_number walk.position ++ tables)) (omega arith) (refl, tt),
        number_back walk.degree (encode_number walk.position ++ tables) degree,
        number_back walk.position tables position,
        marks,
        counts,
      ) (ended_good (righted walk) (righted_good walk ok))

pub back : BackClaim
back walk eight out count e =
    let (ok, enough, is) = saved walk (length out) count e in
    let left : take count (file_after walk out) ≡ encode_walk walk = rw (e, ← is) (take-append_seam (encode_walk walk) _) in
    let read = read_back walk eight ok in
    rw left
    (record { long = is; righted_read = read; sound_read = λ sound. read ∙ ap (λ w. parsed w []) (sound_righted walk sound) })

-- ---- what a file that is read is made of
module _ {file : List ℕ} {walk : Walk} (below : AllBelow 256 file) (p : Parts file walk) where
  kind_same : encode_number p.kind ++ p.behind_kind ≡ file
  kind_same = number_same limits64 file below p.kind_read

  below_kind : AllBelow 256 p.behind_kind
  below_kind = below_rest (encode_number p.kind) p.behind_kind file kind_same below

  degree_same : encode_number p.degree ++ p.behind_degree ≡ p.behind_kind
  degree_same = number_same limits64 p.behind_kind below_kind p.degree_read

  below_degree : AllBelow 256 p.behind_degree
  below_degree = below_rest (encode_number p.degree) p.behind_degree p.behind_kind degree_same below_kind

  position_same : encode_number p.position ++ p.behind_position ≡ p.behind_degree
  position_same = number_same limits64 p.behind_degree below_degree p.position_read

  below_position : AllBelow 256 p.behind_position
  below_position = below_rest (encode_number p.position) p.behind_position p.behind_degree position_same below_degree

  place_same : encode_number p.kind ++ (encode_number p.degree ++ (encode_number p.position ++ p.behind_position)) ≡ file
  place_same = rw (position_same, degree_same) kind_same

  -- kind 2
  tables_same : p.kind ≡ 2 → encode_walk walk ≡ file
  tables_same two =
      let m = fields_same limits64 mark_causes 8 p.behind_position below_position (rw two at p.marks_read) in
      let c = fields_same limits64 count_causes 8 p.behind_marks m.below (rw two at p.counts_read) in
      let counts : encode_numbers p.counts ≡ p.behind_marks = sym (append-nil (encode_numbers p.counts)) ∙ c.same in
      let whole = rw two at place_same in
      ap encode_walk p.is ∙ parts (walk_at p.degree p.position p.marks p.counts) ∙ rw (counts, m.same) whole

  -- kind 1
  nothing_more : p.kind ≡ 1 → (p.behind_position ≡ []) × (p.marks ≡ replicate 8 0) × (p.counts ≡ replicate 8 0)
  nothing_more one =
      let m : parsed (replicate 8 0) p.behind_position ≡ parsed p.marks p.behind_marks = rw one at p.marks_read in
      let c : parsed (replicate 8 0) p.behind_marks ≡ parsed p.counts [] = rw one at p.counts_read in
      (cc, cc, cc)

  first_same : p.kind ≡ 1 → file ≡ encode_numbers (1 ∷ p.degree ∷ p.position ∷ [])
  first_same one = let (none, marks, counts) = nothing_more one in sym (rw (one, none) at place_same)

  read_good : Good (walk_at p.degree p.position p.marks p.counts)
  read_good = good (walk_at p.degree p.position p.marks p.counts) (rw p.is at p.good)

  first_kind : p.kind ≡ 1 → FirstKind file walk
  first_kind one =
      let (none, marks, counts) = nothing_more one in
      record {
        old = record { degree = p.degree; position = p.position };
        bytes = first_same one;
        begins = p.is ∙ rw (marks, counts);
        goes_on = released _ read_good.degree_low read_good.degree_high read_good.position;
      }

pub again : AgainClaim
again file walk rest behind below two e out enough =
    let p = parts_read file e in
    let kind : p.kind ≡ 2 = cc p.kind_read in
    let same = tables_same below p kind in
    let served_is = room walk out p.good (rw same enough) in
    record { encoding = same; reply = served_is ∙ ap (λ bytes. served (length bytes ∷ [])) same; bytes = rw (served_is, same) }

pub first_kind_read : FirstKindClaim
unfolding load outside
first_kind_read = record {
  accepted = λ file walk rest behind below one e. let p = parts_read file e in first_kind below p (cc p.kind_read);
  all_read =
      λ old low high l.
      let n : ℕ = old.degree in
      let few = list_length_lt n high in
      let empty : (i : ℕ) → get_or (replicate 8 0) i 0 ≤ 0 = λ i. let z = nothing_yet i in omega arith in
      let ok = accepted (from_old old) (record {
        degree_low = low;
        degree_high = high;
        position = l;
        marks = λ i. let z = empty i in omega arith;
        counts = λ i. let z = empty i in omega arith;
      }) in
      rw (
        field_back kind_causes 1 (encode_number n ++ (encode_number old.position ++ [])) (omega arith) (refl, tt),
        number_back n (encode_number old.position ++ []) (omega arith),
        number_back old.position [] (omega arith),
      ) (ended_good (from_old old) ok);
}

-- ---- how long a file is
first_few : (degree position : ℕ) → degree ≤ 31 → position < 1000000000000000000
    → length (encode_numbers (1 ∷ degree ∷ position ∷ [])) ≤ 155
first_few degree position low few =
    let k = encode_most 0 1 (omega arith) in
    let d = encode_most 0 degree (omega arith) in
    let p = encode_most 8 position (omega arith) in
    simp length-append (omega arith)

read_few : {file : List ℕ} {walk : Walk} → AllBelow 256 file → Parts file walk → length file ≤ 155
read_few {file} {walk} below p = elim (dec_lt p.kind 2) [
  | yes first ↦
      let one : p.kind ≡ 1 = omega (arith, p.kind_low) in
      let is_good = read_good below p in
      let few = list_length_lt p.degree is_good.degree_high in
      rw (first_same below p one)
      (first_few p.degree p.position is_good.degree_high (let l = is_good.position in omega arith))
  | no second ↦
      let two : p.kind ≡ 2 = omega (arith, p.kind_high) in
      let sound = parts_sound p in
      rw (← tables_same below p two) (few_bytes walk sound.eight_marks sound.eight_counts p.good)
]

pub saved_room : RoomClaim
saved_room = record {
  saved = λ walk eight space count e.
      let (ok, enough, is) = saved walk space count e in
      rw (← is) (few_bytes walk eight.eight_marks eight.eight_counts ok);
  read = λ file walk rest below e. read_few below (parts_read file e);
}
