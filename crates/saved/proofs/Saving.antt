-- What saving promises, case by case; and the parts of a file.
use mathlib.Core.Bool.{true, false}
use mathlib.Core.List.{List, [], ◌∷◌, ◌++◌}
use mathlib.Core.Path.{◌≡◌}
use Prim.Native.Nat.{ℕ, ◌+◌, ◌≤◌, ◌<◌}
use native.Mathlib.Omega.{arith}
use borrow.Author.Tests.{lt-ltb, le-ltb}
use lib.Dec.{lit<}
use lib.ListN.{length, length-append}
use Rattle.reply.specs.Reply.{served, refused, over}
use Rattle.reply.specs.Numbers.{number_of}
use Rattle.reply.specs.declared.Refusal.{Refusal}
use Rattle.reply.proofs.Order.{kept}
use Rattle.poly.proofs.Ranges.{list_length_lt}
use Rattle.leb128.specs.Number.{encode_number, encode_numbers}
use Rattle.leb128.specs.Writing.{Puts}
use Rattle.leb128.proofs.Number.{encode_small, encode_most, numbers_most, numbers_append}
use Rattle.leb128.proofs.Putting.{front_put}
use Rattle.walk.specs.declared.Walk.{Walk}
use Rattle.walk.specs.Walks.{bad_record}
use Rattle.walk.proofs.Looks.{good}
use Rattle.std.specs.Prelude.{Ok, Err}
use Rattle.saved.specs.Saved.{encode_walk}
use Rattle.saved.specs.Replies.{save_reply}
use Rattle.saved.specs.Answers.{SaveDone}

pub parts : (walk : Walk)
    → encode_walk walk
    ≡ encode_number 2 ++ (encode_number walk.degree ++ (encode_number walk.position
    ++ (encode_numbers walk.marks ++ encode_numbers walk.counts)))
unfolding encode_walk
parts walk = rw (numbers_append walk.marks walk.counts)

pub size : (walk : Walk)
    → length (encode_walk walk)
    ≡ 1 + length (encode_number walk.degree) + length (encode_number walk.position) + length (encode_numbers walk.marks)
    + length (encode_numbers walk.counts)
size walk = rw (parts walk, encode_small 2 (lit< tt)) (simp length-append (omega arith))

-- A byte of the kind and one of the degree; each other number is below 128^9.
pub few_bytes : (walk : Walk) → length walk.marks ≡ 8 → length walk.counts ≡ 8 → bad_record walk ≡ false
    → length (encode_walk walk) ≤ 155
few_bytes walk eight_marks eight_counts ok =
    let g = good walk ok in
    let few = list_length_lt walk.degree g.degree_high in
    let d = encode_most 0 walk.degree (let l = g.degree_high in omega arith) in
    let p = encode_most 8 walk.position (let l = g.position in omega arith) in
    let m = numbers_most 8 walk.marks (λ i. let l = g.marks i in omega arith) in
    let c = numbers_most 8 walk.counts (λ i. let l = g.counts i in omega arith) in
    omega (arith, size walk)

module _ (walk : Walk) (out : List ℕ) where
  pub refused_save : {why : Refusal} → refused (number_of why) ≡ save_reply walk (length out) → SaveDone walk out (Err why) out
  refused_save e = record { reply = e; after = kept e (over (encode_walk walk) out) out }

  pub bad_save : bad_record walk ≡ true → refused 3 ≡ save_reply walk (length out)
  unfolding save_reply
  bad_save bad = rw bad

  module _ (good : bad_record walk ≡ false) where
    pub no_room : length out < length (encode_walk walk) → refused 4 ≡ save_reply walk (length out)
    unfolding save_reply
    no_room h = rw (good, lt-ltb (length out) (length (encode_walk walk)) h)

    pub room : length (encode_walk walk) ≤ length out → save_reply walk (length out) ≡ served (length (encode_walk walk) ∷ [])
    unfolding save_reply
    room h = rw (good, le-ltb (length out) (length (encode_walk walk)) h)

    pub put_save : {r : ℕ} {out' : List ℕ} → length (encode_walk walk) ≤ length out → Puts out 0 (encode_walk walk) r out'
        → SaveDone walk out (Ok r) out'
    put_save h p = let (next, after) = front_put h p in record { reply = rw (room h, next); after = rw (room h, after) }
