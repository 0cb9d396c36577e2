-- What the writer promises, from its decision on the content: refused, too little room, or the bytes put.
use mathlib.Core.Bool.{true}
use Rattle.poly.specs.Limits.{outside}
use mathlib.Core.Path.{◌≡◌, refl, sym, ◌∙◌}
use Prim.Native.Nat.{ℕ, ◌^◌, ◌≤◌, ◌<◌}
use mathlib.Core.List.{List, [], ◌∷◌}
use native.Mathlib.Omega.{arith}
use lib.ListN.{length, get_or}
use Rattle.std.specs.Prelude.{Option, None, Some, Ok, Err}
use borrow.Author.Tests.{lt-ltb, le-ltb}
use Rattle.reply.specs.Numbers.{number_of}
use Rattle.reply.specs.Reply.{served, refused, unless, over}
use Rattle.reply.proofs.Order.{passed, failed, kept, none_applies}
use Rattle.reply.specs.declared.Refusal.{Refusal}
use Rattle.leb128.specs.Writing.{Puts}
use Rattle.leb128.proofs.Putting.{front_put}
use Rattle.trial.specs.Trial.{Trial, trial_from, encode}
use Rattle.trial.specs.Replies.{list_of, content_causes, room_causes, write_reply}
use Rattle.trial_writer.specs.Inner.{lists_from, trial_of, FewTimes, Short}
use Rattle.trial_writer.specs.declared.content.Third.{Third}
use Rattle.trial_writer.specs.declared.content.Content.{Content}
use Rattle.trial_writer.specs.Answers.{WriteDone}
use Rattle.trial.proofs.Order.{order_few}
use Rattle.trial.proofs.Content.{Sound, sound}

module _ (t : Trial) (out : List ℕ) where
  pub refused_write : {why : Refusal} → refused (number_of why) ≡ write_reply t (length out) → WriteDone t out (Err why) out
  refused_write e = record { reply = e; after = kept e (over (encode t) out) out }

  pub content_refused : {number : ℕ} → refused number ≡ unless (content_causes t) (served []) → refused number ≡ write_reply t (length out)
  unfolding write_reply
  content_refused e = failed (room_causes (length out) (length (encode t))) (served (length (encode t) ∷ [])) (content_causes t) e

  module _ (accepted : served [] ≡ unless (content_causes t) (served [])) where
    last_cause : write_reply t (length out) ≡ unless (room_causes (length out) (length (encode t))) (served (length (encode t) ∷ []))
    unfolding write_reply
    last_cause = passed (room_causes (length out) (length (encode t))) (served (length (encode t) ∷ [])) (content_causes t) accepted

    pub no_room : length out < length (encode t) → refused 4 ≡ write_reply t (length out)
    no_room h = rw (last_cause, lt-ltb (length out) (length (encode t)) h)

    pub put_write : {r : ℕ} {out' : List ℕ} → length (encode t) ≤ length out → Puts out 0 (encode t) r out'
        → WriteDone t out (Ok r) out'
    put_write h p =
        let e : write_reply t (length out) ≡ served (length (encode t) ∷ []) =
        last_cause ∙ rw (le-ltb (length out) (length (encode t)) h) in
        let (next, after) = front_put h p in
        record { reply = rw (e, next); after = rw (e, after) }

few : (t : Trial) → Sound t → (k : ℕ) → k < length t.lists → length (list_of k t) ≤ 64
few t s k h =
    let order : 2 ^ t.head.degree ≤ 64 = order_few t.head.degree s.degree in
    omega (arith, (s.lists k h).long)

all_few : (powers forces : List ℕ) (third : Option Third)
    → let lists = lists_from powers forces third in
    ((k : ℕ) → k < length lists → length (get_or lists k []) ≤ 64)
    → (length powers ≤ 64) × (length forces ≤ 64) × FewTimes third
all_few powers forces None h = (h 0 (omega arith), h 1 (omega arith), tt)
all_few powers forces (Some third) h = (h 0 (omega arith), h 1 (omega arith), h 2 (omega arith))

-- What is accepted is short.
pub short : (content : Content) → served [] ≡ unless (content_causes (trial_of content)) (served []) → Short content
short content accepted =
    let t = trial_of content in
    let s = sound t (none_applies (content_causes t) [] [] (sym accepted)) in
    let (powers, forces, times) = all_few content.powers.now content.forces.now content.third (few t s) in
    record { few_powers = powers; few_forces = forces; few_times = times; short_name = s.name_short }

-- There is no such version.
pub no_version : (v n : ℕ) (codes : List ℕ) (lists : List (List ℕ)) (name : List ℕ) → outside 1 2 v ≡ true
    → refused 11 ≡ unless (content_causes (trial_from v n codes lists name)) (served [])
unfolding content_causes
no_version v n codes lists name e = rw e refl
