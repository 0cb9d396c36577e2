-- What the reader promises, from its decision on the file: refused, or accepted with the levels copied.
use mathlib.Core.Logic.{◌⊎◌, inl, inr}
use mathlib.Core.Path.{◌≡◌, refl}
use Prim.Native.Nat.{ℕ, ◌-◌, ◌≤◌, ◌<◌}
use mathlib.Core.List.{List, [], ◌∷◌}
use native.Mathlib.Omega.{arith}
use lib.ListN.{length, take, drop, length-drop}
use lib.Seq.{length-take-le}
use borrow.Author.Tests.{lt-ltb, le-ltb}
use Rattle.reply.specs.Reply.{over}
use Rattle.reply.specs.Numbers.{number_of}
use Rattle.reply.specs.declared.Refusal.{Refusal}
use Rattle.trial_reader.specs.declared.reader.Layout.{Layout}
use Rattle.std.specs.Prelude.{Option, None, Some, Ok, Err}
use Rattle.leb128.specs.Parser.{parsed, failed}
use Rattle.trial.specs.Replies.{read}
use Rattle.trial_reader.specs.Inner.{thirds, content_of, content_from, LayoutInside}
use Rattle.trial_reader.specs.Answers.{read_into, ReadDone}

-- A slice that is too short, behind others that are long enough.
module _ (file : List ℕ) (p q : ℕ) where
  pub short_first : (rooms : List ℕ) → p < 64 → read (p ∷ rooms) file ≡ failed 4
  unfolding read
  short_first rooms h = rw (lt-ltb p 64 h)

  pub short_second : (rooms : List ℕ) → 64 ≤ p → q < 64 → read (p ∷ q ∷ rooms) file ≡ failed 4
  unfolding read
  short_second rooms hp h = rw (le-ltb p 64 hp, lt-ltb q 64 h)

  pub short_third : (r : ℕ) → 64 ≤ p → 64 ≤ q → r < 64 → read (p ∷ q ∷ r ∷ []) file ≡ failed 4
  unfolding read
  short_third r hp hq h = rw (le-ltb p 64 hp, le-ltb q 64 hq, lt-ltb r 64 h)

-- The third list has no more levels than the others.
pub times_few : (h : Option ℕ) {count r : ℕ} → r ≡ thirds h count → count ≤ 64 → r ≤ 64
times_few None e few = rw e (omega arith)
times_few (Some h) e few = rw e few

none_or_some : (o : Option ℕ) → (o ≡ None) ⊎ ((h : ℕ) × (o ≡ Some h))
none_or_some None = inl refl
none_or_some (Some h) = inr (h, refl)

module _ {file powers forces times : List ℕ} where
  pub refused_done : {why : Refusal} → read_into file powers forces times ≡ failed (number_of why)
      → ReadDone file powers forces times (Err why) powers forces times
  refused_done e = record { reply = rw e; unused = tt; name = rw e; powers_after = rw e; forces_after = rw e; times_after = rw e }

  pub accepted_done : (layout : Layout) (powers_read forces_read times_read : List ℕ) {powers' forces' times' : List ℕ}
      → read_into file powers forces times ≡ parsed (content_of file powers_read forces_read times_read layout) []
      → LayoutInside file layout
      → powers' ≡ over (take layout.count powers_read) powers
      → forces' ≡ over (take layout.count forces_read) forces
      → times' ≡ over (take (thirds layout.head.h layout.count) times_read) times
      → ReadDone file powers forces times (Ok (content_from layout)) powers' forces' times'
  accepted_done layout powers_read forces_read times_read e here p q t =
      let enough : layout.size ≤ length (drop layout.name_at file) = rw length-drop (omega (arith, here.last)) in
      let size = length-take-le layout.size (drop layout.name_at file) enough in
      let start : length file - layout.size ≡ layout.name_at = omega (arith, here.last) in
      elim (none_or_some layout.head.h) [
        | inl none ↦ record {
          reply = rw (e, none, size, start);
          unused = rw none (λ _. refl);
          name = rw e;
          powers_after = rw (e, none, p);
          forces_after = rw (e, none, q);
          times_after = rw (e, t, none);
        }
        | inr (h, some) ↦ record {
          reply = rw (e, some, size, start);
          unused = rw some (λ two. absurd (omega arith));
          name = rw e;
          powers_after = rw (e, some, p);
          forces_after = rw (e, some, q);
          times_after = rw (e, t, some);
        }
      ]
