-- Bytes put into a slice one after the other: `left` of `all` the bytes are still to be put, from `next` on.
use mathlib.Core.Path.{◌≡◌, refl, sym, ◌∙◌}
use Prim.Native.Nat.{ℕ, ◌+◌, ◌≤◌}
use mathlib.Core.List.{List, [], ◌∷◌, ◌++◌}
use native.Mathlib.Nat.{add-zero, zero-add}
use native.Mathlib.Numerals.{add-one}
use native.Mathlib.Omega.{arith}
use borrow.Author.Tests.{le-leb}
use lib.ListN.{length, set, length-set, length-append}
use lib.Seq.{sets, length-sets, sets-eq}
use Rattle.reply.specs.Reply.{over}
use Rattle.poly.proofs.Stores.{sets_append}
use Rattle.leb128.specs.Writing.{Puts, PutsFitting}

-- What fits is put.
pub fitting : {out : List ℕ} {at : ℕ} {bytes : List ℕ} {r : ℕ} {out' : List ℕ} → at + length bytes ≤ length out
    → PutsFitting out at bytes r out' → Puts out at bytes r out'
fitting {out} {at} {bytes} h p =
    let fits = le-leb (at + length bytes) (length out) h in record { next = rw fits at p.next; after = rw fits at p.after }

-- What is put at the front of a slice.
pub front_put : {out bytes : List ℕ} {r : ℕ} {out' : List ℕ} → length bytes ≤ length out → Puts out 0 bytes r out'
    → (r ≡ length bytes) × (out' ≡ over bytes out)
front_put {out} {bytes} h p =
    let room : 0 + length bytes ≤ length out = omega arith in
    (rw (p.next, zero-add), rw (p.after, sets-eq bytes out 0 room, zero-add))

pub record Putting (out₀ out : List ℕ) (at next : ℕ) (all left : List ℕ) : Type 0 where
  pub place : next + length left ≡ at + length all
  pub same : sets out next left ≡ sets out₀ at all
  pub kept : length out ≡ length out₀

pub none_put : (out : List ℕ) (at : ℕ) {all left : List ℕ} → all ≡ left → Putting out out at at all left
none_put out at e = record { place = rw e; same = rw e; kept = refl }

module _ {out₀ out : List ℕ} {at next : ℕ} {all : List ℕ} where
  pub byte_put : {byte : ℕ} {left : List ℕ} → Putting out₀ out at next all (byte ∷ left)
      → Putting out₀ (set out next byte) at (next + 1) all left
  byte_put p = record { place = omega (arith, p.place); same = rw add-one p.same; kept = rw (length-set, p.kept) }

  pub bytes_put : {out' : List ℕ} {next' : ℕ} (bytes : List ℕ) {left : List ℕ} → Putting out₀ out at next all (bytes ++ left)
      → Puts out next bytes next' out' → Putting out₀ out' at next' all left
  bytes_put bytes {left} p q =
      record {
        place = omega (arith, p.place, q.next, length-append bytes left);
        same = rw (q.after, q.next, ← sets_append out next bytes left) p.same;
        kept = rw (q.after, length-sets, p.kept);
      }

  pub all_put : Putting out₀ out at next all [] → Puts out₀ at all next out
  all_put p = record { next = sym (add-zero next) ∙ p.place; after = p.same }

  pub last_put : {bytes out' : List ℕ} {next' : ℕ} → Putting out₀ out at next all bytes → Puts out next bytes next' out'
      → Puts out₀ at all next' out'
  last_put {bytes} p q = record { next = q.next ∙ p.place; after = q.after ∙ p.same }

  pub room_left : {left : List ℕ} → Putting out₀ out at next all left → at + length all ≤ length out₀ → next + length left ≤ length out
  room_left p h = omega (arith, p.place, p.kept)

  pub room_first : (bytes left : List ℕ) → Putting out₀ out at next all (bytes ++ left) → at + length all ≤ length out₀
      → next + length bytes ≤ length out
  room_first bytes left p h = omega (arith, room_left p h, length-append bytes left)

  -- A part that is known to fit.
  pub part_put : {out' : List ℕ} {next' : ℕ} (bytes : List ℕ) {left : List ℕ} → Putting out₀ out at next all (bytes ++ left)
      → at + length all ≤ length out₀ → PutsFitting out next bytes next' out' → Putting out₀ out' at next' all left
  part_put bytes {left} p h q = bytes_put bytes p (fitting (room_first bytes left p h) q)

  pub last_part_put : {bytes out' : List ℕ} {next' : ℕ} → Putting out₀ out at next all bytes → at + length all ≤ length out₀
      → PutsFitting out next bytes next' out' → Puts out₀ at all next' out'
  last_part_put p h q = last_put p (fitting (room_left p h) q)
