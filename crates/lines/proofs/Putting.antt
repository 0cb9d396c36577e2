-- Bytes put into a slice in two steps are put in one: `put` is a row of stores, each behind the one before.
use mathlib.Core.Path.{◌≡◌, refl, sym, ap, ◌∙◌}
use Prim.Native.Nat.{ℕ, ◌+◌, ◌≤◌, ◌<◌}
use mathlib.Core.List.{List, [], ◌∷◌, ◌++◌}
use native.Mathlib.Omega.{arith}
use lib.ListN.{length, set, take, drop, length-append}
use lib.Seq.{sets, length-sets, sets-eq, paste, take-length, take-append_seam}
use Rattle.poly.proofs.Stores.{sets_append}
use Rattle.lines.specs.Text.{put, Placed, Lined}

put_sets : (out : List ℕ) (at : ℕ) (bytes : List ℕ) → at + length bytes ≤ length out → put out at bytes ≡ sets out at bytes
unfolding put
put_sets out at bytes h = sym (sets-eq bytes out at h)

pub length_put : (out : List ℕ) (at : ℕ) (bytes : List ℕ) → at + length bytes ≤ length out → length (put out at bytes) ≡ length out
length_put out at bytes h = rw (put_sets out at bytes h, length-sets)

-- All the bytes pasted are the bytes put.
pub pasted : (out : List ℕ) (at : ℕ) (bytes : List ℕ) {i : ℕ} → i ≡ length bytes → paste out at bytes i ≡ put out at bytes
unfolding put
pasted out at bytes e = rw (e, take-length)

-- One byte stored is a put.
pub store : (out : List ℕ) (at byte : ℕ) → at < length out → Placed out at (byte ∷ []) (at + 1) (set out at byte)
store out at byte h =
    let room : at + 1 ≤ length out = omega arith in
    record { next = refl; after = sym (put_sets out at (byte ∷ []) room) }

-- Bytes put behind bytes.
pub puts_more : {out : List ℕ} {at : ℕ} {bytes : List ℕ} {next : ℕ} {out' : List ℕ} {more : List ℕ} {next' : ℕ} {out'' : List ℕ}
    → at + length (bytes ++ more) ≤ length out → Placed out at bytes next out' → Placed out' next more next' out''
    → Placed out at (bytes ++ more) next' out''
puts_more {out} {at} {bytes} {next} {out'} {more} {next'} {out''} room p q =
    let room₁ : at + length bytes ≤ length out = omega (arith, length-append bytes more) in
    let kept : length out' ≡ length out = ap length p.after ∙ length_put out at bytes room₁ in
    let room₂ : next + length more ≤ length out' = omega (arith, length-append bytes more, p.next) in
    record {
      next = omega (arith, p.next, q.next, length-append bytes more);
      after =
          q.after
          ∙ put_sets out' next more room₂
          ∙ rw (p.after, p.next, put_sets out at bytes room₁, ← sets_append out at bytes more)
          (sym (put_sets out at (bytes ++ more) room));
    }

-- The bytes of a line stand at the front.
pub lined_front : {out bytes : List ℕ} {r : ℕ} {out' : List ℕ} → Lined out bytes r out' → take r out' ≡ bytes
unfolding put
lined_front {out} {bytes} l = rw (l.size, l.content) (take-append_seam bytes (drop (0 + length bytes) out))
