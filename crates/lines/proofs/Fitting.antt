-- Lines that fill a buffer in steps fill it at once: what is put of the front of a list of lines, and then of the rest behind what was put,
-- is what is put of the whole list.
use mathlib.Core.Path.{◌≡◌, refl, sym, ap, ◌∙◌}
use mathlib.Core.Bool.{Bool, true, false, cond}
use mathlib.Core.List.{List, [], ◌∷◌, ◌++◌, append-nil, append_assoc}
use Prim.Native.Nat.{ℕ, zero, suc, ◌+◌, ◌-◌, ◌≤◌, ◌<◌}
use native.Mathlib.Nat.{sub-zero, add-zero, add_assoc}
use native.Mathlib.Decide.{dec_lt}
use native.Mathlib.Omega.{arith}
use borrow.Author.Tests.{le-leb, lt-leb, leb-true}
use lib.Dec.{leb}
use lib.ListN.{length, take, drop, length-append, take-append-drop}
use lib.Seq.{drop-drop}
use Rattle.lines.specs.Text.{put, Placed}
use Rattle.lines.specs.Filling.{joined, fitting_lines}
use Rattle.lines.specs.Inner.{Adds, AddsLine}
use Rattle.lines.proofs.Putting.{length_put, puts_more}

pub joined_append : (a b : List (List ℕ)) → joined (a ++ b) ≡ joined a ++ joined b
joined_append [] b = refl
joined_append (l ∷ a) b = rw (joined_append a b, append_assoc)

pub fitting_le : (room : ℕ) (lines : List (List ℕ)) → length (joined (fitting_lines room lines)) ≤ room
fitting_le room [] = omega arith
fitting_le room (l ∷ lines) = go (leb (length l) room) refl (fitting_le (room - length l) lines)
  where
    go : (t : Bool) → leb (length l) room ≡ t → length (joined (fitting_lines (room - length l) lines)) ≤ room - length l
        → length (joined (cond t (l ∷ fitting_lines (room - length l) lines) [])) ≤ room
    go true e ih = omega (arith, leb-true (length l) room e, length-append l (joined (fitting_lines (room - length l) lines)))
    go false e ih = omega arith

-- The front of the list, and the rest behind it.
pub fitting_front : (room : ℕ) (lines : List (List ℕ)) → fitting_lines room lines ++ drop (length (fitting_lines room lines)) lines ≡ lines
fitting_front room [] = refl
fitting_front room (l ∷ lines) = go (leb (length l) room) (fitting_front (room - length l) lines)
  where
    go : (t : Bool) → fitting_lines (room - length l) lines ++ drop (length (fitting_lines (room - length l) lines)) lines ≡ lines
        → let some : List (List ℕ) = cond t (l ∷ fitting_lines (room - length l) lines) [] in
        some ++ drop (length some) (l ∷ lines) ≡ l ∷ lines
    go true ih = ap (◌∷◌ l) ih
    go false ih = refl

pub fitting_few : (room : ℕ) (lines : List (List ℕ)) → length (fitting_lines room lines) ≤ length lines
fitting_few room lines =
    omega (
      arith,
      ap length (fitting_front room lines),
      length-append (fitting_lines room lines) (drop (length (fitting_lines room lines)) lines),
    )

-- Of the first m lines, and of the lines behind what was put of them.
fitting_more : (m room : ℕ) (lines : List (List ℕ))
    → let front : List (List ℕ) = fitting_lines room (take m lines) in
    fitting_lines room lines ≡ front ++ fitting_lines (room - length (joined front)) (drop (length front) lines)
fitting_more zero room lines = rw sub-zero
fitting_more (suc m) room [] = refl
fitting_more (suc m) room (l ∷ lines) = go (leb (length l) room) refl (fitting_more m (room - length l) lines)
  where
    front : List (List ℕ)
    front = fitting_lines (room - length l) (take m lines)

    go : (t : Bool) → leb (length l) room ≡ t
        → fitting_lines (room - length l) lines
        ≡ front ++ fitting_lines (room - length l - length (joined front)) (drop (length front) lines)
        → let some : List (List ℕ) = cond t (l ∷ front) [] in
        cond t (l ∷ fitting_lines (room - length l) lines) []
        ≡ some ++ fitting_lines (room - length (joined some)) (drop (length some) (l ∷ lines))
    go true e ih =
        let all = length-append l (joined front) in
        let less : room - length l - length (joined front) ≡ room - length (l ++ joined front) = omega arith in
        ap (◌∷◌ l) (rw less at ih)
    go false e ih = rw (sub-zero, e)

-- Where fewer than m are put of the first m lines, no more are put of all.
fitting_fewer : (m room : ℕ) (lines : List (List ℕ)) → length (fitting_lines room (take m lines)) < m
    → fitting_lines room lines ≡ fitting_lines room (take m lines)
fitting_fewer zero room lines few = absurd (omega arith)
fitting_fewer (suc m) room [] few = refl
fitting_fewer (suc m) room (l ∷ lines) few = go (leb (length l) room) few (fitting_fewer m (room - length l) lines)
  where
    front : List (List ℕ)
    front = fitting_lines (room - length l) (take m lines)

    go : (t : Bool) → length (cond t (l ∷ front) []) < suc m → (length front < m → fitting_lines (room - length l) lines ≡ front)
        → cond t (l ∷ fitting_lines (room - length l) lines) [] ≡ cond t (l ∷ front) []
    go true few ih = ap (◌∷◌ l) (ih (omega arith))
    go false few ih = refl

put_none : (out : List ℕ) (at : ℕ) → put out at [] ≡ out
unfolding put
put_none out at = rw (append-nil, add-zero, take-append-drop)

-- Nothing is put where no line fits.
pub adds_none : {lines : List (List ℕ)} {position : ℕ} {out : List ℕ} {used : ℕ} → fitting_lines (length out - used) lines ≡ []
    → Adds lines position out used used position out
adds_none {lines} {position} {out} {used} none = record {
  bytes = record { next = rw none (sym (add-zero used)); after = rw none (sym (put_none out used)) };
  stop = rw none (sym (add-zero position));
}

-- One line is put where it fits, and the bytes stay as they are where it does not.
one : (room : ℕ) (l : List ℕ) → length l ≤ room → fitting_lines room (l ∷ []) ≡ l ∷ []
one room l fits = rw (le-leb (length l) room fits)

none : (room : ℕ) (l : List ℕ) → room < length l → fitting_lines room (l ∷ []) ≡ []
none room l full = rw (lt-leb (length l) room full)

pub line_fits : {l out : List ℕ} {used used' : ℕ} {out' : List ℕ} → length l ≤ length out - used → Placed out used l used' out'
    → AddsLine l out used used' out'
line_fits {l} {out} {used} fits p = record { bytes = rw (one (length out - used) l fits, append-nil) p }

pub line_full : (l : List ℕ) {out : List ℕ} {used : ℕ} → length out - used < length l → AddsLine l out used used out
line_full l {out} {used} full = record { bytes = (adds_none {lines = l ∷ []} {position = 0} (none (length out - used) l full)).bytes }

-- Which it was is told by the bytes used.
module _ {l out : List ℕ} {used used' : ℕ} {out' : List ℕ} (p : AddsLine l out used used' out') {position : ℕ} where
  pub adds_line : (used' ≡ used → ⊥) → Adds (l ∷ []) position out used used' (position + 1) out'
  adds_line more = elim (dec_lt (length out - used) (length l)) [
    | yes full ↦ absurd (more (omega (arith, ap (λ s. length (joined s)) (none (length out - used) l full), p.bytes.next)))
    | no fits ↦ record { bytes = p.bytes; stop = rw (one (length out - used) l (omega arith)) }
  ]

  pub adds_no_line : 1 ≤ length l → used' ≡ used → Adds (l ∷ []) position out used used' position out'
  adds_no_line some same = elim (dec_lt (length out - used) (length l)) [
    | yes full ↦ record { bytes = p.bytes; stop = rw (none (length out - used) l full) (sym (add-zero position)) }
    | no fits ↦
        let is = ap (λ s. length (joined s)) (one (length out - used) l (omega arith)) in
        absurd (omega (arith, length-append l [], p.bytes.next))
  ]

-- First of the first m lines, then of those behind what was put.
module _ (m : ℕ) (lines : List (List ℕ)) {position : ℕ} {out : List ℕ} {used used₁ next : ℕ} {out₁ : List ℕ}
    (room : used ≤ length out) (a : Adds (take m lines) position out used used₁ next out₁) where
  abbrev front : List (List ℕ)
  front = fitting_lines (length out - used) (take m lines)

  fits : used + length (joined front) ≤ length out
  fits = omega (arith, fitting_le (length out - used) (take m lines))

  same : length out₁ ≡ length out
  same = ap length a.bytes.after ∙ length_put out used (joined front) fits

  room_after : used₁ ≤ length out₁
  room_after = omega (arith, same, fits, a.bytes.next)

  adds_more : (k : ℕ) {used₂ next₂ : ℕ} {out₂ : List ℕ} → next ≡ position + k
      → Adds (drop k lines) (position + k) out₁ used₁ used₂ next₂ out₂ → Adds lines position out used used₂ next₂ out₂
  adds_more k {used₂} {next₂} {out₂} e q = record {
    bytes = rw (whole, joined_append front behind) (puts_more (rw (← joined_append front behind, ← whole) all) a.bytes q.bytes);
    stop = rw whole (omega (arith, length-append front behind, q.stop, many));
  }
    where
      behind : List (List ℕ)
      behind = fitting_lines (length out₁ - used₁) (drop k lines)

      many : k ≡ length front
      many = omega (arith, a.stop)

      whole : fitting_lines (length out - used) lines ≡ front ++ behind
      whole =
          let left : length out₁ - used₁ ≡ length out - used - length (joined front) = omega (arith, same, a.bytes.next) in
          rw (left, many) (fitting_more m (length out - used) lines)

      all : used + length (joined (fitting_lines (length out - used) lines)) ≤ length out
      all = omega (arith, fitting_le (length out - used) lines)

  adds_last : next < position + m → Adds lines position out used used₁ next out₁
  adds_last few =
      let all : fitting_lines (length out - used) lines ≡ front = fitting_fewer m (length out - used) lines (omega (arith, a.stop)) in
      record { bytes = rw all a.bytes; stop = rw all a.stop }

-- `done` lines were put, and what is put of the others completes them.
pub record Begun (lines : List (List ℕ)) (position : ℕ) (out : List ℕ) (used : ℕ) (done : ℕ) (out₁ : List ℕ) (used₁ : ℕ) : Type 0 where
  pub kept : length out₁ ≡ length out
  pub room : used₁ ≤ length out₁
  pub rest : (used' next : ℕ) (out' : List ℕ) → Adds (drop done lines) (position + done) out₁ used₁ used' next out'
      → Adds lines position out used used' next out'

pub begun : {lines : List (List ℕ)} {position : ℕ} {out : List ℕ} {used : ℕ} → used ≤ length out → Begun lines position out used 0 out used
begun {lines} {position} {out} {used} h = record { kept = refl; room = h; rest = λ used' next out' a. rw add-zero at a }

module _ (m : ℕ) {lines : List (List ℕ)} {position : ℕ} {out : List ℕ} {used done : ℕ} {out₁ : List ℕ} {used₁ used₂ next : ℕ}
    {out₂ : List ℕ}
    (b : Begun lines position out used done out₁ used₁)
    (a : Adds (take m (drop done lines)) (position + done) out₁ used₁ used₂ next out₂) where
  pub begun_more : (done₂ : ℕ) → next ≡ position + done₂ → Begun lines position out used done₂ out₂ used₂
  begun_more done₂ e =
      let more : ℕ = done₂ - done in
      let far : done + more ≡ done₂ = omega (arith, a.stop) in
      record {
        kept = same m (drop done lines) b.room a ∙ b.kept;
        room = room_after m (drop done lines) b.room a;
        rest = λ used' next' out' q.
            b.rest used' next' out'
            (adds_more m (drop done lines) b.room a more (omega (arith, a.stop)) (rw (drop-drop more done lines, add_assoc, far) q));
      }

  pub begun_last : next < position + done + m → Adds lines position out used used₂ next out₂
  begun_last few = b.rest used₂ next out₂ (adds_last m (drop done lines) b.room a few)
