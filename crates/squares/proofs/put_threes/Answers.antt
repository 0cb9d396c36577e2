-- `put_threes` meets its contract: the bytes of each word are three symbols by turns, in the turn that its place asks for.
use mathlib.Core.Path.{◌≡◌, refl, ap, ◌∙◌}
use mathlib.Core.List.{List, [], ◌∷◌}
use Prim.Native.Nat.{ℕ, zero, suc, ◌+◌, ◌*◌, ◌%◌, ◌<◌}
use native.Mathlib.Omega.{arith}
use lib.ListN.{get_or}
use Rattle.std.specs.Int.{w64, to_le_bytes, from_le_bytes}
use Rattle.std.proofs.lemmas.Nat.{le_bytes_8}
use Rattle.squares.specs.Doubling.{by_turns, Put}
use Rattle.squares.proofs.Patterns.{Turned, eight_more}
use Rattle.squares.proofs.put_threes.Goals as goal

-- the eight bytes of a word that three bytes by turns make
abbrev eight : ℕ → ℕ → ℕ → List ℕ
eight x y z = x ∷ y ∷ z ∷ x ∷ y ∷ z ∷ x ∷ y ∷ []

module _ (x y z : ℕ) where
  eight_at : (k : ℕ) → k < 8 → get_or (eight x y z) k 0 ≡ by_turns (x ∷ y ∷ z ∷ []) k
  eight_at zero l = refl
  eight_at (suc zero) l = refl
  eight_at (suc (suc zero)) l = refl
  eight_at (suc (suc (suc zero))) l = refl
  eight_at (suc (suc (suc (suc zero)))) l = refl
  eight_at (suc (suc (suc (suc (suc zero))))) l = refl
  eight_at (suc (suc (suc (suc (suc (suc zero)))))) l = refl
  eight_at (suc (suc (suc (suc (suc (suc (suc zero))))))) l = refl
  eight_at (suc (suc (suc (suc (suc (suc (suc (suc k)))))))) l = absurd (omega arith)

  module _ (hx : x < 256) (hy : y < 256) (hz : z < 256) where
    small : (k : ℕ) → get_or (eight x y z) k 0 < 256
    small zero = hx
    small (suc zero) = hy
    small (suc (suc zero)) = hz
    small (suc (suc (suc zero))) = hx
    small (suc (suc (suc (suc zero)))) = hy
    small (suc (suc (suc (suc (suc zero))))) = hz
    small (suc (suc (suc (suc (suc (suc zero)))))) = hx
    small (suc (suc (suc (suc (suc (suc (suc zero))))))) = hy
    small (suc (suc (suc (suc (suc (suc (suc (suc k)))))))) = omega arith

    word_is : {word : ℕ} → word ≡ from_le_bytes w64 (eight x y z) → to_le_bytes w64 word ≡ eight x y z
    word_is {word} made = le_bytes_8 (eight x y z) word refl small made

module _ (f g h : ℕ) where
  abbrev symbols : List ℕ
  symbols = f ∷ g ∷ h ∷ []

  -- three of the symbols in another turn, which begin at place `at` of these
  turned : (x y z at : ℕ) → x ≡ by_turns symbols at → y ≡ by_turns symbols (at + 1) → z ≡ by_turns symbols (at + 2)
      → {part : List ℕ} → part ≡ eight x y z → (k : ℕ) → k < 8 → get_or part k 0 ≡ by_turns symbols (at + k)
  turned x y z at ex ey ez is k l = rw is (eight_at x y z k l ∙ by (k % 3) refl (omega arith))
    where
      by : (r : ℕ) → k % 3 ≡ r → r < 3 → get_or (x ∷ y ∷ z ∷ []) (k % 3) 0 ≡ by_turns symbols (at + k)
      by zero e l = rw e (ex ∙ ap (λ v. get_or symbols v 0) (let p : at % 3 ≡ (at + k) % 3 = omega arith in p))
      by (suc zero) e l = rw e (ey ∙ ap (λ v. get_or symbols v 0) (let p : (at + 1) % 3 ≡ (at + k) % 3 = omega arith in p))
      by (suc (suc zero)) e l = rw e (ez ∙ ap (λ v. get_or symbols v 0) (let p : (at + 2) % 3 ≡ (at + k) % 3 = omega arith in p))
      by (suc (suc (suc r))) e l = absurd (omega arith)

  -- the symbol at a place, by the rest of the place
  at_rest : (r at : ℕ) → r ≡ at % 3 → get_or symbols r 0 ≡ by_turns symbols at
  at_rest r at e = ap (λ v. get_or symbols v 0) e

  first : (i : ℕ) {part : List ℕ} → part ≡ eight f g h → (k : ℕ) → k < 8 → get_or part k 0 ≡ by_turns symbols (24 * i + k)
  first i = turned f g h (24 * i) (at_rest 0 _ (omega arith)) (at_rest 1 _ (omega arith)) (at_rest 2 _ (omega arith))

  second : (i : ℕ) {part : List ℕ} → part ≡ eight h f g → (k : ℕ) → k < 8 → get_or part k 0 ≡ by_turns symbols (24 * i + 8 + k)
  second i = turned h f g (24 * i + 8) (at_rest 2 _ (omega arith)) (at_rest 0 _ (omega arith)) (at_rest 1 _ (omega arith))

  third : (i : ℕ) {part : List ℕ} → part ≡ eight g h f → (k : ℕ) → k < 8 → get_or part k 0 ≡ by_turns symbols (24 * i + 16 + k)
  third i = turned g h f (24 * i + 16) (at_rest 1 _ (omega arith)) (at_rest 2 _ (omega arith)) (at_rest 0 _ (omega arith))

  -- the three words of a turn
  turn : (i : ℕ) {p p1 p2 p3 one two three : List ℕ} → one ≡ eight f g h → two ≡ eight h f g → three ≡ eight g h f
      → Put p (24 * i) 8 one p1 → Put p1 (24 * i + 8) 8 two p2 → Put p2 (24 * i + 16) 8 three p3
      → Turned symbols p (24 * i) → Turned symbols p3 (24 * (i + 1))
  turn i is is' is'' put put' put'' t =
      eight_more (omega arith) put'' (third i is'')
      (eight_more (omega arith) put' (second i is') (eight_more (omega arith) put (first i is) t))

pub loop-i-init : goal.loop-i-init
loop-i-init c = record { stored = λ j l. absurd (omega arith) }

pub loop-i-preserved : goal.loop-i-preserved
loop-i-preserved c =
    let a = c.args in
    let hf = c.ranges.f.fits in
    let hg = c.ranges.g.fits in
    let hh = c.ranges.h.fits in
    turn a.f a.g a.h c.loop-i.i (word_is a.f a.g a.h hf hg hh c.from_le_bytes-first.ensures)
    (word_is a.h a.f a.g hh hf hg c.from_le_bytes-second.ensures)
    (word_is a.g a.h a.f hg hh hf c.from_le_bytes-third.ensures) c.put_word.ensures c.put_word-in-loop-i.ensures
    c.put_word-in-loop-i-2.ensures c.loop-i.invariant

pub returns : goal.returns
returns c = record { at = λ j l. c.loop-i.invariant.stored j (omega (arith, c.loop-i-test.false)) }
