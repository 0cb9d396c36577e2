-- `encoded_size` meets its contract: the length of the encoding is the sum of its parts' lengths, each of them small.
use mathlib.Core.Path.{◌≡◌, refl}
use mathlib.Core.List.{List, [], ◌∷◌}
use Prim.Native.Nat.{ℕ, ◌+◌, ◌<◌}
use native.Mathlib.Omega.{arith}
use lib.Dec.{lit<}
use lib.ListN.{length, length-append}
use Rattle.leb128.specs.Number.{encode_number, encode_numbers}
use Rattle.leb128.proofs.Number.{encode_small}
use Rattle.trial.specs.Trial.{Head, encode_head, encode_lists, encode_body, encode}
use Rattle.trial_writer.proofs.writer.encoded_size.Goals as goal

-- The sum as the code adds it up: what both versions have, then the other codes and lists.
sum : (v n f g : ℕ) (codes powers forces : List ℕ) (lists : List (List ℕ)) (name : List ℕ)
    → let head : Head = record { version = v; degree = n; codes = f ∷ g ∷ codes } in
    length (encode (record { head = head; lists = powers ∷ forces ∷ lists; name = name }))
    ≡ length (encode_number v) + length (encode_number n) + length (encode_number f) + length (encode_number g)
    + (length (encode_numbers powers) + length (encode_numbers forces)) + length (encode_number (length name)) + length name
    + length (encode_numbers codes) + length (encode_lists lists)
unfolding encode encode_head encode_body
sum v n f g codes powers forces lists name = simp length-append (omega arith)

one_byte : (v : ℕ) → v < 128 → length (encode_number v) ≡ 1
one_byte v h = rw (encode_small v h) refl

pub returns-in_default : goal.returns-in_default
returns-in_default c =
    let content = c.args.content.now in
    rw c.in_default.is
    (omega (
      arith,
      sum 1 content.degree content.f content.g [] content.powers.now content.forces.now [] content.name.now,
      one_byte 1 (lit< tt),
      rw c.from.ensures at c.width.ensures.0,
      rw c.from-2.ensures at c.width-2.ensures.0,
      rw c.from-3.ensures at c.width-3.ensures.0,
      c.width-4.ensures.0,
      c.levels_width.ensures.0,
      c.levels_width-2.ensures.0,
    ))

pub returns : goal.returns
returns c =
    let content = c.args.content.now in
    let third = c.in-Some.third in
    rw c.in-Some.is
    (omega (
      arith,
      sum 2 content.degree content.f content.g (third.h ∷ []) content.powers.now content.forces.now (third.times.now ∷ []) content.name.now,
      one_byte 2 (lit< tt),
      length-append (encode_number third.h) [],
      length-append (encode_numbers third.times.now) [],
      rw c.from.ensures at c.width.ensures.0,
      rw c.from-2.ensures at c.width-2.ensures.0,
      rw c.from-3.ensures at c.width-3.ensures.0,
      c.width-4.ensures.0,
      rw c.from-4.ensures at c.width-5.ensures.0,
      c.levels_width.ensures.0,
      c.levels_width-2.ensures.0,
      c.levels_width-3.ensures.0,
    ))
