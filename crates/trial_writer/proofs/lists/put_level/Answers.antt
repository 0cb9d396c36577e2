-- `put_level` meets its contract: a level has at most three groups, and its bytes are those of its encoding.
use mathlib.Core.List.{[], ◌∷◌}
use mathlib.Core.Path.{◌≡◌}
use Prim.Native.Nat.{ℕ, ◌+◌, ◌/◌, ◌%◌, ◌≤◌, ◌<◌}
use native.Mathlib.Omega.{arith}
use borrow.Author.Rules.{rules}
use lib.ListN.{length, length-set}
use Rattle.leb128.specs.Number.{encode_number}
use Rattle.leb128.proofs.Number.{encode_small, encode_step}
use Rattle.leb128.proofs.Putting.{none_put, byte_put, all_put}
use Rattle.trial_writer.proofs.lists.put_level.Goals as goal

two_bytes : (n : ℕ) → 128 ≤ n → n < 16384 → encode_number n ≡ (n % 128 + 128) ∷ (n / 128) ∷ []
two_bytes n low high = rw (encode_step n low, encode_small (n / 128) (omega arith))

three_bytes : (n : ℕ) → 16384 ≤ n → n < 65536 → encode_number n ≡ (n % 128 + 128) ∷ (n / 128 % 128 + 128) ∷ (n / 16384) ∷ []
three_bytes n low high =
    let last : n / 128 / 128 ≡ n / 16384 = omega arith in
    rw (encode_step n (omega arith), encode_step (n / 128) (omega arith), encode_small (n / 128 / 128) (omega arith), last)

-- So there is room for each byte.
module _ (at n : ℕ) {room : ℕ} (fits : at + length (encode_number n) ≤ room) where
  room₁ : n < 128 → at < room
  room₁ h = let r = rw (encode_small n h) at fits in omega arith

  room₂ : 128 ≤ n → n < 16384 → at + 1 < room
  room₂ h k = let r = rw (two_bytes n h k) at fits in omega arith

  room₃ : 16384 ≤ n → n < 65536 → at + 2 < room
  room₃ h k = let r = rw (three_bytes n h k) at fits in omega arith

pub bounds-out-at : goal.bounds-out-at
bounds-out-at c = room₁ c.args.at c.args.level c.requires c.if-level-lt128.true

pub returns-then-level-lt128 : goal.returns-then-level-lt128
returns-then-level-lt128 c = let a = c.args in all_put (byte_put (none_put a.out.now a.at (encode_small a.level c.if-level-lt128.true)))

pub returns-then-level-lt16384 : goal.returns-then-level-lt16384
returns-then-level-lt16384 c =
    let a = c.args in
    let on : a.at + 1 + 1 ≡ a.at + 2 = omega arith in
    rw on at (all_put (byte_put (byte_put (none_put a.out.now a.at (two_bytes a.level c.if-level-lt128.false c.if-level-lt16384.true)))))

pub returns : goal.returns
returns c =
    let a = c.args in
    let high : a.level < 65536 = search rules in
    let on : a.at + 1 + 1 ≡ a.at + 2 = omega arith in
    let end : a.at + 2 + 1 ≡ a.at + 3 = omega arith in
    rw (on, end) at
    (all_put (byte_put (byte_put (byte_put (none_put a.out.now a.at (three_bytes a.level c.if-level-lt16384.false high))))))

pub bounds-out-at-2 : goal.bounds-out-at-2
bounds-out-at-2 c =
    let a = c.args in
    let room = rw (encode_step a.level c.if-level-lt128.false) at c.requires in omega arith

pub bounds-out-at-then-level-lt16384 : goal.bounds-out-at-then-level-lt16384
bounds-out-at-then-level-lt16384 c = rw length-set (room₂ c.args.at c.args.level c.requires c.if-level-lt128.false c.if-level-lt16384.true)

pub bounds-out-at-3 : goal.bounds-out-at-3
bounds-out-at-3 c = let r = room₃ c.args.at c.args.level c.requires c.if-level-lt16384.false (search rules) in rw length-set (omega arith)

pub bounds-out-at-4 : goal.bounds-out-at-4
bounds-out-at-4 c = rw (length-set, length-set) (room₃ c.args.at c.args.level c.requires c.if-level-lt16384.false (search rules))
