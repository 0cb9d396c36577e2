-- The loop that reads a number, group by group from the lowest: what is read so far is `value`, and the next group counts `unit`.
use mathlib.Core.Path.{◌≡◌, refl, ◌∙◌}
use Prim.Native.Nat.{ℕ, zero, suc, pred, ◌+◌, ◌-◌, ◌*◌, ◌%◌, ◌^◌, ◌≤◌, ◌<◌}
use mathlib.Core.List.{List}
use native.Mathlib.Nat.{mul-add, mul_assoc, add_assoc, mul-le-mul_left, pow-le-pow_right, pow-suc}
use native.Mathlib.Numerals.{add-one}
use native.Mathlib.Omega.{arith}
use lib.ListN.{length, get_or, drop, drop_of_length-le}
use lib.Seq.{drop-cons}
use lib.Dec.{lit<}
use borrow.Author.Tests.{lt-ltb, le-ltb}
use Rattle.leb128.specs.Parser.{Parsed, parsed, failed}
use Rattle.leb128.specs.Number.{above, parse_groups}
use Rattle.leb128.specs.Inner.{parse_more}

-- The groups so far below the number that the bytes behind them give.
abbrev pub onto : ℕ → ℕ → Parsed ℕ → Parsed ℕ
onto value unit (parsed zero rest) = failed 10
onto value unit (parsed (suc high) rest) = parsed (value + unit * suc high) rest
onto value unit (failed number) = failed number

pub above_onto : (low : ℕ) (p : Parsed ℕ) → above low p ≡ onto low 128 p
above_onto low (parsed zero rest) = refl
above_onto low (parsed (suc high) rest) = refl
above_onto low (failed number) = refl

-- One group more.
pub onto_above : (value unit low : ℕ) (p : Parsed ℕ) → onto value unit (above low p) ≡ onto (value + unit * low) (unit * 128) p
onto_above value unit low (parsed zero rest) = refl
onto_above value unit low (parsed (suc high) rest) =
    let s : low + 128 * suc high ≡ suc (pred (low + 128 * suc high)) = omega arith in
    rw s (rw (← s, mul-add, mul_assoc, add_assoc))
onto_above value unit low (failed number) = refl

pub onto_some : (value unit high : ℕ) (rest : List ℕ) → (high ≡ 0 → ⊥)
    → onto value unit (parsed high rest) ≡ parsed (value + unit * high) rest
onto_some value unit zero rest some = absurd (some refl)
onto_some value unit (suc high) rest some = refl

-- What the parser does at a position of the file.
module _ (file : List ℕ) (left next : ℕ) (more : 0 < left) where
  pub groups_end : length file ≤ next → parse_groups left (drop next file) ≡ failed 9
  groups_end h = let s : left ≡ suc (pred left) = omega arith in rw (s, drop_of_length-le file h)

  module _ (byte : ℕ) (there : next < length file) (e : get_or file next 0 ≡ byte) where
    pub groups_last : byte < 128 → parse_groups left (drop next file) ≡ parsed byte (drop (next + 1) file)
    groups_last small =
        let s : left ≡ suc (pred left) = omega arith in
        rw (s, drop-cons file next 0 there, e, lt-ltb byte 128 small, add-one)

    pub groups_more : 128 ≤ byte → parse_groups left (drop next file) ≡ above (byte % 128) (parse_groups (left - 1) (drop (next + 1) file))
    groups_more large =
        let s : left ≡ suc (left - 1) = omega arith in
        rw (s, drop-cons file next 0 there, e, le-ltb byte 128 large, add-one, ← s)

-- What holds at the head of the loop, which reads behind the first byte of a longer number, up to its ninth.
pub record SoFar (file : List ℕ) (at low value unit next left : ℕ) : Type 0 where
  pub few : left ≤ 8
  pub small : value < unit
  pub scale : unit ≡ 128 ^ (9 - left)
  pub same : above low (parse_groups 9 (drop at file)) ≡ onto value unit (parse_groups (left + 1) (drop next file))

module _ {file : List ℕ} {at low value unit next left : ℕ} (s : SoFar file at low value unit next left) where
  pub group_fits : (group : ℕ) → group < 128 → value + unit * group < unit * 128
  group_fits group h = let at_most : group ≤ 127 = omega arith in omega (arith, s.small, mul-le-mul_left unit at_most)

  pub ends : length file ≤ next → parse_more low (drop at file) ≡ failed 9
  ends h = rw (s.same, groups_end file (left + 1) next (omega arith) h)

  pub needless : next < length file → get_or file next 0 ≡ 0 → parse_more low (drop at file) ≡ failed 10
  needless h none = rw (s.same, groups_last file (left + 1) next (omega arith) 0 h none (lit< tt))

  -- A byte without the high bit ends the number.
  module _ (group : ℕ) (there : next < length file) (e : get_or file next 0 ≡ group) (some : group ≡ 0 → ⊥) (small : group < 128) where
    last_group : above low (parse_groups 9 (drop at file)) ≡ parsed (value + unit * group) (drop (next + 1) file)
    last_group =
        s.same ∙ rw (groups_last file (left + 1) next (omega arith) group there e small)
        (onto_some value unit group (drop (next + 1) file) some)

    pub too_high : 18446744073709551615 < value + unit * group → parse_more low (drop at file) ≡ failed 10
    too_high h = rw (last_group, lt-ltb 18446744073709551615 (value + unit * group) h)

    pub total : value + unit * group ≤ 18446744073709551615
        → parse_more low (drop at file) ≡ parsed (value + unit * group) (drop (next + 1) file)
    total h = rw (last_group, le-ltb 18446744073709551615 (value + unit * group) h)

  -- In the loop.
  module _ (more : 0 < left) where
    pub unit_fits : unit ≤ 72057594037927936
    unit_fits = let deep : 9 - left ≤ 8 = omega arith in rw s.scale (pow-le-pow_right (lit< tt) deep)

    pub turn : (byte : ℕ) → next < length file → get_or file next 0 ≡ byte → 128 ≤ byte
        → SoFar file at low (value + unit * (byte % 128)) (unit * 128) (next + 1) (left - 1)
    turn byte h e large =
        let deeper : 9 - (left - 1) ≡ suc (9 - left) = omega arith in
        let on : left + 1 - 1 ≡ left - 1 + 1 = omega arith in
        record {
          few = omega arith;
          small = group_fits (byte % 128) (omega arith);
          scale = rw (deeper, pow-suc, s.scale);
          same =
              s.same ∙ rw (groups_more file (left + 1) next (omega arith) byte h e large, on)
              (onto_above value unit (byte % 128) (parse_groups (left - 1 + 1) (drop (next + 1) file)));
        }

  -- Behind it, at the tenth byte.
  module _ (none : left ≤ 0) where
    pub unit_last : unit ≡ 9223372036854775808
    unit_last = let z : left ≡ 0 = omega arith in s.scale ∙ rw z refl

    pub long : (byte : ℕ) → next < length file → get_or file next 0 ≡ byte → 128 ≤ byte → parse_more low (drop at file) ≡ failed 10
    long byte h e large =
        let z : left ≡ 0 = omega arith in
        let last : above low (parse_groups 9 (drop at file)) ≡ failed 10 =
        s.same ∙ rw (groups_more file (left + 1) next (omega arith) byte h e large, z) in
        rw last
