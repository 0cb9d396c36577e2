-- A number of one, two or three bytes at a position of the file, read byte by byte.
use mathlib.Core.Path.{◌≡◌, ◌∙◌}
use Prim.Native.Nat.{ℕ, ◌+◌, ◌-◌, ◌*◌, ◌%◌, ◌≤◌, ◌<◌}
use mathlib.Core.List.{List}
use native.Mathlib.Omega.{arith}
use lib.Dec.{lit<}
use lib.ListN.{length, get_or, drop}
use borrow.Author.Tests.{le-ltb}
use Rattle.leb128.specs.Parser.{parsed, failed}
use Rattle.leb128.specs.Number.{parse_groups, ceiling_causes, parse_number, number}
use Rattle.leb128.proofs.Parser.{parsed_checked}
use Rattle.leb128.proofs.Groups.{above_onto, onto_some, groups_end, groups_last, groups_more}

module _ (file : List ℕ) where
  -- A group in front of the number that the bytes behind it give.
  in_front : (left next byte high : ℕ) {rest : List ℕ} → 0 < left → next < length file → get_or file next 0 ≡ byte → 128 ≤ byte
      → (high ≡ 0 → ⊥) → parse_groups (left - 1) (drop (next + 1) file) ≡ parsed high rest
      → parse_groups left (drop next file) ≡ parsed (byte % 128 + 128 * high) rest
  in_front left next byte high {rest} more there e large some behind =
      groups_more file left next more byte there e large
      ∙ rw behind (above_onto (byte % 128) (parsed high rest) ∙ onto_some (byte % 128) 128 high rest some)

  whole : (at n : ℕ) {rest : List ℕ} → n ≤ 18446744073709551615 → parse_groups 10 (drop at file) ≡ parsed n rest
      → number (drop at file) ≡ parsed n rest
  unfolding parse_number
  whole at n low e = parsed_checked (parse_groups 10) (ceiling_causes 18446744073709551615) (drop at file) e (le-ltb _ n low, tt)

  -- What is refused: where the file ends, and where the byte behind is a needless 0.
  refused_behind : (left next byte k : ℕ) → 0 < left → next < length file → get_or file next 0 ≡ byte → 128 ≤ byte
      → parse_groups (left - 1) (drop (next + 1) file) ≡ failed k → parse_groups left (drop next file) ≡ failed k
  refused_behind left next byte k more there e large behind = groups_more file left next more byte there e large ∙ rw behind

  needless_behind : (left next byte : ℕ) → 1 < left → next + 1 < length file → get_or file next 0 ≡ byte → 128 ≤ byte
      → get_or file (next + 1) 0 ≡ 0 → parse_groups left (drop next file) ≡ failed 10
  needless_behind left next byte more there e large none =
      groups_more file left next (omega arith) byte (omega arith) e large
      ∙ rw (groups_last file (left - 1) (next + 1) (omega arith) 0 there none (lit< tt))

  refused : (at k : ℕ) → parse_groups 10 (drop at file) ≡ failed k → number (drop at file) ≡ failed k
  unfolding parse_number
  refused at k e = rw e

  pub none_left : (at : ℕ) → length file ≤ at → number (drop at file) ≡ failed 9
  none_left at h = refused at 9 (groups_end file 10 at (lit< tt) h)

  module _ (at first : ℕ) (e₁ : get_or file at 0 ≡ first) where
    pub one_byte : at < length file → first < 128 → number (drop at file) ≡ parsed first (drop (at + 1) file)
    one_byte there small = whole at first (omega arith) (groups_last file 10 at (lit< tt) first there e₁ small)

    pub one_left : 128 ≤ first → at < length file → length file ≤ at + 1 → number (drop at file) ≡ failed 9
    one_left large there h =
        refused at 9 (refused_behind 10 at first 9 (lit< tt) there e₁ large (groups_end file 9 (at + 1) (lit< tt) h))

    pub needless_second : 128 ≤ first → at + 1 < length file → get_or file (at + 1) 0 ≡ 0 → number (drop at file) ≡ failed 10
    needless_second large there none = refused at 10 (needless_behind 10 at first (lit< tt) there e₁ large none)

    module _ (large₁ : 128 ≤ first) (second : ℕ) (e₂ : get_or file (at + 1) 0 ≡ second) where
      pub two_left : 128 ≤ second → at + 1 < length file → length file ≤ at + 2 → number (drop at file) ≡ failed 9
      two_left large there h =
          let end = groups_end file 8 (at + 1 + 1) (lit< tt) (omega arith) in
          let behind = refused_behind 9 (at + 1) second 9 (lit< tt) there e₂ large end in
          refused at 9 (refused_behind 10 at first 9 (lit< tt) (omega arith) e₁ large₁ behind)

      pub needless_third : 128 ≤ second → at + 2 < length file → get_or file (at + 2) 0 ≡ 0 → number (drop at file) ≡ failed 10
      needless_third large there none =
          let on : at + 1 + 1 ≡ at + 2 = omega arith in
          let behind = needless_behind 9 (at + 1) second (lit< tt) (omega arith) e₂ large (rw on none) in
          refused at 10 (refused_behind 10 at first 10 (lit< tt) (omega arith) e₁ large₁ behind)

      pub two_bytes : at + 1 < length file → (second ≡ 0 → ⊥) → second < 128
          → number (drop at file) ≡ parsed (first % 128 + 128 * second) (drop (at + 2) file)
      two_bytes there some small =
          let on : at + 1 + 1 ≡ at + 2 = omega arith in
          let behind = rw on at (groups_last file 9 (at + 1) (lit< tt) second there e₂ small) in
          whole at _ (omega arith) (in_front 10 at first second (lit< tt) (omega arith) e₁ large₁ some behind)

      pub three_bytes : 128 ≤ second → (third : ℕ) → get_or file (at + 2) 0 ≡ third → at + 2 < length file → (third ≡ 0 → ⊥)
          → third < 128
          → number (drop at file) ≡ parsed (first % 128 + 128 * (second % 128 + 128 * third)) (drop (at + 3) file)
      three_bytes large₂ third e₃ there some small =
          let on : at + 1 + 1 ≡ at + 2 = omega arith in
          let end : at + 2 + 1 ≡ at + 3 = omega arith in
          let last = rw end at (groups_last file 8 (at + 2) (lit< tt) third there e₃ small) in
          let behind = in_front 9 (at + 1) second third {rest = drop (at + 3) file} (lit< tt) (omega arith) e₂ large₂ some (rw on last) in
          whole at _ (omega arith)
          (in_front 10 at first (second % 128 + 128 * third) (lit< tt) (omega arith) e₁ large₁ (λ z. some (omega arith)) behind)
