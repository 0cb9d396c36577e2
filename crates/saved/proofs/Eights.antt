-- The loop that reads eight numbers: those read so far are at the front of the array, and what is said of all eight is said of the rest.
use mathlib.Core.Path.{◌≡◌, refl, sym, ap, ◌∙◌}
use Prim.Native.Nat.{ℕ, zero, suc, ◌+◌, ◌-◌, ◌≤◌, ◌<◌}
use mathlib.Core.List.{List, [], ◌∷◌, ◌++◌, append_assoc, append-nil}
use native.Mathlib.Numerals.{add-one}
use native.Mathlib.Omega.{arith}
use borrow.Author.Tests.{lt-ltb, le-ltb, ltb-false}
use lib.ListN.{length, set, take, drop, length-set}
use lib.Seq.{take_all, take-suc-set}
use Rattle.reply.specs.Reply.{Cause}
use Rattle.leb128.specs.Parser.{Parsed, parsed, failed, pure, resume}
use Rattle.leb128.specs.Number.{ceiling_causes, parse_groups, limits64, parse_number, number, field, fields}
use Rattle.leb128.proofs.Parser.{either, checked_parsed, parsed_checked}
use Rattle.saved.specs.Saved.{mark_causes}
use Rattle.saved.specs.Inner.{at_most}

-- Numbers in front of those that are read.
abbrev pub ahead : List ℕ → Parsed (List ℕ) → Parsed (List ℕ)
ahead front (parsed numbers rest) = parsed (front ++ numbers) rest
ahead front (failed k) = failed k

ahead_twice : (front more : List ℕ) (p : Parsed (List ℕ)) → ahead front (ahead more p) ≡ ahead (front ++ more) p
ahead_twice front more (parsed numbers rest) = rw append_assoc
ahead_twice front more (failed k) = refl

one_ahead : (causes : ℕ → List Cause) (count : ℕ) (bytes : List ℕ) {n : ℕ} {rest : List ℕ} → field limits64 causes bytes ≡ parsed n rest
    → fields limits64 causes (suc count) bytes ≡ ahead (n ∷ []) (fields limits64 causes count rest)
one_ahead causes count bytes {n} {rest} e = rw e (go (fields limits64 causes count rest))
  where
    go : (p : Parsed (List ℕ)) → resume p (λ others. pure (n ∷ others)) ≡ ahead (n ∷ []) p
    go (parsed numbers rest) = refl
    go (failed k) = refl

pub record SoFar (most : ℕ) (file : List ℕ) (at : ℕ) (numbers : List ℕ) (next i : ℕ) : Type 0 where
  pub few : i ≤ 8
  pub kept : length numbers ≡ 8
  pub inside : next ≤ length file
  pub same : fields limits64 (at_most most) 8 (drop at file)
      ≡ ahead (take i numbers) (fields limits64 (at_most most) (8 - i) (drop next file))

pub nothing_yet : (most : ℕ) (file : List ℕ) (at : ℕ) (numbers : List ℕ) → length numbers ≡ 8 → at ≤ length file
    → SoFar most file at numbers at 0
nothing_yet most file at numbers kept inside = record {
  few = omega arith;
  kept = kept;
  inside = inside;
  same = go (fields limits64 (at_most most) 8 (drop at file));
}
  where
    go : (p : Parsed (List ℕ)) → p ≡ ahead [] p
    go (parsed numbers rest) = refl
    go (failed k) = refl

module _ {most : ℕ} {file : List ℕ} {at : ℕ} {numbers : List ℕ} {next i : ℕ} (s : SoFar most file at numbers next i) where
  pub all_read : 8 ≤ i → fields limits64 (at_most most) 8 (drop at file) ≡ parsed numbers (drop next file)
  all_read end =
      let none : 8 - i ≡ 0 = omega arith in
      let whole : take i numbers ≡ numbers = take_all i numbers (omega (arith, s.kept)) in
      s.same ∙ rw (none, whole, append-nil)

  module _ (more : i < 8) where
    one_less : 8 - i ≡ suc (8 - (i + 1))
    one_less = omega arith

    pub not_read : {k : ℕ} → number (drop next file) ≡ failed k → fields limits64 (at_most most) 8 (drop at file) ≡ failed k
    not_read e = s.same ∙ rw (one_less, e)

    module _ (n behind : ℕ) (e : number (drop next file) ≡ parsed n (drop behind file)) where
      pub too_high : most < n → fields limits64 (at_most most) 8 (drop at file) ≡ failed 23
      too_high h = s.same ∙ rw (one_less, e, lt-ltb most n h)

      pub one_read : n ≤ most → behind ≤ length file → SoFar most file at (set numbers i n) behind (i + 1)
      one_read h inside =
          let first = parsed_checked number (at_most most) (drop next file) e (le-ltb most n h, tt) in
          let there : i < length numbers = omega (arith, s.kept) in
          let rest : Parsed (List ℕ) = fields limits64 (at_most most) (8 - (i + 1)) (drop behind file) in
          let front : take (i + 1) (set numbers i n) ≡ take i numbers ++ (n ∷ []) = rw add-one (take-suc-set numbers i n there) in
          record {
            few = omega arith;
            kept = rw (length-set, s.kept);
            inside = inside;
            same =
                s.same ∙ rw (one_less, one_ahead (at_most most) (8 - (i + 1)) (drop next file) first)
                (ahead_twice (take i numbers) (n ∷ []) rest ∙ ap (λ l. ahead l rest) (sym front));
          }

-- No number that is read is above the ceiling, so that as a limit the ceiling refuses nothing.
below_ceiling : (bytes : List ℕ) {n : ℕ} {rest : List ℕ} → number bytes ≡ parsed n rest → n ≤ 18446744073709551615
unfolding parse_number
below_ceiling bytes {n} e =
    ltb-false 18446744073709551615 n (checked_parsed (parse_groups 10) (ceiling_causes 18446744073709551615) bytes e).0.0

pub no_limit : (count : ℕ) (bytes : List ℕ)
    → fields limits64 (at_most 18446744073709551615) count bytes ≡ fields limits64 mark_causes count bytes
no_limit zero bytes = refl
no_limit (suc count) bytes =
    either (number bytes)
    (λ n rest e. rw (e, le-ltb 18446744073709551615 n (below_ceiling bytes e), no_limit count rest))
    (λ k e. rw e)
