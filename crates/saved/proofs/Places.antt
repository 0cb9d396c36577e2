-- What a file is read as, part by part: each part is known by what the parser of a number, or of eight, gives behind the one before.
use mathlib.Core.Bool.{true, false}
use mathlib.Core.List.{List}
use mathlib.Core.Path.{◌≡◌, ap, ◌∙◌}
use Prim.Native.Nat.{ℕ}
use lib.ListN.{drop, replicate}
use Rattle.poly.specs.Limits.{outside}
use Rattle.leb128.specs.Parser.{Parser, parsed, failed, ◌>>=◌}
use Rattle.leb128.specs.Number.{limits64, number, fields}
use Rattle.walk.specs.declared.Walk.{Walk}
use Rattle.walk.specs.Walks.{walk_at, full_count}
use Rattle.saved.specs.Saved.{count_causes, mark_causes, eight, parse_last, load}
use Rattle.saved.specs.Inner.{at_most}
use Rattle.saved.proofs.Eights.{no_limit}

-- what stands behind the position
abbrev parse_tables : ℕ → ℕ → ℕ → Parser Walk
parse_tables kind degree position =
    eight kind mark_causes >>= λ marks. eight kind count_causes >>= λ counts. parse_last (walk_at degree position marks counts)

module _ (file : List ℕ) (kind at₁ : ℕ) (kind_read : parsed kind (drop at₁ file) ≡ number file) where
  pub wrong_kind : outside 1 2 kind ≡ true → load file ≡ failed 22
  unfolding load
  wrong_kind e = rw (← kind_read, e)

  module _ (good : outside 1 2 kind ≡ false) where
    pub no_degree : {k : ℕ} → failed k ≡ number (drop at₁ file) → load file ≡ failed k
    unfolding load
    no_degree e = rw (← kind_read, good, ← e)

    module _ (degree at₂ : ℕ) (degree_read : parsed degree (drop at₂ file) ≡ number (drop at₁ file)) where
      pub no_position : {k : ℕ} → failed k ≡ number (drop at₂ file) → load file ≡ failed k
      unfolding load
      no_position e = rw (← kind_read, good, ← degree_read, ← e)

      module _ (position at₃ : ℕ) (position_read : parsed position (drop at₃ file) ≡ number (drop at₂ file)) where
        place_read : load file ≡ parse_tables kind degree position (drop at₃ file)
        unfolding load
        place_read = rw (← kind_read, good, ← degree_read, ← position_read)

        place_of : (known : ℕ) → kind ≡ known → load file ≡ parse_tables known degree position (drop at₃ file)
        place_of known is = place_read ∙ ap (λ (k : ℕ). parse_tables k degree position (drop at₃ file)) is

        pub first_kind : kind ≡ 1
            → load file ≡ parse_last (walk_at degree position (replicate 8 0) (replicate 8 0)) (drop at₃ file)
        first_kind one = place_of 1 one

        module _ (two : kind ≡ 2) where
          pub no_marks : {k : ℕ} → failed k ≡ fields limits64 (at_most 18446744073709551615) 8 (drop at₃ file) → load file ≡ failed k
          no_marks e = place_of 2 two ∙ rw (← no_limit 8 (drop at₃ file), ← e)

          module _ (marks : List ℕ) (at₄ : ℕ)
              (marks_read : parsed marks (drop at₄ file) ≡ fields limits64 (at_most 18446744073709551615) 8 (drop at₃ file)) where
            pub no_counts : {k : ℕ} → failed k ≡ fields limits64 (at_most full_count) 8 (drop at₄ file) → load file ≡ failed k
            no_counts e = place_of 2 two ∙ rw (← no_limit 8 (drop at₃ file), ← marks_read, ← e)

            pub second_kind : (counts : List ℕ) (at₅ : ℕ)
                → parsed counts (drop at₅ file) ≡ fields limits64 (at_most full_count) 8 (drop at₄ file)
                → load file ≡ parse_last (walk_at degree position marks counts) (drop at₅ file)
            second_kind counts at₅ e = place_of 2 two ∙ rw (← no_limit 8 (drop at₃ file), ← marks_read, ← e)
