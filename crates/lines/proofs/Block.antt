-- The lines that the program makes of many pairs at once are the lines of their positions, since the two calls of the list agree.
use mathlib.Core.Bool.{Bool, true, false}
use mathlib.Core.List.{List, [], ◌∷◌, map}
use mathlib.Core.Path.{◌≡◌, refl, sym, ap, ◌∙◌}
use Prim.Native.Nat.{ℕ, ◌+◌, ◌*◌, ◌/◌, ◌≤◌, ◌<◌}
use native.Mathlib.Nat.{zero-add}
use native.Mathlib.Omega.{arith}
use borrow.Author.Tests.{leb-true}
use lib.Dec.{leb}
use lib.ListN.{length, get_or, take, drop, length-take, length-drop, drop_of_length-le}
use lib.Seq.{drop-nil, drop-cons, get_or-take, get_or-drop, ext_get_or}
use Rattle.reply.specs.Reply.{served, refused}
use Rattle.loops.specs.Loops.{numbers}
use Rattle.loops.proofs.Loops.{Listed, listed_as, listed_map, listed_numbers}
use Rattle.poly.specs.Limits.{outside, list_length}
use Rattle.listing.specs.Replies.{from_reply, from_content}
use Rattle.listing.proofs.From.{from_entries, from_many}
use Rattle.lines.specs.Text.{reply_line}
use Rattle.lines.specs.Output.{entry_line}
use Rattle.lines.specs.Filling.{entry_lines}
use Rattle.lines.specs.Inner.{block_lines, line_from, lines_from}

pub block_lines_lem : (n position : ℕ) (out : List ℕ) (many i : ℕ) → from_reply n position (length out) ≡ served (many ∷ []) → i < many
    → line_from position (from_content n position out) i ≡ entry_line n (position + i)
block_lines_lem n position out many i e h = sym (ap (reply_line (position + i)) (from_entries n position out many i e h))

-- The lines of the codes, and those of the list, by their places.
listed : (text : ℕ → List ℕ) (m : ℕ) → Listed (map text (numbers 0 m)) m text []
listed text m = listed_as text (listed_map text [] (listed_numbers 0 m)) (λ i h. rw zero-add)

module _ (position many : ℕ) (codes : List ℕ) where
  listed_lines : Listed (lines_from position many codes) many (line_from position codes) []
  listed_lines = listed (line_from position codes) many

  pub line_next : (i : ℕ) → i < many → take 1 (drop i (lines_from position many codes)) ≡ line_from position codes i ∷ []
  line_next i h =
      ap (take 1) (drop-cons (lines_from position many codes) i [] (rw listed_lines.long h)) ∙ rw (listed_lines.stands i h)

  pub no_more : drop many (lines_from position many codes) ≡ []
  no_more = drop_of_length-le (lines_from position many codes) {i = many} (omega (arith, listed_lines.long))

  -- The numbers behind those of the pairs do not count.
  pub lines_front : 2 * many ≤ length codes
      → lines_from position (length (take (2 * many) codes) / 2) (take (2 * many) codes) ≡ lines_from position many codes
  lines_front room = rw half (ext_get_or [] _ _ (front.long ∙ sym listed_lines.long) (λ i h. same i (rw front.long at h)))
    where
      half : length (take (2 * many) codes) / 2 ≡ many
      half = omega (arith, length-take (2 * many) codes)

      front : Listed (lines_from position many (take (2 * many) codes)) many (line_from position (take (2 * many) codes)) []
      front = listed (line_from position (take (2 * many) codes)) many

      pair : (i : ℕ) → i < many → line_from position (take (2 * many) codes) i ≡ line_from position codes i
      pair i h =
          let f : 2 * i < 2 * many = omega arith in
          let g : 2 * i + 1 < 2 * many = omega arith in
          rw (get_or-take (2 * many) codes (2 * i) 0 f, get_or-take (2 * many) codes (2 * i + 1) 0 g)

      same : (i : ℕ) → i < many
          → get_or (lines_from position many (take (2 * many) codes)) i [] ≡ get_or (lines_from position many codes) i []
      same i h = front.stands i h ∙ pair i h ∙ sym (listed_lines.stands i h)

pub listed_entries : (n : ℕ) → outside 1 31 n ≡ false → Listed (entry_lines n) (list_length n) (entry_line n) []
unfolding entry_lines
listed_entries n on = rw on (listed (entry_line n) (list_length n))

-- Where `pairs_from` is served, a block's lines are those of the next 256 positions, as many as there are.
pub block_is : (n position : ℕ) (out : List ℕ) (many : ℕ) → length out ≡ 512 → from_reply n position (length out) ≡ served (many ∷ [])
    → lines_from position many (from_content n position out) ≡ block_lines n position
block_is n position out many long e = ext_get_or [] _ _ (lines.long ∙ sym size) (λ i h. same i (rw lines.long at h))
  where
    lines : Listed (lines_from position many (from_content n position out)) many (line_from position (from_content n position out)) []
    lines = listed_lines position many (from_content n position out)

    entries : Listed (entry_lines n) (list_length n) (entry_line n) []
    entries = listed_entries n (from_many n position out many e).0

    size : length (block_lines n position) ≡ many
    size =
        omega (
          arith,
          length-take 256 (drop position (entry_lines n)),
          length-drop position (entry_lines n),
          entries.long,
          (from_many n position out many e).2,
        )

    same : (i : ℕ) → i < many
        → get_or (lines_from position many (from_content n position out)) i [] ≡ get_or (block_lines n position) i []
    same i h =
        let few : i < 256 = omega (arith, (from_many n position out many e).2) in
        lines.stands i h ∙ block_lines_lem n position out many i e h
        ∙ sym
        (get_or-take 256 (drop position (entry_lines n)) i [] few ∙ get_or-drop position (entry_lines n) i []
        ∙ entries.stands (position + i) (omega (arith, (from_many n position out many e).1, (from_many n position out many e).2)))

-- Where it is refused there are none.
pub no_block : (n position : ℕ) {k : ℕ} → refused k ≡ from_reply n position 512 → drop position (entry_lines n) ≡ []
unfolding from_reply entry_lines
no_block n position {k} e = go (outside 1 31 n) refl (leb (list_length n) position) refl
  where
    go : (t : Bool) → outside 1 31 n ≡ t → (u : Bool) → leb (list_length n) position ≡ u → drop position (entry_lines n) ≡ []
    go true off u h = rw off (drop-nil position)
    go false on true h =
        let end : length (entry_lines n) ≤ position = omega (arith, (listed_entries n on).long, leb-true (list_length n) position h) in
        drop_of_length-le (entry_lines n) end
    go false on false h = absurd (let r = rw (on, h) at e in let z : ◌≡◌ {A = ℕ} 0 1 = cc in omega arith)
