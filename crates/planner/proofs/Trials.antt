-- A trial keeps its promise: no cause of the call for its sheet applies to what the reader accepted, so the bytes show squares of which any
-- two are orthogonal; and since equal levels stand at one place, a site shows a level exactly where it shows the level's place.
use mathlib.Core.Logic.{◌↔◌, inl, inr}
use mathlib.Core.Bool.{false}
use mathlib.Core.List.{List, [], ◌∷◌}
use mathlib.Core.Path.{◌≡◌, sym, ◌∙◌}
use Prim.Native.Nat.{ℕ, suc, ◌*◌, ◌^◌, ◌≤◌}
use native.Mathlib.Omega.{arith}
use lib.Dec.{ltb}
use lib.ListN.{length}
use borrow.Author.Tests.{le-ltb}
use Rattle.levels.specs.Levels.{repeats}
use Rattle.levels.proofs.Differing.{one_place}
use Rattle.reply.specs.Reply.{served, ◌gives◌}
use Rattle.reply.proofs.Order.{clear_append, none_refuses}
use Rattle.poly.specs.Causes.{coprime_causes}
use Rattle.squares.specs.Squares.{Square, Site, On, Orthogonal}
use Rattle.squares.specs.Sheets.{shown}
use Rattle.squares.specs.Replies.{sheet_causes, sheet_reply_of, sheet_bytes_of}
use Rattle.squares.proofs.Agreeing.{exactly_one_same}
use Rattle.squares.proofs.Served.{shown_lt}
use Rattle.squares.proofs.Claims.{sheet_squares}
use Rattle.trial.specs.Trial.{Trial}
use Rattle.trial.specs.Replies.{list_of}
use Rattle.trial.proofs.Content.{Sound, sound, Formed, version_is}
use Rattle.trial.proofs.Codec.{parts_of, read_same}
use Rattle.planner.specs.Trial.{LevelOf, level_at, Places, Meeting, trial_sheet_reply, trial_sheet_bytes, TrialClaim}

-- The symbols of a square are the places of a list, in which no level is equal to an earlier one.
record Given (N : ℕ) (levels : List ℕ) (square : Square) : Type 0 where
  long : length levels ≡ N
  places : Places N levels square
  differ : repeats levels ≡ false

-- A site has the level exactly where it shows the level's place.
level_here : {N : ℕ} {levels : List ℕ} {square : Square} → Given N levels square → {level : ℕ} (s : LevelOf level levels)
    → (site : Site) → On N site → (square site.row site.col ≡ s.place) ↔ (level_at levels square site ≡ level)
level_here {levels = levels} given s site (hr, hc) = (
  (λ e. rw e s.there),
  (λ e. one_place levels given.differ _ s.place (given.places site.row site.col hr hc) s.below (e ∙ sym s.there)),
)

meet : {N : ℕ} {levels others : List ℕ} {first second : Square} → Given N levels first → Given N others second
    → Orthogonal N first second → Meeting N levels others first second
meet one two crossing =
    record {
      level_given = one.places;
      other_given = two.places;
      once =
          λ level other p q.
          exactly_one_same (λ site. (
            (λ (on, e, e'). (on, (level_here one p site on).0 e, (level_here two q site on).0 e')),
            (λ (on, e, e'). (on, (level_here one p site on).1 e, (level_here two q site on).1 e')),
          )) (crossing p.place q.place (rw one.long at p.below) (rw two.long at q.below));
    }

module _ (t : Trial) (s : Sound t) (formed : Formed t) (lent : List ℕ) where
  abbrev n : ℕ
  n = t.head.degree

  abbrev codes : List ℕ
  codes = t.head.codes

  -- The call for the sheet is that of the codes.
  reply_is : trial_sheet_reply t (length lent) ≡ sheet_reply_of n codes (length lent)
  reply_is = elim (version_is t.head.version s.version) [
    | inl one ↦ rw (one, parts_of 1 codes 0 0 (omega arith) (omega arith) (rw one at formed.codes))
    | inr two ↦ rw (two, parts_of 2 codes 0 0 (omega arith) (omega arith) (rw two at formed.codes))
  ]

  bytes_are : trial_sheet_bytes t lent ≡ sheet_bytes_of n codes lent
  bytes_are = elim (version_is t.head.version s.version) [
    | inl one ↦ rw (one, parts_of 1 codes 0 0 (omega arith) (omega arith) (rw one at formed.codes))
    | inr two ↦ rw (two, parts_of 2 codes 0 0 (omega arith) (omega arith) (rw two at formed.codes))
  ]

  module _ (room : suc t.head.version * 4 ^ n ≤ length lent) where
    -- No cause of the call applies.
    answers : sheet_reply_of n codes (length lent) ≡ served []
    unfolding sheet_reply_of
    answers =
        let size : ℕ = length codes * 4 ^ n in
        let fits : size ≤ length lent = rw formed.codes room in
        let last =
        clear_append (coprime_causes n codes) (ltb (length lent) size gives 4 ∷ []) s.codes (le-ltb (length lent) size fits, tt) in
        none_refuses (sheet_causes n codes (length lent)) (served []) (s.degree, last)

    given : (k : ℕ) → k ≤ t.head.version → Given (2 ^ n) (list_of k t) (shown (length codes) (2 ^ n) k (sheet_bytes_of n codes lent))
    given k h =
        let whole = s.lists k (omega (arith, formed.lists)) in
        record {
          long = whole.long;
          places = λ row col hr hc. rw whole.long (shown_lt n codes lent answers (omega (arith, formed.codes)) row col hr hc);
          differ = whole.differ;
        }

pub trial_kept : TrialClaim
trial_kept rooms file t rest below e lent room =
    let a = read_same rooms file below e in
    let s = sound t a.clear in
    let squares = sheet_squares t.head.degree t.head.codes lent (answers t s a.formed lent room) in
    record {
      reply = reply_is t s a.formed lent ∙ answers t s a.formed lent room;
      meeting =
          λ k l hk hl other.
          rw (bytes_are t s a.formed lent, ← a.formed.codes)
          (meet (given t s a.formed lent room k hk) (given t s a.formed lent room l hl)
          (squares.orthogonal k l (omega (arith, a.formed.codes)) (omega (arith, a.formed.codes)) other));
    }
