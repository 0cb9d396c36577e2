-- Demand 3 holds: the walk's claim, the list's and the squares', put together.
use mathlib.Core.List.{[], ◌∷◌}
use mathlib.Core.Path.{◌≡◌, refl, sym, ◌∙◌}
use Prim.Native.Nat.{ℕ, ◌^◌, ◌≤◌, ◌<◌}
use native.Mathlib.Nat.{le_refl}
use borrow.Author.Tests.{lt-leb}
use lib.ListN.{length}
use Rattle.reply.specs.Reply.{served}
use Rattle.reply.proofs.Order.{none_refuses}
use Rattle.poly.specs.Limits.{list_length}
use Rattle.poly.proofs.Ranges.{inside, Passed, codes_pass}
use Rattle.poly.proofs.Primes.{inverses_2}
use Rattle.pairs.specs.Pairs.{pairs}
use Rattle.pairs.proofs.Standing.{list_complete, pair_answers}
use Rattle.positions.proofs.Undo.{entry_found}
use Rattle.squares.specs.Symbols.{symbol}
use Rattle.squares.specs.Replies.{site_causes, site_reply}
use Rattle.squares.proofs.Claims.{squares_orthogonal}
use Rattle.walk.specs.Walks.{begun}
use Rattle.walk.proofs.Claims.{begun_sound, walk_goes_on, plain, fresh, full}
use Rattle.planner.specs.Demand.{Polynomial, DemandThree}

module _ (n : ℕ) (low : 1 ≤ n) (high : n ≤ 31) where
  -- no cause of the site call applies
  site_answers : (f g row col : ℕ) → Polynomial n f → Polynomial n g → row < 2 ^ n → col < 2 ^ n
      → site_reply n f g row col ≡ served (symbol 2 n f row col ∷ symbol 2 n g row col ∷ [])
  unfolding site_reply
  site_answers f g row col pf pg hr hc =
      let codes : Passed n f g =
      record { degree_f = pf.degree; odd_f = pf.constant; degree_g = pg.degree; odd_g = pg.constant } in
      none_refuses (site_causes n f g row col) _
      (inside 1 31 low high, codes_pass n f g _ codes (rw (lt-leb (2 ^ n) row hr, lt-leb (2 ^ n) col hc), tt))

pub demand_three : DemandThree
demand_three n low high =
    let goes_on = walk_goes_on (begun n) (begun_sound n low high) in
    let list = list_complete n low in
    let long : length (pairs n) ≡ list_length n = list.long in
    record {
      begins = rw (inside 1 31 low high) (refl, refl);
      walk = λ calls. (goes_on calls).walked;
      decided = λ calls. (goes_on calls).decided;
      runs_on = λ calls. (goes_on calls).runs_on;
      no_repeat = λ calls. (goes_on calls).no_repeat;
      comes_back = λ calls. (goes_on calls).comes_back;
      counted = λ calls. (goes_on calls).counted;
      fresh = fresh n low high;
      plain = plain n low high;
      full = full n low high;
      long = long;
      pair = pair_answers n low high;
      found = entry_found n low high;
      no_stranger = λ j h. list.coprime j (rw long h);
      all_once =
          λ two c.
          let s = list.once two c in
          record {
            one = s.position;
            is = (rw long at s.below, s.there);
            only = λ a b ha hb. s.only a (rw long ha.0) ha.1 ∙ sym (s.only b (rw long hb.0) hb.1);
          };
      site = site_answers n low high;
      crossing = λ f g pf pg. squares_orthogonal 2 (le_refl 2) inverses_2 n f g pf.degree pg.degree;
    }
