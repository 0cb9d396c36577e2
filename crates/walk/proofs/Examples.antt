-- Worked examples at degree 2, whose list is (7,5), (5,7). Each tells a call from a wrong program that is close to it: a start that keeps 0
-- and 0, a draw that keeps the pair just given, a return that leaves the pair, a look that works it out anew.
use Prim.Native.Nat.{ℕ}
use mathlib.Core.Path.{◌≡◌, refl}
use mathlib.Core.List.{[], ◌∷◌}
use lib.ListN.{replicate}
use Rattle.reply.specs.Reply.{served, spent}
use Rattle.poly.specs.Code.{add, mul, scale}
use Rattle.poly.specs.Limits.{outside}
use Rattle.pairs.specs.Words.{words_from}
use Rattle.pairs.specs.Sequences.{compositions, sequences, block}
use Rattle.pairs.specs.Pairs.{turn, build, pairs}
use Rattle.pairs.proofs.Examples.{◌and◌}
use Rattle.walk.specs.declared.Walk.{Walk}
use Rattle.walk.specs.Walks.{next_pair, started, bad_record, held, look_reply, draw_reply, after_draw, set_mark_reply, after_set_mark}
use Rattle.walk.specs.Walks.{go_back_reply, after_go_back}

-- mark 0 set at the start, and two draws
abbrev first : Walk
first = after_draw (after_set_mark (started 2) 0) 0

abbrev second : Walk
second = after_draw first 0

pub next_pairs : held (started 2) ∷ held first ∷ held second ∷ held (after_go_back second 0) ∷ []
    ≡ 7 and 5 ∷ 5 and 7 ∷ 0 and 0 ∷ 7 and 5 ∷ []
unfolding next_pair pairs sequences block compositions words_from build turn add mul scale outside bad_record
    draw_reply after_draw set_mark_reply after_set_mark go_back_reply after_go_back
next_pairs = refl

-- a record made by other means, which holds 1 and 2
abbrev made : ℕ → Walk
made position = record { degree = 2; position = position; marks = replicate 8 0; counts = replicate 8 0; f = 1; g = 2 }

pub as_it_is : look_reply (made 0) ∷ draw_reply (made 0) 0 ∷ look_reply (made 2) ∷ draw_reply (made 2) 0 ∷ []
    ≡ served (1 ∷ 2 ∷ []) ∷ served (1 ∷ 2 ∷ []) ∷ spent ∷ spent ∷ []
unfolding outside bad_record look_reply draw_reply
as_it_is = refl

pub then_right : held (after_draw (made 0) 0) ∷ held (after_set_mark (made 0) 0) ∷ held (after_draw (made 2) 0) ∷ []
    ≡ 5 and 7 ∷ 1 and 2 ∷ 1 and 2 ∷ []
unfolding next_pair pairs sequences block compositions words_from build turn add mul scale outside bad_record
    draw_reply after_draw set_mark_reply after_set_mark
then_right = refl
