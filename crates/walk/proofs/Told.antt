-- Laws of the past that hold of any calls and answers: parts of a list add up; without a return the place counts the draws; a mark that is
-- not set anew stays.
use mathlib.Core.List.{List, [], ◌∷◌, ◌++◌}
use mathlib.Core.Path.{◌≡◌, refl, sym, ap, ◌∙◌}
use Prim.Native.Nat.{ℕ, zero, suc, ◌+◌, ◌≤◌}
use native.Mathlib.Nat.{add-zero, add_assoc}
use native.Mathlib.Decide.{ℕ_discrete}
use native.Mathlib.Omega.{arith}
use borrow.Author.Tests.{eq-eqb}
use lib.ListN.{get_or, take, drop, take-append-drop}
use lib.Seq.{take-take, get_or-set_other}
use Rattle.reply.specs.Reply.{Reply, served, refused, spent}
use Rattle.walk.specs.Calls.{Call, look, draw, set_mark, go_back, Answered, how_many, drew, returned, draws, returns, sets}
use Rattle.walk.specs.Past.{Past, told, all_told}

pub told_append : (n : ℕ) (past : Past) (these those : List Answered)
    → all_told n past (these ++ those) ≡ all_told n (all_told n past these) those
told_append n past [] those = refl
told_append n past (first ∷ these) those = told_append n (told n first.call first.reply past) these those

-- the past before place k, from the past before place i
pub told_between : (n : ℕ) (past : Past) (l : List Answered) (i k : ℕ) → i ≤ k
    → all_told n past (take k l) ≡ all_told n (all_told n past (take i l)) (drop i (take k l))
told_between n past l i k h =
    ap (all_told n past) (sym (ap (λ (t : List Answered). t ++ drop i (take k l)) (sym (take-take i k l h)) ∙ take-append-drop i (take k l)))
    ∙ told_append n past (take i l) (drop i (take k l))

-- one call that is no served return
one_on : (n : ℕ) (past : Past) (call : Call) (reply : Reply) → returned call reply ≡ 0
    → (told n call reply past).place ≡ past.place + drew call reply
one_on n past look reply e = sym (add-zero past.place)
one_on n past (draw bonder) reply e = refl
one_on n past (set_mark mark) (served values) e = sym (add-zero past.place)
one_on n past (set_mark mark) spent e = sym (add-zero past.place)
one_on n past (set_mark mark) (refused number) e = sym (add-zero past.place)
one_on n past (go_back mark) (served values) e = absurd (omega arith)
one_on n past (go_back mark) spent e = sym (add-zero past.place)
one_on n past (go_back mark) (refused number) e = sym (add-zero past.place)

pub place_on : (n : ℕ) (past : Past) (l : List Answered) → returns l ≡ 0 → (all_told n past l).place ≡ past.place + draws l
place_on n past [] e = sym (add-zero past.place)
place_on n past (first ∷ rest) e =
    let here : returned first.call first.reply ≡ 0 = omega arith in
    place_on n (told n first.call first.reply past) rest (omega arith)
    ∙ ap (λ (v : ℕ). v + draws rest) (one_on n past first.call first.reply here)
    ∙ add_assoc past.place (drew first.call first.reply) (draws rest)

-- a part of a list has no more of a kind than the list
pub take_many : (kind : Call → Reply → ℕ) (k : ℕ) (l : List Answered) → how_many kind (take k l) ≤ how_many kind l
take_many kind zero l = omega arith
take_many kind (suc k) [] = omega arith
take_many kind (suc k) (first ∷ rest) = let ih = take_many kind k rest in omega arith

-- ---- the marks
-- a mark that is not set stays
told_kept : (n mark : ℕ) (call : Call) (reply : Reply) (past : Past) → sets mark call reply ≡ 0
    → get_or (told n call reply past).marks mark 0 ≡ get_or past.marks mark 0
told_kept n mark look reply past e = refl
told_kept n mark (draw bonder) reply past e = refl
told_kept n mark (set_mark other) (served values) past e = go (ℕ_discrete mark other)
  where
    go : Dec (mark ≡ other) → get_or (told n (set_mark other) (served values) past).marks mark 0 ≡ get_or past.marks mark 0
    go (yes same) = absurd (let z : ◌≡◌ {A = ℕ} 1 0 = rw (eq-eqb mark other same) at e in omega arith)
    go (no ne) = get_or-set_other past.marks other mark _ 0 ne
told_kept n mark (set_mark other) spent past e = refl
told_kept n mark (set_mark other) (refused number) past e = refl
told_kept n mark (go_back other) (served values) past e = refl
told_kept n mark (go_back other) spent past e = refl
told_kept n mark (go_back other) (refused number) past e = refl

pub all_kept : (n mark : ℕ) (past : Past) (l : List Answered) → how_many (sets mark) l ≡ 0
    → get_or (all_told n past l).marks mark 0 ≡ get_or past.marks mark 0
all_kept n mark past [] e = refl
all_kept n mark past (first ∷ rest) e =
    let here : sets mark first.call first.reply ≡ 0 = omega arith in
    all_kept n mark (told n first.call first.reply past) rest (omega arith)
    ∙ told_kept n mark first.call first.reply past here
