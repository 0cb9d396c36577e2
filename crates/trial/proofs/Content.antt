-- A content that is refused for nothing: what each cause denies of it. And contents with as many codes and lists as their version has.
use mathlib.Core.Logic.{◌⊎◌, inl, inr}
use mathlib.Core.Path.{◌≡◌}
use Prim.Native.Nat.{ℕ, zero, suc, ◌^◌, ◌≤◌, ◌<◌}
use mathlib.Core.Bool.{Bool, false, not}
use mathlib.Core.List.{List, [], ◌∷◌, map}
use native.Mathlib.Decide.{dec_lt}
use native.Mathlib.Omega.{arith}
use lib.Dec.{eqb}
use lib.ListN.{length, get_or}
use lib.Seq.{length-take-le}
use borrow.Author.Tests.{ltb-false, eqb-true, eq-eqb, not-false}
use Rattle.levels.specs.Levels.{repeats}
use Rattle.reply.specs.Reply.{◌gives◌}
use Rattle.reply.proofs.Order.{NoneApplies, clear_append, clear_left, clear_right}
use Rattle.poly.specs.Limits.{outside}
use Rattle.poly.specs.Causes.{coprime_causes}
use Rattle.poly.proofs.Ranges.{within}
use Rattle.trial.specs.Rules.{today}
use Rattle.trial.specs.Trial.{Trial, trial_from, head_causes}
use Rattle.trial.specs.Replies.{length_causes, repeat_causes, list_causes, name_causes, body_causes, content_causes}

-- A cause for each entry of a list, of which none applies.
module _ {A : Type 0} (test : A → Bool) (number : ℕ) (default : A) where
  none_of_all : (entries : List A) → NoneApplies (map (λ entry. test entry gives number) entries)
      → (k : ℕ) → k < length entries → test (get_or entries k default) ≡ false
  none_of_all [] clear k h = absurd (omega arith)
  none_of_all (entry ∷ entries) clear zero h = clear.0
  none_of_all (entry ∷ entries) clear (suc k) h = none_of_all entries clear.1 k (omega arith)

  all_none : (entries : List A) → ((k : ℕ) → k < length entries → test (get_or entries k default) ≡ false)
      → NoneApplies (map (λ entry. test entry gives number) entries)
  all_none [] clear = tt
  all_none (entry ∷ entries) clear = (clear 0 (omega arith), all_none entries (λ k h. clear (suc k) (omega arith)))

-- A list of so many levels that differ.
pub record FullList (order : ℕ) (levels : List ℕ) : Type 0 where
  pub long : length levels ≡ order
  pub differ : repeats levels ≡ false

abbrev pub FullLists : ℕ → List (List ℕ) → Type 0
FullLists order lists = (k : ℕ) → k < length lists → FullList order (get_or lists k [])

module _ (order : ℕ) (lists : List (List ℕ)) where
  abbrev off_size : List ℕ → Bool
  off_size levels = not (eqb (length levels) order)

  whole_lists : NoneApplies (list_causes order lists) → FullLists order lists
  whole_lists clear k h =
      let sizes = clear_left (length_causes order lists) (repeat_causes lists) clear in
      let differ = clear_right (length_causes order lists) (repeat_causes lists) clear in
      record {
        long = eqb-true (length (get_or lists k [])) order (not-false _ (none_of_all off_size 4 [] lists sizes k h));
        differ = none_of_all repeats 14 [] lists differ k h;
      }

  pub lists_clear : FullLists order lists → NoneApplies (list_causes order lists)
  lists_clear whole =
      clear_append (length_causes order lists) (repeat_causes lists)
      (all_none off_size 4 [] lists (λ k h. rw (eq-eqb (length (get_or lists k [])) order (whole k h).long)))
      (all_none repeats 14 [] lists (λ k h. (whole k h).differ))

pub record Sound (t : Trial) : Type 0 where
  pub head : NoneApplies (head_causes today t.head)
  pub version : outside 1 2 t.head.version ≡ false
  pub degree : outside 2 6 t.head.degree ≡ false
  pub codes : NoneApplies (coprime_causes t.head.degree t.head.codes)
  pub lists : FullLists (2 ^ t.head.degree) t.lists
  pub name : NoneApplies (name_causes t.name)
  pub name_short : length t.name ≤ 40

pub sound : (t : Trial) → NoneApplies (content_causes t) → Sound t
unfolding content_causes
sound t clear =
    let order : ℕ = 2 ^ t.head.degree in
    let head = clear_left (head_causes today t.head) (body_causes t) clear in
    let body = clear_right (head_causes today t.head) (body_causes t) clear in
    let name = clear_right (list_causes order t.lists) (name_causes t.name) body in
    record {
      head = head;
      version = head.0;
      degree = head.1.0;
      codes = head.1.1;
      lists = whole_lists order t.lists (clear_left (list_causes order t.lists) (name_causes t.name) body);
      name = name;
      name_short = ltb-false 40 (length t.name) name.0;
    }

-- As many codes and lists as the version has.
pub record Formed (t : Trial) : Type 0 where
  pub codes : length t.head.codes ≡ suc t.head.version
  pub lists : length t.lists ≡ suc t.head.version

-- So is what a call passes, with three of each, at a version that there is.
pub formed : (v n : ℕ) (codes : List ℕ) (lists : List (List ℕ)) (name : List ℕ) → length codes ≡ 3 → length lists ≡ 3
    → outside 1 2 v ≡ false → Formed (trial_from v n codes lists name)
formed v n codes lists name c l e =
    let high = (within 1 2 e).1 in
    record {
      codes = length-take-le (suc v) codes (omega arith);
      lists = length-take-le (suc v) lists (omega arith);
    }

-- There are two versions.
pub version_is : (v : ℕ) → outside 1 2 v ≡ false → (v ≡ 1) ⊎ (v ≡ 2)
version_is v e =
    let (low, high) = within 1 2 e in
    elim (dec_lt v 2) [ yes h ↦ inl (omega arith) | no h ↦ inr (omega arith) ]
