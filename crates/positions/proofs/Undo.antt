-- Where the pair call and the position call serve, both speak of one place in the list; so each undoes the other.
use mathlib.Core.Bool.{false}
use mathlib.Core.List.{[], ◌∷◌, ◌++◌}
use mathlib.Core.Path.{◌≡◌, refl, sym, ap, ◌∙◌}
use Prim.Native.Nat.{ℕ, ◌≤◌, ◌<◌}
use borrow.Author.Tests.{eq-eqb, eqb-true, not-false}
use lib.Dec.{eqb}
use lib.ListN.{length}
use Rattle.reply.specs.Reply.{served, ◌gives◌}
use Rattle.reply.proofs.Order.{none_applies, none_refuses}
use Rattle.poly.specs.Limits.{list_length}
use Rattle.poly.specs.Coprime.{gcd}
use Rattle.poly.specs.Causes.{degree_cause, code_causes, common_factor}
use Rattle.poly.proofs.Binary.{coprime_one}
use Rattle.poly.proofs.Ranges.{inside, passed_codes, codes_pass}
use Rattle.euclid.specs.Chain.{Pair}
use Rattle.pairs.specs.Pairs.{pairs, entry, index_of, CoprimePair}
use Rattle.pairs.specs.Replies.{pair_reply, pair_at_reply}
use Rattle.pairs.proofs.Pairs.{length_pairs}
use Rattle.pairs.proofs.Standing.{entries_coprime, coprime_passed, coprime_stands, index_stands, pair_answers, pair_given}
use Rattle.positions.specs.Replies.{position_reply}
use Rattle.positions.specs.Claims.{UndoClaim}

module _ (n : ℕ) (low : 1 ≤ n) (high : n ≤ 31) where
  position_answers : (two : Pair) → CoprimePair n two
      → position_reply n two.f two.g ≡ served (index_of two.f two.g (pairs n) ∷ [])
  unfolding position_reply
  position_answers two c =
      let none : common_factor two.f two.g ≡ false gives 8 =
      rw (eq-eqb (gcd 2 two.f two.g) 1 ((coprime_one two.f two.g).0 c.coprime)) in
      rw none
      (none_refuses (degree_cause n ∷ code_causes n two.f ++ code_causes n two.g ++ (false gives 8 ∷ [])) _
      (inside 1 31 low high, codes_pass n two.f two.g (false gives 8 ∷ []) (coprime_passed n two c) (refl, tt)))

  pub entry_found : (j : ℕ) → j < list_length n → position_reply n (entry n j).f (entry n j).g ≡ served (j ∷ [])
  entry_found j h =
      let below : j < length (pairs n) = rw length_pairs h in
      let c = entries_coprime n j below in
      let s = coprime_stands n low (entry n j) c in
      position_answers (entry n j) c
      ∙ ap (λ (v : ℕ). served (v ∷ [])) (index_stands n (entry n j) s ∙ sym (s.only j below refl))

  pair_found : (j f g : ℕ) → pair_at_reply n j ≡ served (f ∷ g ∷ []) → position_reply n f g ≡ served (j ∷ [])
  pair_found j f g e =
      let (h, is) = pair_given n low high j f g e in
      sym (ap (λ (two : Pair). position_reply n two.f two.g) is) ∙ entry_found j h

  found_coprime : (j f g : ℕ) → position_reply n f g ≡ served (j ∷ []) → CoprimePair n (record { f = f; g = g })
  unfolding position_reply code_causes
  found_coprime j f g e =
      let causes = code_causes n f ++ code_causes n g ++ (common_factor f g ∷ []) in
      let (inner, none) = none_applies (degree_cause n ∷ causes) _ _ e in
      let p = passed_codes n f g (common_factor f g ∷ []) none in
      record {
        degree_f = p.degree_f;
        degree_g = p.degree_g;
        odd_f = p.odd_f;
        odd_g = p.odd_g;
        coprime = (coprime_one f g).1 (eqb-true (gcd 2 f g) 1 (not-false (eqb (gcd 2 f g) 1) none.1.1.1.1.0));
      }

  position_served : (j f g : ℕ) → position_reply n f g ≡ served (j ∷ []) → pair_at_reply n j ≡ served (f ∷ g ∷ [])
  position_served j f g e =
      let pair : Pair = record { f = f; g = g } in
      let c = found_coprime j f g e in
      let s = coprime_stands n low pair c in
      let given : served (index_of f g (pairs n) ∷ []) ≡ served (j ∷ []) = sym (position_answers pair c) ∙ e in
      let index : index_of f g (pairs n) ≡ j = cc in
      let at : s.position ≡ j = sym (index_stands n pair s) ∙ index in
      let below : s.position < list_length n = rw length_pairs at s.below in
      ap (pair_at_reply n) (sym at) ∙ pair_answers n low high s.position below ∙ ap pair_reply s.there

pub calls_undo : UndoClaim
calls_undo n low high j f g = (pair_found n low high j f g, position_served n low high j f g)
