-- A triple of the list passes: its codes have the degree, are odd and pairwise coprime, so none of their causes applies, neither in the
-- sheet call nor in a trial file. And where none applies, the codes are such a triple, which stands in the list.
use mathlib.Core.Bool.{false, not}
use mathlib.Core.List.{List, [], ◌∷◌, ◌++◌}
use mathlib.Core.Path.{◌≡◌, refl, sym}
use Prim.Native.Nat.{ℕ, ◌*◌, ◌^◌, ◌<◌}
use native.Mathlib.Omega.{arith}
use lib.Dec.{ltb, eqb}
use lib.ListN.{get_or}
use borrow.Author.Tests.{le-ltb, eq-eqb}
use Rattle.reply.specs.Reply.{served, ◌gives◌}
use Rattle.reply.proofs.Order.{NoneApplies, clear_append, clear_left, clear_right, none_applies, none_refuses, sole_served}
use Rattle.poly.specs.Limits.{outside}
use Rattle.poly.specs.Coprime.{Coprime, gcd}
use Rattle.poly.specs.Causes.{code_causes, own_causes, common_factor, common_factors, coprime_causes}
use Rattle.poly.proofs.Ranges.{within, inside, code_passes}
use Rattle.poly.proofs.Binary.{coprime_one}
use Rattle.poly.proofs.Several.{code_passed, codes_coprime}
use Rattle.squares.specs.Replies.{sheet_causes, sheet_reply_of}
use Rattle.trial.specs.Rules.{today}
use Rattle.trial.specs.Trial.{head_causes}
use Rattle.trial.proofs.Content.{sound}
use Rattle.trial.proofs.Trial.{head_back}
use Rattle.trial.proofs.Codec.{read_same}
use Rattle.triples.specs.declared.Triple.{Triple}
use Rattle.triples.specs.Replies.{triple_reply, triple_at_reply}
use Rattle.triples.specs.Claims.{OddCode, CoprimeTriple, GivenOnce}
use Rattle.triples.proofs.Calls.{call_gives}
use Rattle.planner.specs.Offered.{codes_from, head_for, Admitted, OfferedClaim}

no_factor : (f g : ℕ) → Coprime 2 f g → not (eqb (gcd 2 f g) 1) ≡ false
no_factor f g c = rw (eq-eqb (gcd 2 f g) 1 ((coprime_one f g).0 c))

codes_clear : (n : ℕ) (triple : Triple) → CoprimeTriple n triple → NoneApplies (coprime_causes n (codes_from triple))
unfolding code_causes
codes_clear n triple c =
    let f : ℕ = triple.f in
    let g : ℕ = triple.g in
    let h : ℕ = triple.h in
    let factors = common_factor f g ∷ common_factor f h ∷ common_factor g h ∷ [] in
    let free : NoneApplies factors =
    (no_factor f g c.coprime_fg, (no_factor f h c.coprime_fh, (no_factor g h c.coprime_gh, tt))) in
    let last = code_passes n h factors c.code_h.degree c.code_h.odd free in
    let others = code_passes n g (code_causes n h ++ factors) c.code_g.degree c.code_g.odd last in
    code_passes n f (code_causes n g ++ (code_causes n h ++ factors)) c.code_f.degree c.code_f.odd others

clear_coprime : (n : ℕ) (triple : Triple) → NoneApplies (coprime_causes n (codes_from triple)) → CoprimeTriple n triple
clear_coprime n triple clear =
    record {
      code_f = code 0 (omega arith);
      code_g = code 1 (omega arith);
      code_h = code 2 (omega arith);
      coprime_fg = factor_free 0 1 (omega arith) (omega arith) (λ e. omega (arith, e));
      coprime_fh = factor_free 0 2 (omega arith) (omega arith) (λ e. omega (arith, e));
      coprime_gh = factor_free 1 2 (omega arith) (omega arith) (λ e. omega (arith, e));
    }
  where
    codes : List ℕ
    codes = codes_from triple

    code : (k : ℕ) → k < 3 → OddCode n (get_or codes k 0)
    code k h =
        let (degree, odd) = code_passed n codes (clear_left (own_causes n codes) (common_factors codes) clear) k h in
        record { degree = degree; odd = odd }

    factor_free : (k l : ℕ) → k < 3 → l < 3 → (k ≡ l → ⊥) → Coprime 2 (get_or codes k 0) (get_or codes l 0)
    factor_free = codes_coprime codes (clear_right (own_causes n codes) (common_factors codes) clear)

-- What passes is given.
clear_given : (n : ℕ) (triple : Triple) → outside 2 6 n ≡ false → NoneApplies (coprime_causes n (codes_from triple)) → GivenOnce n triple
clear_given n triple degree clear =
    let (low, high) = within 2 6 degree in (call_gives n low high).once triple (clear_coprime n triple clear)

-- The triple call serves degrees 2 to 6 alone.
degree_served : (n position : ℕ) (triple : Triple) → triple_at_reply n position ≡ triple_reply triple → outside 2 6 n ≡ false
unfolding triple_at_reply
degree_served n position triple e = (sole_served (outside 2 6 n) 12 _ (sym e)).0

passes : (n position : ℕ) (triple : Triple) → triple_at_reply n position ≡ triple_reply triple → Admitted n triple
unfolding sheet_reply_of
passes n position triple e =
    let degree = degree_served n position triple e in
    let (low, high) = within 2 6 degree in
    let codes : List ℕ = codes_from triple in
    let clear = codes_clear n triple ((call_gives n low high).coprime position triple e) in
    let head : NoneApplies (head_causes today (head_for n triple)) = (inside 1 2 (omega arith) (omega arith), (degree, clear)) in
    record {
      sheet =
          λ room fits.
          none_refuses (sheet_causes n codes room) (served [])
          (degree, clear_append (coprime_causes n codes) (ltb room (3 * 4 ^ n) gives 4 ∷ []) clear (le-ltb room (3 * 4 ^ n) fits, tt));
      writer = none_refuses (head_causes today (head_for n triple)) (served []) head;
      reader = λ rest. head_back (head_for n triple) rest refl head;
    }

served_given : (n room : ℕ) (triple : Triple) → sheet_reply_of n (codes_from triple) room ≡ served [] → GivenOnce n triple
unfolding sheet_reply_of
served_given n room triple e =
    let codes : List ℕ = codes_from triple in
    let found = none_applies (sheet_causes n codes room) [] [] e in
    clear_given n triple found.0 (clear_left (coprime_causes n codes) (ltb room (3 * 4 ^ n) gives 4 ∷ []) found.1)

pub offered : OfferedClaim
offered =
    record {
      given = passes;
      served_given = served_given;
      written_given =
          λ n triple e.
          let found = none_applies (head_causes today (head_for n triple)) [] [] e in clear_given n triple found.1.0 found.1.1;
      read_given =
          λ rooms file t rest triple below e is.
          let s = sound t (read_same rooms file below e).clear in
          clear_given t.head.degree triple s.degree (rw is at s.codes);
    }
