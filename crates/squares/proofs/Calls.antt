-- What a sheet call answers and leaves in the lent bytes, for any list of codes: past the degree and the codes, the length decides.
use mathlib.Core.List.{List, [], ◌∷◌, ◌++◌}
use mathlib.Core.Logic.{◌⊎◌}
use mathlib.Core.Path.{◌≡◌, sym, ap, ◌∙◌}
use Prim.Native.Nat.{ℕ, suc, ◌*◌, ◌^◌, ◌<◌}
use native.Mathlib.Omega.{arith}
use lib.ListN.{length, get_or, drop}
use Rattle.reply.specs.Reply.{Reply, served, refused, unless, after}
use Rattle.reply.proofs.Order.{passed, failed, kept, NoneApplies, none_applies, clear_left}
use Rattle.poly.specs.Causes.{sheet_degree_cause, own_causes, common_factors, coprime_causes}
use Rattle.poly.proofs.Ranges.{within}
use Rattle.poly.proofs.Several.{code_passed}
use Rattle.squares.specs.Replies.{sheet_reply_of, sheet_of, sheet_bytes_of}
use Rattle.squares.specs.Doubling.{room_reply, Fillable}

module _ (n : ℕ) (codes lent : List ℕ) where
  abbrev pub Refuses : ℕ → Type 0
  Refuses k = (refused k ≡ sheet_reply_of n codes (length lent)) × (lent ≡ sheet_bytes_of n codes lent)

  -- a refusal leaves the bytes as they were
  refuses : {k : ℕ} → refused k ≡ sheet_reply_of n codes (length lent) → Refuses k
  unfolding sheet_bytes_of
  refuses e = (e, kept e _ lent)

  -- a refusal for the degree or the codes is one of the sheet
  pub bad : {k : ℕ} → refused k ≡ unless (sheet_degree_cause n ∷ coprime_causes n codes) (served []) → Refuses k
  unfolding sheet_reply_of
  bad e = refuses (failed _ _ (sheet_degree_cause n ∷ coprime_causes n codes) e)

  module _ (clear : served [] ≡ unless (sheet_degree_cause n ∷ coprime_causes n codes) (served [])) where
    none : NoneApplies (sheet_degree_cause n ∷ coprime_causes n codes)
    none = none_applies (sheet_degree_cause n ∷ coprime_causes n codes) [] [] (sym clear)

    small : (k : ℕ) → k < length codes → get_or codes k 0 < 2 ^ suc n
    small k l = (code_passed n codes (clear_left (own_causes n codes) (common_factors codes) none.1) k l).0.high

    -- a sheet can be filled
    pub fillable : (length codes ≡ 2) ⊎ (length codes ≡ 3) → Fillable n codes
    fillable count =
        let (low, high) = within 2 6 none.0 in
        record { some = omega arith; few = omega arith; two_or_three = count; small = small }

    -- past the degree and the codes
    pub laid : {reply : Reply} {out : List ℕ}
        → (let room : Reply = room_reply (length codes) n (length lent) in
        (reply ≡ room) × (out ≡ after room (sheet_of n codes ++ drop (length codes * 4 ^ n) lent) lent))
        → (reply ≡ sheet_reply_of n codes (length lent)) × (out ≡ sheet_bytes_of n codes lent)
    unfolding sheet_reply_of sheet_bytes_of
    laid (replied, left) =
        let e : sheet_reply_of n codes (length lent) ≡ room_reply (length codes) n (length lent) =
        passed _ _ (sheet_degree_cause n ∷ coprime_causes n codes) clear in (
          replied ∙ sym e,
          left ∙ ap (λ (r : Reply). after r (sheet_of n codes ++ drop (length codes * 4 ^ n) lent) lent) (sym e),
        )
