-- A sheet call that is served: none of its causes applies, so the site call is served too and answers with the bytes of the site; and any
-- two of the codes are coprime, so the squares are Latin and orthogonal, and so are those that the bytes show.
use mathlib.Core.Path.{◌≡◌, sym, ap₂, ◌∙◌}
use mathlib.Core.Bool.{false}
use mathlib.Core.List.{[], ◌∷◌, List}
use Prim.Native.Nat.{ℕ, ◌+◌, ◌*◌, ◌%◌, ◌^◌, ◌<◌}
use native.Mathlib.Nat.{le_refl, mul_comm}
use native.Mathlib.Omega.{arith}
use lib.Arith.{digits_lt}
use lib.Dec.{ltb}
use borrow.Author.Tests.{lt-leb}
use lib.ListN.{length, drop, get_or, get_or-append}
use Rattle.reply.specs.Reply.{served, ◌gives◌}
use Rattle.reply.proofs.Order.{NoneApplies, none_applies, none_refuses, clear_left, clear_right}
use Rattle.poly.specs.Code.{HasDegree}
use Rattle.poly.specs.Causes.{code_causes, own_causes, common_factors, coprime_causes}
use Rattle.poly.proofs.Ranges.{sheets_inside}
use Rattle.poly.proofs.Several.{own_clear, code_passed, codes_coprime}
use Rattle.poly.proofs.Primes.{inverses_2}
use Rattle.squares.specs.Squares.{Square}
use Rattle.squares.specs.Symbols.{symbol}
use Rattle.squares.specs.Sheets.{shown}
use Rattle.squares.specs.Replies.{off_site, site_causes, site_reply, sheet_causes, sheet_of, sheet_reply_of, sheet_bytes_of}
use Rattle.squares.specs.Claims.{SquaresShown}
use Rattle.squares.proofs.Linear
use Rattle.squares.proofs.Latin.{latin}
use Rattle.squares.proofs.Orthogonal.{orthogonal_coprime}
use Rattle.squares.proofs.Agreeing.{Agree, latin_same, orthogonal_same}
use Rattle.squares.proofs.Sheets.{four_pow, symbol_at, sheet_of_length}

module _ (n : ℕ) (codes lent : List ℕ) (is_served : sheet_reply_of n codes (length lent) ≡ served []) where
  abbrev width : ℕ
  width = length codes

  abbrev code : ℕ → ℕ
  code k = get_or codes k 0

  -- the square that byte k of each site shows
  abbrev square : ℕ → Square
  square k = shown width (2 ^ n) k (sheet_bytes_of n codes lent)

  found : NoneApplies (sheet_causes n codes (length lent))
  unfolding sheet_reply_of
  found = none_applies (sheet_causes n codes (length lent)) [] [] is_served

  codes_clear : NoneApplies (coprime_causes n codes)
  codes_clear = clear_left (coprime_causes n codes) (ltb (length lent) (width * 4 ^ n) gives 4 ∷ []) found.1

  own : NoneApplies (own_causes n codes)
  own = clear_left (own_causes n codes) (common_factors codes) codes_clear

  passed : {k : ℕ} → k < width → HasDegree 2 n (code k) × (code k % 2 ≡ 1)
  passed {k} hk = code_passed n codes own k hk

  site_served : (k l row col : ℕ) → k < width → l < width → row < 2 ^ n → col < 2 ^ n
      → site_reply n (code k) (code l) row col ≡ served (symbol 2 n (code k) row col ∷ symbol 2 n (code l) row col ∷ [])
  unfolding site_reply code_causes
  site_served k l row col hk hl hr hc =
      let (k_degree, (k_constant, _)) = own_clear n codes own k hk in
      let (l_degree, (l_constant, _)) = own_clear n codes own l hl in
      none_refuses (site_causes n (code k) (code l) row col) _
      (sheets_inside n found.0, (k_degree, (k_constant, (l_degree, (l_constant, (on_site, tt))))))
    where
      on_site : off_site n row col ≡ false
      on_site = rw (lt-leb (2 ^ n) row hr, lt-leb (2 ^ n) col hc)

  -- the bytes show the symbols
  shows : {k : ℕ} → k < width → Agree (2 ^ n) (symbol 2 n (code k)) (square k)
  unfolding sheet_bytes_of shown
  shows {k} hk row col hr hc =
      let place : ℕ = width * (row * 2 ^ n + col) + k in
      let most : (row * 2 ^ n + col) * width + k < 2 ^ n * 2 ^ n * width = digits_lt (digits_lt hr hc) hk in
      let inside : place < length (sheet_of n codes) =
      rw (sheet_of_length n codes, four_pow n, mul_comm width (row * 2 ^ n + col), mul_comm width (2 ^ n * 2 ^ n)) most in
      sym (rw is_served
      (get_or-append (sheet_of n codes) (drop (width * 4 ^ n) lent) 0 place inside ∙ symbol_at n codes row col hr hc hk))

  -- byte k of a site is what the site call answers for code k
  pub sheet_site : (k l row col : ℕ) → k < width → l < width → row < 2 ^ n → col < 2 ^ n
      → site_reply n (code k) (code l) row col ≡ served (square k row col ∷ square l row col ∷ [])
  sheet_site k l row col hk hl hr hc =
      site_served k l row col hk hl hr hc
      ∙ ap₂ (λ (a b : ℕ). served (a ∷ b ∷ [])) (shows hk row col hr hc) (shows hl row col hr hc)

  -- the bytes are symbols
  pub shown_lt : {k : ℕ} → k < width → (row col : ℕ) → row < 2 ^ n → col < 2 ^ n → square k row col < 2 ^ n
  shown_lt {k} hk row col hr hc =
      rw (← shows hk row col hr hc) (Linear.symbol_lt 2 (le_refl 2) n (passed hk).0.high row hc)

  -- each square is a Latin square, and any two, laid together, show each pair of symbols at exactly one site
  pub shows_squares : SquaresShown width (2 ^ n) (sheet_bytes_of n codes lent)
  shows_squares =
      record {
        latin =
            λ k hk.
            latin_same (2 ^ n) (shows hk) (latin 2 (le_refl 2) inverses_2 n (passed hk).0 (omega (arith, (passed hk).1)));
        orthogonal =
            λ k l hk hl other.
            orthogonal_same (2 ^ n) (shows hk) (shows hl)
            ((orthogonal_coprime 2 (le_refl 2) inverses_2 n (passed hk).0 (passed hl).0).1
            (codes_coprime codes (clear_right (own_causes n codes) (common_factors codes) codes_clear) k l hk hl other));
      }
