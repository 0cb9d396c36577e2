-- The bytes of a sheet by their sites, each site as one number: byte k of a site is the symbol of code k there.
use mathlib.Core.Path.{◌≡◌, sym, ap, ◌∙◌}
use mathlib.Core.List.{List}
use Prim.Native.Nat.{ℕ, ◌+◌, ◌*◌, ◌/◌, ◌%◌, ◌^◌, ◌<◌}
use native.Mathlib.Nat.{mod-lt, div-add-mod', div-lt_iff_lt-mul}
use lib.ListN.{length, get_or}
use lib.Pow.{pow_pos}
use Rattle.squares.specs.Replies.{sheet_of}
use Rattle.squares.specs.Doubling.{at_site}
use Rattle.squares.proofs.Sheets.{four_pow, symbol_at}

pub byte_is : (n : ℕ) (codes : List ℕ) (site : ℕ) {k : ℕ} → site < 4 ^ n → k < length codes
    → get_or (sheet_of n codes) (length codes * site + k) 0 ≡ at_site n (get_or codes k 0) site
byte_is n codes site {k} l hk =
    ap (λ (v : ℕ). get_or (sheet_of n codes) (length codes * v + k) 0) (sym (div-add-mod' site (2 ^ n)))
    ∙ symbol_at n codes (site / 2 ^ n) (site % 2 ^ n) ((div-lt_iff_lt-mul (pow_pos n)).1 (rw (← four_pow n) l)) (mod-lt site (pow_pos n)) hk
