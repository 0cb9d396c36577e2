-- The symbol is linear in the site, since the product and its middle are. So two sites with the same symbol differ by one with symbol 0.
use mathlib.Core.Path.{◌≡◌, ◌∙◌}
use Prim.Native.Nat.{ℕ, suc, ◌+◌, ◌-◌, ◌*◌, ◌/◌, ◌^◌, ◌≤◌, ◌<◌}
use native.Mathlib.Nat
use Rattle.poly.specs.Code.{add, scale, mul}
use Rattle.poly.proofs.Ring
use Rattle.poly.proofs.Blocks
use Rattle.squares.specs.Symbols.{symbol}
use Rattle.squares.proofs.Codes
use Rattle.squares.proofs.Codes.{minus}
use Rattle.squares.proofs.Middle
use Rattle.squares.proofs.Middle.{middle}

module _ (p : ℕ) (p2 : 2 ≤ p) (n : ℕ) where
  middle_add : (a b : ℕ) → middle p n (add p a b) ≡ add p (middle p n a) (middle p n b)
  middle_add a b = rw (Codes.add_div p p2 n a b) (Codes.add_mod p p2 n (a / p ^ n) (b / p ^ n))

  middle_scale : (c a : ℕ) → middle p n (scale p c a) ≡ scale p c (middle p n a)
  middle_scale c a = rw (Codes.scale_div p p2 n c a) (Codes.scale_mod p p2 n c (a / p ^ n))

  module _ {f : ℕ} (f_lt : f < p ^ suc n) where
    pub symbol_lt : (row : ℕ) {col : ℕ} → col < p ^ n → symbol p n f row col < p ^ n
    symbol_lt row {col} h =
        rw (Middle.symbol_middle p p2 n row f_lt h) (Nat.mod-lt (mul p f (row * p ^ n + col) / p ^ n) (Blocks.pow_pos p p2 n))

    pub symbol_add : (row row' : ℕ) {col col' : ℕ} → col < p ^ n → col' < p ^ n
        → symbol p n f (add p row row') (add p col col') ≡ add p (symbol p n f row col) (symbol p n f row' col')
    symbol_add row row' {col} {col'} h h' =
        let X : ℕ = row * p ^ n + col in
        let X' : ℕ = row' * p ^ n + col' in
        rw (
          Middle.symbol_middle p p2 n row f_lt h,
          Middle.symbol_middle p p2 n row' f_lt h',
          Middle.symbol_middle p p2 n (add p row row') f_lt (Blocks.add_lt p p2 n h h'),
          ← Blocks.add_block p p2 n row row' h h',
          Ring.mul_add p p2 f X X',
        )
        (middle_add (mul p f X) (mul p f X'))

    symbol_scale : (c row : ℕ) {col : ℕ} → col < p ^ n
        → symbol p n f (scale p c row) (scale p c col) ≡ scale p c (symbol p n f row col)
    symbol_scale c row {col} h =
        let X : ℕ = row * p ^ n + col in
        rw (
          Middle.symbol_middle p p2 n row f_lt h,
          Middle.symbol_middle p p2 n (scale p c row) f_lt (Blocks.scale_lt p p2 n c h),
          ← Blocks.scale_block p p2 n c row h,
          Ring.mul_comm p p2 f (scale p c X),
          Ring.scale_mul p p2 c X f,
          Ring.mul_comm p p2 X f,
        )
        (middle_scale c (mul p f X))

    pub symbol_minus : (row row' : ℕ) {col col' : ℕ} → col < p ^ n → col' < p ^ n
        → symbol p n f row col ≡ symbol p n f row' col' → symbol p n f (minus p row row') (minus p col col') ≡ 0
    symbol_minus row row' {col} {col'} h h' e =
        symbol_add row (scale p (p - 1) row') h (Blocks.scale_lt p p2 n (p - 1) h')
        ∙ rw (symbol_scale (p - 1) row' h', e) (Ring.add_neg p p2 (symbol p n f row' col'))
