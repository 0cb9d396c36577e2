-- `lay` meets its contract: the test is the one cause, and `fill` does the rest.
use mathlib.Core.Logic.{◌⊎◌, inl, inr}
use mathlib.Core.List.{List, []}
use mathlib.Core.Path.{◌≡◌, refl, ap, ◌∙◌}
use Prim.Native.Nat.{ℕ, ◌*◌, ◌%◌, ◌^◌, ◌≤◌, ◌<◌}
use native.Mathlib.Omega.{arith}
use borrow.Author.Tests.{lt-ltb, le-ltb}
use lib.ListN.{length}
use lib.Pow.{shl_exact}
use Rattle.reply.specs.Reply.{Reply, served, refused, after}
use Rattle.squares.specs.Doubling.{room_reply, Fillable}
use Rattle.squares.proofs.Sheets.{square_is}
use Rattle.squares.proofs.lay.Goals as goal

-- the bytes of a sheet
size_is : {n : ℕ} {codes : List ℕ} → Fillable n codes → length codes * 2 ^ (2 * n) % 2 ^ 64 ≡ length codes * 4 ^ n
size_is {n} {codes} given =
    let width : ℕ = length codes in
    shl_exact {a = width} 2 (2 * n) 64 (narrow given.two_or_three) (omega (arith, given.few)) ∙ ap (λ (v : ℕ). width * v) (square_is n)
  where
    narrow : (length codes ≡ 2) ⊎ (length codes ≡ 3) → length codes < 4
    narrow (inl e) = omega arith
    narrow (inr e) = omega arith

module _ (width n : ℕ) (lent new : List ℕ) where
  short : length lent < width * 4 ^ n
      → let room : Reply = room_reply width n (length lent) in (refused 4 ≡ room) × (lent ≡ after room new lent)
  short l = rw (lt-ltb (length lent) (width * 4 ^ n) l) (refl, refl)

  long : {out : List ℕ} → width * 4 ^ n ≤ length lent → out ≡ new
      → let room : Reply = room_reply width n (length lent) in (served [] ≡ room) × (out ≡ after room new lent)
  long l is = rw (le-ltb (length lent) (width * 4 ^ n) l) (refl, is)

pub returns-then-out-codes : goal.returns-then-out-codes
returns-then-out-codes c =
    let (told, kept) = short (length c.args.codes.now) c.args.n c.args.out.now _ (omega (arith, size_is c.requires, c.if-out-codes.true)) in
    record { result_value = told; out_after = kept }

pub fill-requires : goal.fill-requires
fill-requires c = (c.requires, omega (arith, size_is c.requires, c.if-out-codes.false))

pub returns : goal.returns
returns c =
    let a = c.args in
    let (told, filled) =
    long (length a.codes.now) a.n a.out.now _ (omega (arith, size_is c.requires, c.if-out-codes.false)) c.fill.ensures in
    record { result_value = told; out_after = filled }
