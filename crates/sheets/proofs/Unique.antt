-- A count of 1 means exactly one: of the numbers below k, and of the sites, which are the numbers below N × N row by row.
use mathlib.Core.Bool.{Bool, true, false, cond, true≢false}
use mathlib.Core.Logic.{◌↔◌}
use mathlib.Core.Path.{◌≡◌, refl, sym, ap, ap₂, ◌∙◌}
use Prim.Native.Nat.{ℕ, zero, suc, ◌+◌, ◌*◌, ◌/◌, ◌%◌, ◌<◌}
use native.Mathlib.Nat.{mod-lt, div-add-mod', div-lt_iff_lt-mul}
use native.Mathlib.Omega.{arith}
use lib.Arith.{digits_lt, digits_div, digits_mod}
use Rattle.squares.specs.Squares.{ExactlyOne, Site, On}
use Rattle.squares.proofs.Codes.{digits_unique}
use Rattle.sheets.specs.Counting.{count_below}
use Rattle.sheets.proofs.Below.{last_or, count_some, count_none}

module _ (test : ℕ → Bool) where
  -- a number below k that passes
  abbrev pub Passes : ℕ → ℕ → Type 0
  Passes k i = (i < k) × (test i ≡ true)

  one_of : (k : ℕ) → count_below k test ≡ 1 → ExactlyOne (Passes k)
  one_of zero e = absurd (omega arith)
  one_of (suc k) e = go (test k) refl (one_of k)
    where
      go : (b : Bool) → test k ≡ b → (count_below k test ≡ 1 → ExactlyOne (Passes k)) → ExactlyOne (Passes (suc k))
      go true t before =
          let none : count_below k test + 1 ≡ 1 = rw t at e in
          let last : (i : ℕ) → Passes (suc k) i → i ≡ k =
          λ i (h, p). last_or h (λ (same : i ≡ k). same) (λ (l : i < k). absurd (omega (arith, count_some test k i l p))) in
          record { one = k; is = (omega arith, t); only = λ a b pa pb. last a pa ∙ sym (last b pb) }
      go false t before =
          let some : count_below k test + 0 ≡ 1 = rw t at e in
          let one = before (omega arith) in
          let below : (i : ℕ) → Passes (suc k) i → Passes k i =
          λ i (h, p). (last_or h (λ (same : i ≡ k). absurd (true≢false (sym p ∙ ap test same ∙ t))) (λ (l : i < k). l), p) in
          record {
            one = one.one;
            is = (let l : _ = one.is.0 in omega arith, one.is.1);
            only = λ a b pa pb. one.only a b (below a pa) (below b pb);
          }

  of_one : (k : ℕ) → ExactlyOne (Passes k) → count_below k test ≡ 1
  of_one zero one = absurd (let l : _ = one.is.0 in omega arith)
  of_one (suc k) one = go (test k) refl (of_one k)
    where
      go : (b : Bool) → test k ≡ b → (ExactlyOne (Passes k) → count_below k test ≡ 1) → count_below k test + cond b 1 0 ≡ 1
      go true t before =
          let none : count_below k test ≡ 0 = count_none test k (λ i h. other i h (test i) refl) in
          omega arith
        where
          other : (i : ℕ) → i < k → (b : Bool) → test i ≡ b → b ≡ false
          other i h true p = absurd (let same : i ≡ k = one.only i k (omega arith, p) (omega arith, t) in omega arith)
          other i h false p = refl
      go false t before =
          let e : count_below k test ≡ 1 = before (record {
            one = one.one;
            is = (
              last_or one.is.0 (λ (same : one.one ≡ k). absurd (true≢false (sym one.is.1 ∙ ap test same ∙ t)))
                  (λ (l : one.one < k). l),
              one.is.1,
            );
            only = λ a b (ha, pa) (hb, pb). one.only a b (omega arith, pa) (omega arith, pb);
          }) in
          omega arith

  pub count_unique : (k : ℕ) → (count_below k test ≡ 1) ↔ ExactlyOne (Passes k)
  count_unique k = (one_of k, of_one k)

-- Sites by their numbers, and by row and column.
module _ {N : ℕ} (pos : 0 < N) (P : ℕ → ℕ → Type 0) where
  abbrev Numbered : ℕ → Type 0
  Numbered s = (s < N * N) × P (s / N) (s % N)

  abbrev Placed : Site → Type 0
  Placed site = On N site × P site.row site.col

  placed : (s : ℕ) → Numbered s → Placed (record { row = s / N; col = s % N })
  placed s (h, p) = (((div-lt_iff_lt-mul pos).1 h, mod-lt s pos), p)

  numbered : (site : Site) → Placed site → Numbered (site.row * N + site.col)
  numbered site ((hr, hc), p) = (digits_lt hr hc, rw (digits_div site.row hc, digits_mod site.row hc) p)

  pub sites_unique : ExactlyOne Numbered ↔ ExactlyOne Placed
  sites_unique = (
    (λ one. record {
      one = record { row = one.one / N; col = one.one % N };
      is = placed one.one one.is;
      only =
          λ x y px py.
          let (rows, cols) = digits_unique x.row y.row px.0.1 py.0.1 (one.only _ _ (numbered x px) (numbered y py)) in
          ap₂ (λ (r c : ℕ). record { row = r; col = c }) rows cols;
    }),
    (λ one. record {
      one = one.one.row * N + one.one.col;
      is = numbered one.one one.is;
      only =
          λ s t ps pt.
          let same = one.only _ _ (placed s ps) (placed t pt) in
          sym (div-add-mod' s N) ∙ ap (λ (site : Site). site.row * N + site.col) same ∙ div-add-mod' t N;
    }),
  )
