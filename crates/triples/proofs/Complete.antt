-- The list of triples is complete: each entry is a triple of pairwise coprime codes, each such triple is an entry, and the entries rise
-- strictly, so none stands twice. Each loop's list rises, and so does the nested one.
use Prim.Native.Nat.{ℕ, ◌+◌, ◌^◌, ◌<◌}
use native.Mathlib.Nat.{lt_irrefl, pow-suc, le_refl}
use native.Mathlib.Omega.{arith}
use mathlib.Core.Bool.{true, ◌&&◌, and-eq-true_iff}
use mathlib.Core.List.Memᴰ
use mathlib.Core.List.{Memᴰ}
use mathlib.Core.Logic.{inl, inr}
use mathlib.Core.Path.{◌≡◌, refl, sym, ap, ◌∙◌}
use Rattle.loops.specs.Loops.{filter}
use Rattle.loops.proofs.Members.{entry_in, located, in_filter, filter_in, in_each, each_in}
use Rattle.loops.proofs.Rising.{Rises, rising_at, only_place, rising_filter, rising_each, rising_map}
use Rattle.poly.specs.Coprime.{Coprime}
use Rattle.poly.proofs.Primes.{inverses_2}
use Rattle.codes.specs.Codes.{monic_codes, coprime}
use Rattle.codes.proofs.Codes.{in_codes, codes_in, codes_rise, coprime_tested}
use Rattle.triples.specs.Triples.{Triple, none, beginning_with_two, beginning_with, triples}
use Rattle.triples.specs.Claims.{OddCode, CoprimeTriple, Precedes, TriplesClaim}

-- ---- the codes
module _ (n : ℕ) where
  odd_code : {code : ℕ} → Memᴰ code (monic_codes 2 n) → OddCode n code
  odd_code {code} m =
      let s = in_codes 2 n m in
      record { degree = record { low = s.low; high = omega (arith, s.high, pow-suc 2 n) }; odd = omega (arith, s.constant) }

  code_in : {code : ℕ} → OddCode n code → Memᴰ code (monic_codes 2 n)
  code_in {code} c =
      let high : code < 2 ^ n + 2 ^ n = omega (arith, c.degree.high, pow-suc 2 n) in
      codes_in 2 n (record { low = c.degree.low; high = high; constant = λ e. omega (arith, c.odd) })

  positive : {code : ℕ} → OddCode n code → 0 < code
  positive c = omega (arith, c.odd)

  tested : {f g : ℕ} → OddCode n f → coprime 2 f g ≡ true → Coprime 2 f g
  tested {f} {g} c = (coprime_tested 2 (le_refl 2) inverses_2 f g (positive c)).0

  passes : {f g : ℕ} → OddCode n f → Coprime 2 f g → coprime 2 f g ≡ true
  passes {f} {g} c = (coprime_tested 2 (le_refl 2) inverses_2 f g (positive c)).1

-- ---- the entries
module _ (n : ℕ) where
  -- what the triples of a loop are known by
  record Begins (f : ℕ) (triple : Triple) : Type 0 where
    same_f : triple.f ≡ f
    g_in : Memᴰ triple.g (monic_codes 2 n)
    h_in : Memᴰ triple.h (monic_codes 2 n)
    fg : coprime 2 f triple.g ≡ true
    fh : coprime 2 f triple.h ≡ true
    gh : coprime 2 triple.g triple.h ≡ true

  in_two : (f g : ℕ) {triple : Triple} → Memᴰ triple (beginning_with_two n f g)
      → (triple.f ≡ f) × (triple.g ≡ g) × Memᴰ triple.h (monic_codes 2 n)
      × ((coprime 2 f triple.h && coprime 2 g triple.h) ≡ true)
  unfolding beginning_with_two
  in_two f g {triple} m =
      let with_h : ℕ → Triple = λ h. record { f = f; g = g; h = h } in
      let (h, h_in, is) = Memᴰ.of_map with_h (filter (λ h. coprime 2 f h && coprime 2 g h) (monic_codes 2 n)) m in
      let (there, both) = in_filter (λ h. coprime 2 f h && coprime 2 g h) (monic_codes 2 n) h_in in
      let e : triple.h ≡ h = ap (λ (t : Triple). t.h) (sym is) in
      (ap (λ (t : Triple). t.f) (sym is), ap (λ (t : Triple). t.g) (sym is), rw e there, rw e both)

  in_beginning : (f : ℕ) {triple : Triple} → Memᴰ triple (beginning_with n f) → Begins f triple
  unfolding beginning_with
  in_beginning f m =
      let (g, g_in, there) = in_each (beginning_with_two n f) (filter (coprime 2 f) (monic_codes 2 n)) m in
      let (g_code, fg) = in_filter (coprime 2 f) (monic_codes 2 n) g_in in
      let (is_f, is_g, h_in, both) = in_two f g there in
      let (fh, gh) = (and-eq-true_iff _ _).0 both in
      record { same_f = is_f; g_in = rw is_g g_code; h_in = h_in; fg = rw is_g fg; fh = fh; gh = rw is_g gh }

  known : {triple : Triple} → Memᴰ triple (triples n) → CoprimeTriple n triple
  unfolding triples
  known m =
      let (f, f_in, there) = in_each (beginning_with n) (monic_codes 2 n) m in
      let b = in_beginning f there in
      let f_code = odd_code n f_in in
      let g_code = odd_code n b.g_in in
      record {
        code_f = rw b.same_f f_code;
        code_g = g_code;
        code_h = odd_code n b.h_in;
        coprime_fg = rw b.same_f (tested n f_code b.fg);
        coprime_fh = rw b.same_f (tested n f_code b.fh);
        coprime_gh = tested n g_code b.gh;
      }

  member : {triple : Triple} → CoprimeTriple n triple → Memᴰ triple (triples n)
  unfolding triples beginning_with beginning_with_two
  member {triple} c =
      let f : ℕ = triple.f in
      let g : ℕ = triple.g in
      let both = (and-eq-true_iff _ _).1 (passes n c.code_f c.coprime_fh, passes n c.code_g c.coprime_gh) in
      each_in (beginning_with n) (monic_codes 2 n) (code_in n c.code_f)
      (each_in (beginning_with_two n f) (filter (coprime 2 f) (monic_codes 2 n))
      (filter_in (coprime 2 f) (monic_codes 2 n) (code_in n c.code_g) (passes n c.code_f c.coprime_fg))
      (Memᴰ.map (λ h. record { f = f; g = g; h = h })
      (filter_in (λ h. coprime 2 f h && coprime 2 g h) (monic_codes 2 n) (code_in n c.code_h) both)))

  -- ---- the order
  two_rise : (f g : ℕ) → Rises Precedes (beginning_with_two n f g)
  unfolding beginning_with_two
  two_rise f g =
      rising_map ◌<◌ Precedes (λ h. record { f = f; g = g; h = h }) (λ h h' lt. inr (refl, inr (refl, lt)))
      (filter (λ h. coprime 2 f h && coprime 2 g h) (monic_codes 2 n))
      (rising_filter ◌<◌ (λ h. coprime 2 f h && coprime 2 g h) (monic_codes 2 n) (codes_rise 2 n))

  beginning_rise : (f : ℕ) → Rises Precedes (beginning_with n f)
  unfolding beginning_with
  beginning_rise f =
      rising_each ◌<◌ Precedes (beginning_with_two n f) (two_rise f)
      (λ g g' lt a b a_in b_in.
      let (a_f, a_g, _, _) = in_two f g a_in in
      let (b_f, b_g, _, _) = in_two f g' b_in in
      inr (a_f ∙ sym b_f, inl (omega (arith, a_g, b_g))))
      (filter (coprime 2 f) (monic_codes 2 n)) (rising_filter ◌<◌ (coprime 2 f) (monic_codes 2 n) (codes_rise 2 n))

  all_rise : Rises Precedes (triples n)
  unfolding triples
  all_rise =
      rising_each ◌<◌ Precedes (beginning_with n) beginning_rise
      (λ f f' lt a b a_in b_in. inl (omega (arith, (in_beginning f a_in).same_f, (in_beginning f' b_in).same_f)))
      (monic_codes 2 n) (codes_rise 2 n)

strict : (triple : Triple) → Precedes triple triple → ⊥
strict triple (inl lt) = lt_irrefl _ lt
strict triple (inr (_, inl lt)) = lt_irrefl _ lt
strict triple (inr (_, inr (_, lt))) = lt_irrefl _ lt

pub all_triples : TriplesClaim
all_triples n = record {
  coprime = λ j h. known n (entry_in (triples n) j none h);
  once = λ triple c.
      let p = located (triples n) none (member n c) in
      record {
        position = p.place;
        below = p.below;
        there = p.is;
        only = λ j h e. only_place Precedes strict (triples n) none (all_rise n) j p.place h p.below (e ∙ sym p.is);
      };
  rising = λ i j lt h. rising_at Precedes (triples n) none (all_rise n) i j lt h;
}
