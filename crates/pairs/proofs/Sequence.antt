-- Sequences of quotients and coprime pairs. Taking the quotients in order is building back a chain, so Euclid's algorithm on the pair of a
-- valid sequence gives the sequence again, and the chain of a coprime pair is a valid sequence that builds the pair.
use mathlib.Core.Bool.{Bool, true, false, false≢true}
use mathlib.Core.List.{List, [], ◌∷◌, map, reverse, reverse_aux, reverse-reverse}
use mathlib.Core.Path.{◌≡◌, refl, sym, ap, ◌∙◌}
use Prim.Native.Nat.{ℕ, ◌+◌, ◌^◌, ◌≤◌, ◌<◌}
use native.Mathlib.Nat.{le_refl}
use native.Mathlib.Omega.{arith}
use lib.ListN.{length}
use lib.Pow.{pow_mono}
use Rattle.poly.specs.Code.{add, degree}
use Rattle.poly.proofs.Ring
use Rattle.poly.proofs.Leading
use Rattle.poly.proofs.Coefficients.{constant_add}
use Rattle.poly.proofs.Primes.{inverses_2}
use Rattle.poly.proofs.Binary.{add_again, leads_cancel}
use Rattle.euclid.specs.Chain.{Chain, Pair, chain, back}
use Rattle.euclid.proofs.Chains.{Each, link, degrees, first_quotient, later_quotients, degrees_total, divisor_coprime}
use Rattle.euclid.proofs.Built.{built, built_chain, chain_built, chain_of_built, Falling, falling}
use Rattle.pairs.specs.Counts.{sum}
use Rattle.pairs.specs.Words.{State, s10, s11, s01, run, is10, kept}
use Rattle.pairs.specs.Pairs.{turn, turns, start, build, CoprimePair}
use Rattle.pairs.proofs.Valid.{Valid, EachPositive, constant}
use Rattle.pairs.proofs.Quotients.{nonzero}
use Rattle.pairs.proofs.Constants.{Constants, constants, first, second}

-- ---- the quotients in order are a chain built back
turns_built : (qs xs : List ℕ) (d : ℕ) → turns (built 2 xs d) qs ≡ built 2 (reverse_aux qs xs) d
unfolding turn
turns_built [] xs d = refl
turns_built (q ∷ qs) xs d = turns_built qs (q ∷ xs) d

pub build_built : (qs : List ℕ) → build qs ≡ built 2 (1 ∷ reverse qs) 1
unfolding build turn
build_built qs = ap (back 2 1) (turns_built qs [] 1)

-- ---- each of a reversed list
each_onto : (P : ℕ → Type 0) (xs ys : List ℕ) → Each P xs → Each P ys → Each P (reverse_aux xs ys)
each_onto P [] ys a b = b
each_onto P (x ∷ xs) ys (h, a) b = each_onto P xs (x ∷ ys) a (h, b)

pub each_reverse : (P : ℕ → Type 0) (xs : List ℕ) → Each P xs → Each P (reverse xs)
each_reverse P xs a = each_onto P xs [] a tt

degrees_onto : (xs ys : List ℕ) → degrees 2 (reverse_aux xs ys) ≡ degrees 2 xs + degrees 2 ys
degrees_onto [] ys = omega arith
degrees_onto (x ∷ xs) ys = omega (arith, degrees_onto xs (x ∷ ys))

-- ---- degrees as the chain and as the list count them
long_positive : (qs : List ℕ) → Each (λ q. 2 ≤ q) qs → EachPositive (map (degree 2) qs)
long_positive [] a = tt
long_positive (q ∷ qs) (h, a) =
    let pos : 0 < q = omega arith in
    (Leading.degree_pos 2 (le_refl 2) (degree 2 q) (Leading.degree_has 2 (le_refl 2) pos) h, long_positive qs a)

positive_long : (qs : List ℕ) → EachPositive (map (degree 2) qs) → Each (λ q. 2 ≤ q) qs
positive_long [] a = tt
positive_long (q ∷ qs) (h, a) =
    (omega (arith, pow_mono h, (Leading.degree_has 2 (le_refl 2) (nonzero q h)).low), positive_long qs a)

degrees_sum : (qs : List ℕ) → degrees 2 qs ≡ sum (map (degree 2) qs)
degrees_sum [] = refl
degrees_sum (q ∷ qs) = ap (λ (v : ℕ). degree 2 q + v) (degrees_sum qs)

degree_one : degree 2 1 ≡ 0
unfolding degree
degree_one = refl

ten : (s : State) → is10 s ≡ true → s ≡ s10
ten s10 e = refl
ten s11 e = absurd (false≢true e)
ten s01 e = absurd (false≢true e)

-- the two remainders before the last quotient, 1
abbrev remainders : List ℕ → Pair
remainders qs = built 2 (reverse qs) 1

build_is : (qs : List ℕ) → build qs ≡ record { f = add 2 (remainders qs).f (remainders qs).g; g = (remainders qs).f }
build_is qs =
    build_built qs
    ∙ ap (λ (v : ℕ). record { f = add 2 v (remainders qs).g; g = (remainders qs).f }) (Ring.one_mul 2 (le_refl 2) (remainders qs).f)

remainders_constants : (qs : List ℕ) → Constants (run s10 (map constant qs)) (remainders qs)
remainders_constants qs =
    rw (turns_built qs [] 1) at (constants qs s10 start (record { f = refl; g = refl }))

-- ---- a valid sequence builds a coprime pair, whose chain it is
module _ (n : ℕ) (qs : List ℕ) (v : Valid n qs) where
  long : Each (λ q. 2 ≤ q) (reverse qs)
  long = each_reverse (λ q. 2 ≤ q) qs (positive_long qs v.positive)

  down : Falling 2 (le_refl 2) inverses_2 (remainders qs)
  down = falling 2 (le_refl 2) inverses_2 (reverse qs) 1 (le_refl 1) long

  pub valid_chain : chain 2 (build qs).f (build qs).g ≡ record { quotients = 1 ∷ reverse qs; divisor = 1 }
  valid_chain = rw (build_built qs) (chain_built 2 (le_refl 2) inverses_2 1 (reverse qs) 1 (le_refl 1) long)

  degree_n : down.n ≡ n
  degree_n =
      let r = remainders qs in
      let e = chain_of_built 2 (le_refl 2) inverses_2 (reverse qs) 1 (le_refl 1) long in
      let total : degrees 2 (reverse qs) + degree 2 1 ≡ down.n =
      rw e at (degrees_total 2 (le_refl 2) inverses_2 r.f r.g down.n down.first down.second) in
      let all : degrees 2 (reverse qs) ≡ degrees 2 qs + 0 = degrees_onto qs [] in
      omega (arith, degree_one, degrees_sum qs, v.total)

  odd : Constants s10 (remainders qs)
  odd = rw (ten (run s10 (map constant qs)) v.word) at (remainders_constants qs)

  pub valid_pair : CoprimePair n (build qs)
  valid_pair =
      rw (build_is qs)
      (record {
        degree_f = rw degree_n at (Leading.add_degree 2 (le_refl 2) down.first down.second);
        degree_g = rw degree_n at down.first;
        odd_f = constant_add 2 (le_refl 2) (remainders qs).f (remainders qs).g ∙ rw (odd.f, odd.g);
        odd_g = odd.f;
        coprime = rw (build_is qs) at ((divisor_coprime (build qs).f (build qs).g).1 (ap (λ (c : Chain). c.divisor) valid_chain));
      })

-- ---- the chain of a coprime pair is a valid sequence that builds it

-- the chain behind the first quotient, 1
abbrev pub later : Pair → Chain
later pair = chain 2 pair.g (add 2 pair.f pair.g)

unfoldable pub sequence_of : Pair → List ℕ
sequence_of pair = reverse (later pair).quotients

only_ten : (s : State) → first s ≡ 1 → second s ≡ 0 → is10 s ≡ true
only_ten s10 a b = refl
only_ten s11 a b = absurd (omega arith)
only_ten s01 a b = absurd (omega arith)

-- no word of one letter is kept, and degree 1 or more takes a quotient
two_quotients : (n : ℕ) (qs : List ℕ) → 1 ≤ n → sum (map (degree 2) qs) ≡ n → kept (map constant qs) ≡ true → 2 ≤ length qs
two_quotients n [] pos total word = absurd (omega arith)
two_quotients n (q ∷ []) pos total word = go (constant q) word
  where
    go : (l : Bool) → kept (l ∷ []) ≡ true → 2 ≤ 1
    go false e = absurd (false≢true e)
    go true e = absurd (false≢true e)
two_quotients n (q ∷ q' ∷ qs) pos total word = omega arith

module _ (n : ℕ) (pair : Pair) (c : CoprimePair n pair) where
  rest_lt : add 2 pair.f pair.g < 2 ^ n
  rest_lt = leads_cancel c.degree_f c.degree_g

  pub whole : chain 2 pair.f pair.g ≡ link 1 (later pair)
  whole = first_quotient c.degree_f c.degree_g

  one : (later pair).divisor ≡ 1
  one = sym (ap (λ (v : Chain). v.divisor) whole) ∙ (divisor_coprime pair.f pair.g).0 c.coprime

  same : remainders (sequence_of pair) ≡ record { f = pair.g; g = add 2 pair.f pair.g }
  unfolding sequence_of
  same =
      ap (λ (xs : List ℕ). built 2 xs 1) (reverse-reverse (later pair).quotients)
      ∙ ap (built 2 (later pair).quotients) (sym one)
      ∙ built_chain 2 (le_refl 2) inverses_2 pair.g (add 2 pair.f pair.g)

  pub sequence_builds : build (sequence_of pair) ≡ pair
  sequence_builds =
      build_is (sequence_of pair) ∙ ap (λ (two : Pair). record { f = add 2 two.f two.g; g = two.f }) same
      ∙ ap (λ (v : ℕ). record { f = v; g = pair.g }) (add_again pair.f pair.g)

  word : kept (map constant (sequence_of pair)) ≡ true
  word =
      let k = rw same at (remainders_constants (sequence_of pair)) in
      only_ten (run s10 (map constant (sequence_of pair))) (sym k.f ∙ c.odd_g)
      (sym k.g ∙ constant_add 2 (le_refl 2) pair.f pair.g ∙ rw (c.odd_f, c.odd_g))

  total : sum (map (degree 2) (sequence_of pair)) ≡ n
  unfolding sequence_of
  total =
      let rs = (later pair).quotients in
      let all : degrees 2 (reverse rs) ≡ degrees 2 rs + 0 = degrees_onto rs [] in
      let whole_total : degrees 2 rs + degree 2 1 ≡ n =
      rw one at (degrees_total 2 (le_refl 2) inverses_2 pair.g (add 2 pair.f pair.g) n c.degree_g rest_lt) in
      omega (arith, degree_one, degrees_sum (reverse rs))

  pub sequence_valid : 1 ≤ n → Valid n (sequence_of pair)
  unfolding sequence_of
  sequence_valid pos =
      record {
        several = two_quotients n (sequence_of pair) pos total word;
        positive =
            long_positive (sequence_of pair)
            (each_reverse (λ q. 2 ≤ q) (later pair).quotients
            (later_quotients 2 (le_refl 2) inverses_2 pair.g (add 2 pair.f pair.g) n c.degree_g rest_lt));
        total = total;
        word = word;
      }
