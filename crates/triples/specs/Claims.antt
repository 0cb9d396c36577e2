-- What is shown of the list of triples.
use Rattle.std.specs.Prelude.{◌↔◌, ◌⊎◌, [], ◌∷◌, map, ◌≡◌, ℕ, ◌%◌, ◌≤◌, ◌<◌, length}
use Rattle.loops.specs.Loops.{numbers}
use Rattle.reply.specs.Reply.{spent}
use Rattle.poly.specs.Code.{HasDegree}
use Rattle.poly.specs.Coprime.{Coprime}
use Rattle.triples.specs.Triples.{Triple, triples, triple_at}
use Rattle.triples.specs.Replies.{triple_reply, triple_at_reply}

-- A code of degree n with constant term one.
pub record OddCode (n code : ℕ) : Type 0 where
  pub degree : HasDegree 2 n code
  pub odd : code % 2 ≡ 1

-- An ordered triple of pairwise coprime codes of degree n, all with constant term one.
pub record CoprimeTriple (n : ℕ) (triple : Triple) : Type 0 where
  pub code_f : OddCode n triple.f
  pub code_g : OddCode n triple.g
  pub code_h : OddCode n triple.h
  pub coprime_fg : Coprime 2 triple.f triple.g
  pub coprime_fh : Coprime 2 triple.f triple.h
  pub coprime_gh : Coprime 2 triple.g triple.h

-- Dictionary order: by f, then g, then h.
abbrev pub Precedes : Triple → Triple → Type 0
Precedes a b = (a.f < b.f) ⊎ ((a.f ≡ b.f) × ((a.g < b.g) ⊎ ((a.g ≡ b.g) × (a.h < b.h))))

-- The triple stands in the list of degree n at one position, and at no other.
pub record Stands (n : ℕ) (triple : Triple) : Type 0 where
  pub position : ℕ
  pub below : position < length (triples n)
  pub there : triple_at n position ≡ triple
  pub only : (j : ℕ) → j < length (triples n) → triple_at n j ≡ triple → j ≡ position

-- Each entry of the list of degree n is an ordered triple of pairwise coprime codes of degree n, all odd; each such triple stands in it
-- once; and the entries rise strictly.
pub record AllTriples (n : ℕ) : Type 0 where
  pub coprime : (j : ℕ) → j < length (triples n) → CoprimeTriple n (triple_at n j)
  pub once : (triple : Triple) → CoprimeTriple n triple → Stands n triple
  pub rising : (i j : ℕ) → i < j → j < length (triples n) → Precedes (triple_at n i) (triple_at n j)

abbrev pub TriplesClaim : Type 0
TriplesClaim = (n : ℕ) → AllTriples n

-- How many entries the lists of degrees 2 to 6 have.
abbrev pub LengthsClaim : Type 0
LengthsClaim = map (λ n. length (triples n)) (numbers 2 5) ≡ 0 ∷ 12 ∷ 150 ∷ 1380 ∷ 11574 ∷ []

-- The call gives the triple at one position, and at no other.
pub record GivenOnce (n : ℕ) (triple : Triple) : Type 0 where
  pub position : ℕ
  pub given : triple_at_reply n position ≡ triple_reply triple
  pub only : (j : ℕ) → triple_at_reply n j ≡ triple_reply triple → j ≡ position

-- What the call answers at degree n: below the list's end the triple that stands there, and from its end on it says spent. So it gives
-- nothing but coprime triples, and each of them at one position.
pub record CallGives (n : ℕ) : Type 0 where
  pub gives : (j : ℕ) → j < length (triples n) → triple_at_reply n j ≡ triple_reply (triple_at n j)
  pub ends : (j : ℕ) → (triple_at_reply n j ≡ spent) ↔ (length (triples n) ≤ j)
  pub coprime : (j : ℕ) (triple : Triple) → triple_at_reply n j ≡ triple_reply triple → CoprimeTriple n triple
  pub once : (triple : Triple) → CoprimeTriple n triple → GivenOnce n triple

abbrev pub CallClaim : Type 0
CallClaim = (n : ℕ) → 2 ≤ n → n ≤ 6 → CallGives n
