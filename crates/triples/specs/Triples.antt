-- The list of all ordered triples of pairwise coprime codes of one degree, all odd (document 02, request f): by rising f, then g, then h.
use Rattle.std.specs.Prelude.{ℕ, ◌&&◌, List, map, get_or}
use Rattle.loops.specs.Loops.{each, filter}
use Rattle.codes.specs.Codes.{monic_codes, coprime}
pub use Rattle.triples.specs.declared.Triple.{Triple}

-- For coprime codes f and g of degree n, the triples that begin with them: each h that is coprime to both.
unfoldable pub beginning_with_two : ℕ → ℕ → ℕ → List Triple
beginning_with_two n f g = map (λ h. record { f = f; g = g; h = h }) (filter (λ h. coprime 2 f h && coprime 2 g h) (monic_codes 2 n))

-- For a code f of degree n, the triples that begin with it: each g that is coprime to it.
unfoldable pub beginning_with : ℕ → ℕ → List Triple
beginning_with n f = each (filter (coprime 2 f) (monic_codes 2 n)) (beginning_with_two n f)

-- All of them.
unfoldable pub triples : ℕ → List Triple
triples n = each (monic_codes 2 n) (beginning_with n)

-- What stands behind the end, where no call gives it.
abbrev pub none : Triple
none = record { f = 0; g = 0; h = 0 }

-- The triple at a position of the list, counted from 0.
abbrev pub triple_at : ℕ → ℕ → Triple
triple_at n j = get_or (triples n) j none
