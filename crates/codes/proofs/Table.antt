-- The table of coprime codes, as the case of a `match` reads it.
use mathlib.Core.Path.{◌≡◌, sym, ◌∙◌}
use Prim.Native.Nat.{ℕ}
use lib.Dec.{T, ltb}
use lib.ListN.{get_or}
use Rattle.loops.proofs.Entries.{at_key}
use Rattle.codes.specs.Codes.{coprimes_of}
use Rattle.codes.proofs.Rows.{rows, computed}

-- the entry v of the code whose half is k
pub told : (k v : ℕ) {x : ℕ} → x ≡ k → T (ltb k 64) → get_or rows k 0 ≡ v → v ≡ coprimes_of x
unfolding rows
told k v is inside entry = sym entry ∙ at_key coprimes_of rows computed k inside is
