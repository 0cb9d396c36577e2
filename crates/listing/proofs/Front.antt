-- Of a list of heads, the first m alone say what the list says of its first m: so a call may be given these, and their number with them.
use Prim.Native.Nat.{ℕ, zero, suc, ◌+◌, ◌*◌, ◌≤◌}
use native.Mathlib.Nat.{le_refl}
use native.Mathlib.Omega.{arith}
use mathlib.Core.Path.{◌≡◌, refl, ap, ap₂}
use mathlib.Core.Bool.{Bool}
use mathlib.Core.List.{List, [], ◌∷◌}
use lib.ListN.{length, take}
use lib.Seq.{get_or-take, length-take-le}
use Rattle.pairs.specs.Sequences.{bit}
use Rattle.pairs.specs.Pairs.{turn, turns}
use Rattle.listing.specs.Filling.{Written, lettered, onward, state_of, Fits, Ready}
use Rattle.listing.proofs.Onward.{pair}
use Rattle.listing.proofs.Groups.{words_map}

module _ (heads : List ℕ) (k : ℕ) where
  lettered_front : (m : ℕ) (w : List Bool) → m ≤ k → lettered (take k heads) m w ≡ lettered heads m w
  lettered_front zero w h = refl
  lettered_front (suc m) [] h = refl
  lettered_front (suc m) (l ∷ w) h =
      ap₂ ◌∷◌ (ap (λ v. v * 2 + bit l) (get_or-take k heads m 0 (omega arith))) (lettered_front m w (omega arith))

  fits_front : (m a : ℕ) → m ≤ k → Fits heads m a → Fits (take k heads) m a
  fits_front zero a h f = f
  fits_front (suc m) a h f =
      (f.0, rw (get_or-take k heads m 0 (omega arith)) f.1, fits_front m (a + f.0) (omega arith) f.2)

  module _ (inside : k ≤ length heads) (r s : ℕ) where
    onward_front : onward (take k heads) (length (take k heads)) r s ≡ onward heads k r s
    unfolding onward
    onward_front =
        rw (length-take-le k heads inside)
        (words_map _ _ (state_of r s) k (λ w e. ap (λ v. turn (turns (pair r s) v) 1) (lettered_front k w (le_refl k))))

    pub written_front : {skip done all : ℕ} {old new : List ℕ}
        → Written (onward (take k heads) (length (take k heads)) r s) skip old done new all
        → Written (onward heads k r s) skip old done new all
    written_front w = rw onward_front at w

    pub ready_front : Ready heads k r s → Ready (take k heads) (length (take k heads)) r s
    ready_front ready = rw (length-take-le k heads inside) (record {
      some = ready.some;
      few = ready.few;
      odd = ready.odd;
      size = ready.size;
      small_r = ready.small_r;
      small_s = ready.small_s;
      room = fits_front k ready.size (le_refl k) ready.room;
    })
