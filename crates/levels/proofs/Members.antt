-- Whether a level is one of a list, whatever the order of the list; and whether one of a list is equal to an earlier one, from its parts.
use mathlib.Core.Path.{◌≡◌, refl}
use Prim.Native.Nat.{ℕ}
use mathlib.Core.Bool.{◌||◌, or-false, or_assoc, or_comm}
use mathlib.Core.List.{List, [], ◌∷◌, ◌++◌, reverse_aux, reverse, reverse-cons, reverse-reverse}
use lib.Dec.{eqb}
use Rattle.levels.specs.Levels.{Rule, any_barred, repeated, repeats}

pub repeated_append : (these those : List ℕ) (level : ℕ) → repeated (these ++ those) level ≡ (repeated these level || repeated those level)
repeated_append [] those level = refl
repeated_append (first ∷ these) those level = rw (repeated_append these those level, or_assoc)

pub repeated_reverse : (levels : List ℕ) (level : ℕ) → repeated (reverse levels) level ≡ repeated levels level
repeated_reverse [] level = refl
repeated_reverse (first ∷ levels) level =
    rw (reverse-cons, repeated_append (reverse levels) (first ∷ []) level, repeated_reverse levels level, or-false)
    (or_comm (repeated levels level) (eqb level first))

any_append : (barred : Rule) (before these those : List ℕ)
    → any_barred barred before (these ++ those) ≡ (any_barred barred before these || any_barred barred (reverse_aux these before) those)
any_append barred before [] those = refl
any_append barred before (level ∷ these) those = rw (any_append barred (level ∷ before) these those, or_assoc)

-- One level more, behind those before it, of which the nearest is listed first.
pub repeats_more : (before : List ℕ) (level : ℕ) → repeats (reverse (level ∷ before)) ≡ (repeats (reverse before) || repeated before level)
repeats_more before level =
    rw (reverse-cons, any_append repeated [] (reverse before) (level ∷ []), reverse-reverse before, or-false)
