-- What the list program prints, computed from the definitions: document 01's example, and inputs on the edges.
use Prim.Native.Nat.{ℕ}
use mathlib.Core.Path.{◌≡◌, refl}
use mathlib.Core.List.{List, [], ◌∷◌, map}
use Rattle.poly.specs.Code.{add, mul, scale}
use Rattle.poly.specs.Limits.{outside}
use Rattle.pairs.specs.Words.{words_from}
use Rattle.pairs.specs.Sequences.{compositions, sequences, block}
use Rattle.pairs.specs.Pairs.{turn, build, pairs}
use Rattle.pairs.specs.Replies.{pair_at_reply}
use Rattle.lines.specs.Input.{is_digit, numeral_reply}
use Rattle.lines.specs.Text.{decimal}
use Rattle.lines.specs.Output.{output}

-- `2` and a newline.
pub degree_2 : output (50 ∷ 10 ∷ [])
    ≡ 50 ∷ 32 ∷ 50 ∷ 10
    ∷ 48 ∷ 32 ∷ 55 ∷ 32 ∷ 53 ∷ 10
    ∷ 49 ∷ 32 ∷ 53 ∷ 32 ∷ 55 ∷ 10 ∷ []
unfolding add mul scale outside words_from compositions sequences block turn build pairs pair_at_reply is_digit numeral_reply decimal
degree_2 = refl

-- `0`, `11`, nothing, `3` without a newline, `+3`, `003`, a second newline, a space before the newline.
abbrev refused_inputs : List (List ℕ)
refused_inputs =
    (48 ∷ 10 ∷ [])
    ∷ (49 ∷ 49 ∷ 10 ∷ [])
    ∷ []
    ∷ (51 ∷ [])
    ∷ (43 ∷ 51 ∷ 10 ∷ [])
    ∷ (48 ∷ 48 ∷ 51 ∷ 10 ∷ [])
    ∷ (51 ∷ 10 ∷ 10 ∷ [])
    ∷ (51 ∷ 32 ∷ 10 ∷ [])
    ∷ []

-- Each gets `refused 1` and a newline.
abbrev refused_output : List ℕ → List ℕ
refused_output input = 114 ∷ 101 ∷ 102 ∷ 117 ∷ 115 ∷ 101 ∷ 100 ∷ 32 ∷ 49 ∷ 10 ∷ []

pub refused_inputs_lem : map output refused_inputs ≡ map refused_output refused_inputs
unfolding outside is_digit numeral_reply decimal
refused_inputs_lem = refl

-- `03` asks for what `3` asks for.
pub leading_zero : output (48 ∷ 51 ∷ 10 ∷ []) ≡ output (51 ∷ 10 ∷ [])
unfolding outside is_digit numeral_reply
leading_zero = refl
