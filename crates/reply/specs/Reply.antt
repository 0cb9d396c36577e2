-- A reply as document 01 speaks of it, and the order in which causes for a refusal count.
use Rattle.std.specs.Prelude.{ℕ, Bool, true, false, List, [], ◌∷◌, ◌++◌, length, drop}

-- A call is served with values, refused with a number (document 01: turned down), or says spent (the documents' word: a walk at the end of
-- its list; a position behind the list of triples).
pub data Reply : Type 0 where
  served : List ℕ → Reply
  refused : ℕ → Reply
  spent : Reply

-- A cause for a refusal: whether it applies, and the number it gives.
infix 68 ◌gives◌
pub data Cause : Type 0 where
  ◌gives◌ : Bool → ℕ → Cause

-- The number of the first cause that applies, or else the reply.
abbrev pub unless : List Cause → Reply → Reply
unless [] reply = reply
unless ((true gives number) ∷ causes) reply = refused number
unless ((false gives number) ∷ causes) reply = unless causes reply

-- What lent memory holds after a call: the new content where the call is served; otherwise it is as it was.
abbrev pub after {ℓ} : {A : Type ℓ} → Reply → A → A → A
after (served values) new old = new
after (refused number) new old = old
after spent new old = old

-- Values put at the front of a slice; what stands behind them stays.
abbrev pub over : List ℕ → List ℕ → List ℕ
over values slice = values ++ drop (length values) slice
