-- Causes tried in groups: a group that a check has passed drops out, and one that it has failed decides.
use mathlib.Core.Bool.{Bool, true, false}
use mathlib.Core.List.{List, [], ◌∷◌, ◌++◌}
use mathlib.Core.Path.{◌≡◌, refl, ap}
use Prim.Native.Nat.{ℕ}
use native.Mathlib.Omega.{arith}
use Rattle.reply.specs.Reply.{Reply, served, refused, Cause, ◌gives◌, unless, after}

module _ (more : List Cause) (reply : Reply) where
  pub passed : (causes : List Cause) → served [] ≡ unless causes (served []) → unless (causes ++ more) reply ≡ unless more reply
  passed [] e = refl
  passed ((true gives k) ∷ causes) e = absurd (let z : ◌≡◌ {A = ℕ} 0 1 = cc in omega arith)
  passed ((false gives k) ∷ causes) e = passed causes e

  pub failed : (causes : List Cause) {k : ℕ} → refused k ≡ unless causes (served []) → refused k ≡ unless (causes ++ more) reply
  failed [] e = absurd (let z : ◌≡◌ {A = ℕ} 0 1 = cc in omega arith)
  failed ((true gives k) ∷ causes) e = e
  failed ((false gives k) ∷ causes) e = failed causes e

-- none of the causes applies
abbrev pub NoneApplies : List Cause → Type 0
NoneApplies [] = Unit {0}
NoneApplies ((applies gives number) ∷ causes) = (applies ≡ false) × NoneApplies causes

pub none_applies : (causes : List Cause) (values values' : List ℕ) → unless causes (served values) ≡ served values' → NoneApplies causes
none_applies [] values values' e = tt
none_applies ((true gives k) ∷ causes) values values' e = absurd (let z : ◌≡◌ {A = ℕ} 0 1 = cc in omega arith)
none_applies ((false gives k) ∷ causes) values values' e = (refl, none_applies causes values values' e)

pub none_refuses : (causes : List Cause) (reply : Reply) → NoneApplies causes → unless causes reply ≡ reply
none_refuses [] reply t = refl
none_refuses ((applies gives k) ∷ causes) reply (e, t) = rw e (none_refuses causes reply t)

-- of two lists of causes
pub clear_append : (these those : List Cause) → NoneApplies these → NoneApplies those → NoneApplies (these ++ those)
clear_append [] those a b = b
clear_append ((applies gives number) ∷ these) those a b = (a.0, clear_append these those a.1 b)

pub clear_left : (these those : List Cause) → NoneApplies (these ++ those) → NoneApplies these
clear_left [] those c = tt
clear_left ((applies gives number) ∷ these) those c = (c.0, clear_left these those c.1)

pub clear_right : (these those : List Cause) → NoneApplies (these ++ those) → NoneApplies those
clear_right [] those c = c
clear_right ((applies gives number) ∷ these) those c = clear_right these those c.1

-- a refusal leaves lent memory as it was
pub kept {ℓ} : {A : Type ℓ} {k : ℕ} {reply : Reply} → refused k ≡ reply → (new old : A) → old ≡ after reply new old
kept e new old = ap (λ (r : Reply). after r new old) e

-- a reply that one cause alone refuses
module _ (applies : Bool) (number : ℕ) where
  pub sole_served : (reply : Reply) {values : List ℕ} → served values ≡ unless (applies gives number ∷ []) reply
      → (applies ≡ false) × (served values ≡ reply)
  sole_served reply {values} e = go applies e
    where
      go : (b : Bool) → served values ≡ unless (b gives number ∷ []) reply → (b ≡ false) × (served values ≡ reply)
      go true e = absurd (let z : ◌≡◌ {A = ℕ} 0 1 = cc in omega arith)
      go false e = (refl, e)

  pub sole_refused : (values : List ℕ) {k : ℕ} → refused k ≡ unless (applies gives number ∷ []) (served values)
      → (applies ≡ true) × (k ≡ number)
  sole_refused values {k} e = go applies e
    where
      go : (b : Bool) → refused k ≡ unless (b gives number ∷ []) (served values) → (b ≡ true) × (k ≡ number)
      go true e = (refl, cc)
      go false e = absurd (let z : ◌≡◌ {A = ℕ} 0 1 = cc in omega arith)
