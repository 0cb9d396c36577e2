-- Squares that have the same symbols at all sites are Latin together, and orthogonal together: what is said of a symbol at a site, of
-- which there is exactly one, is said of the other square's symbol there.
use mathlib.Core.Logic.{◌↔◌}
use mathlib.Core.Path.{◌≡◌, sym, ◌∙◌}
use Prim.Native.Nat.{ℕ, ◌<◌}
use Rattle.squares.specs.Squares.{Square, ExactlyOne, Latin, Site, Orthogonal}

-- Where P and Q say the same, exactly one thing is as Q says if exactly one is as P says.
pub exactly_one_same : {A : Type 0} {P Q : A → Type 0} → ((a : A) → P a ↔ Q a) → ExactlyOne P → ExactlyOne Q
exactly_one_same same e =
    record { one = e.one; is = (same e.one).0 e.is; only = λ a b qa qb. e.only a b ((same a).1 qa) ((same b).1 qb) }

there_same : {Where : Type 0} {v w symbol : ℕ} → (Where → v ≡ w) → (Where × (v ≡ symbol)) ↔ (Where × (w ≡ symbol))
there_same same = ((λ (there, e). (there, sym (same there) ∙ e)), (λ (there, e). (there, same there ∙ e)))

-- The two have the same symbols.
abbrev pub Agree : ℕ → Square → Square → Type 0
Agree N square other = (row col : ℕ) → row < N → col < N → square row col ≡ other row col

module _ (N : ℕ) where
  pub latin_same : {square other : Square} → Agree N square other → Latin N square → Latin N other
  latin_same same latin =
      record {
        rows = λ row symbol hr hs. exactly_one_same (λ col. there_same (λ hc. same row col hr hc)) (latin.rows row symbol hr hs);
        columns = λ col symbol hc hs. exactly_one_same (λ row. there_same (λ hr. same row col hr hc)) (latin.columns col symbol hc hs);
      }

  pub orthogonal_same : {first second first' second' : Square} → Agree N first first' → Agree N second second'
      → Orthogonal N first second → Orthogonal N first' second'
  orthogonal_same {first} {second} {first'} {second'} same same' crossing a b ha hb =
      exactly_one_same (λ (site : Site). both site.row site.col) (crossing a b ha hb)
    where
      both : (row col : ℕ)
          → (((row < N) × (col < N)) × (first row col ≡ a) × (second row col ≡ b))
          ↔ (((row < N) × (col < N)) × (first' row col ≡ a) × (second' row col ≡ b))
      both row col = (
        (λ ((hr, hc), e, e'). ((hr, hc), sym (same row col hr hc) ∙ e, sym (same' row col hr hc) ∙ e')),
        (λ ((hr, hc), e, e'). ((hr, hc), same row col hr hc ∙ e, same' row col hr hc ∙ e')),
      )
