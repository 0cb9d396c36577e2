-- Only contracts of functions inside the crate use these definitions: a content to be written in the words of the format, and what leaves
-- room for it.
use Rattle.std.specs.Prelude.{true, ◌≡◌, ℕ, ◌+◌, ◌≤◌, List, [], ◌∷◌, Option, None, Some, Result, Ok, Err, length}
use Rattle.reply.specs.declared.Refusal.{Refusal}
use Rattle.reply.specs.declared.Refusal.TheVariants.{Version}
use Rattle.poly.specs.Limits.{outside}
use Rattle.trial.specs.Trial.{Head, Trial, encode_body}
use Rattle.trial_writer.specs.declared.content.Third.{Third}
use Rattle.trial_writer.specs.declared.content.Content.{Content}

abbrev pub version_of : Option Third → ℕ
version_of None = 1
version_of (Some third) = 2

abbrev pub codes_from : ℕ → ℕ → Option Third → List ℕ
codes_from f g None = f ∷ g ∷ []
codes_from f g (Some third) = f ∷ g ∷ third.h ∷ []

abbrev pub lists_from : List ℕ → List ℕ → Option Third → List (List ℕ)
lists_from powers forces None = powers ∷ forces ∷ []
lists_from powers forces (Some third) = powers ∷ forces ∷ third.times.now ∷ []

abbrev pub head_of : Content → Head
head_of content =
    record { version = version_of content.third; degree = content.degree; codes = codes_from content.f content.g content.third }

abbrev pub lists_of : Content → List (List ℕ)
lists_of content = lists_from content.powers.now content.forces.now content.third

abbrev pub trial_of : Content → Trial
trial_of content = record { head = head_of content; lists = lists_of content; name = content.name.now }

-- What a version has beside f, g, the powers and the forces; or there is no such version.
abbrev pub Thirds : ℕ → ℕ → List ℕ → Result (Option Third) Refusal → Type 0
Thirds v h times (Ok None) = v ≡ 1
Thirds v h times (Ok (Some third)) = (v ≡ 2) × (third.h ≡ h) × (third.times.now ≡ times)
Thirds v h times (Err why) = (outside 1 2 v ≡ true) × (why ≡ Version)

abbrev pub FewTimes : Option Third → Type 0
FewTimes None = Unit
FewTimes (Some third) = length third.times.now ≤ 64

-- Lists and a name that the writer's sums cannot overflow with.
pub record Short (content : Content) : Type 0 where
  pub few_powers : length content.powers.now ≤ 64
  pub few_forces : length content.forces.now ≤ 64
  pub few_times : FewTimes content.third
  pub short_name : length content.name.now ≤ 40

-- There is room from the position on for the lists and the name.
pub record BodyFits (out : List ℕ) (at : ℕ) (content : Content) : Type 0 where
  pub room : at + length (encode_body (lists_of content) content.name.now) ≤ length out
  pub short : length content.name.now ≤ 40
