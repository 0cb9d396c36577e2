-- Going from block to block: where `Block::first` and `Block::next` give a block, and which.
use Rattle.std.specs.Prelude.{Option, None, Some}
use Rattle.std.specs.Option.{MatchOption, IsSome}
use Rattle.std.proofs.lemmas.Option.{MatchOption-at_some}
use mathlib.Core.Path.{◌≡◌, refl}
use Prim.Native.Nat.{ℕ, ◌+◌, ◌≤◌, ◌<◌}
use native.Mathlib.Omega.{arith}
use Rattle.pairs.specs.declared.block.Block.{Block}

-- what the two ensure of their answer
abbrev pub First : ℕ → Option Block → Type 0
First n answer = MatchOption answer ((2 ≤ n) × (n ≤ 31) → ⊥) (λ block. (block.n ≡ n) × (block.k ≡ 2))

abbrev pub Next : Block → Option Block → Type 0
Next self answer = MatchOption answer (self.k ≡ self.n) (λ block. (block.n ≡ self.n) × (block.k ≡ self.k + 1))

pub some_first : (n : ℕ) (answer : Option Block) → First n answer → 2 ≤ n → n ≤ 31 → IsSome answer
some_first n None h low high = absurd (h (low, high))
some_first n (Some block) h low high = refl

pub first_is : (n : ℕ) {answer : Option Block} {block : Block} → answer ≡ Some block → First n answer → (block.n ≡ n) × (block.k ≡ 2)
first_is n {block = block} is h =
    MatchOption-at_some ((2 ≤ n) × (n ≤ 31) → ⊥) (λ block. (block.n ≡ n) × (block.k ≡ 2)) block is h

pub some_next : (self : Block) (answer : Option Block) → Next self answer → self.k < self.n → IsSome answer
some_next self None h less = absurd (omega (arith, h))
some_next self (Some block) h less = refl

pub next_is : (self : Block) {answer : Option Block} {block : Block} → answer ≡ Some block → Next self answer
    → (block.n ≡ self.n) × (block.k ≡ self.k + 1)
next_is self {block = block} is h =
    MatchOption-at_some (self.k ≡ self.n) (λ block. (block.n ≡ self.n) × (block.k ≡ self.k + 1)) block is h
