-- A field is read back from its encoding if no cause applies to it, and what a field reads encodes to the bytes that were read; so it is
-- for several in a row.
use mathlib.Core.Path.{◌≡◌, refl, sym, ap}
use Prim.Native.Nat.{ℕ, zero, suc, ◌≤◌, ◌+◌}
use mathlib.Core.List.{List, [], ◌∷◌, ◌++◌, append_assoc}
use native.Mathlib.Omega.{arith}
use lib.ListN.{length}
use lib.Seq.{get_or-append-add}
use Rattle.reply.specs.Reply.{Cause}
use Rattle.reply.proofs.Order.{NoneApplies}
use Rattle.leb128.specs.Parser.{Parser, parsed, ◌>>=◌}
use Rattle.leb128.specs.Number.{AllBelow, encode_number, encode_numbers, Limits, limits64, parse_number, number, field, fields}
use Rattle.leb128.proofs.Parser.{with_parsed, checked_parsed, parsed_checked}
use Rattle.leb128.proofs.Number.{number_back, number_same}

pub field_back : (causes : ℕ → List Cause) (n : ℕ) (rest : List ℕ) → n ≤ 18446744073709551615 → NoneApplies (causes n)
    → field limits64 causes (encode_number n ++ rest) ≡ parsed n rest
field_back causes n rest low clear = parsed_checked number causes (encode_number n ++ rest) (number_back n rest low) clear

pub below_rest : {bound : ℕ} (front rest bytes : List ℕ) → front ++ rest ≡ bytes → AllBelow bound bytes → AllBelow bound rest
below_rest front rest bytes e below i = rw get_or-append-add at (rw (sym e) at (below (length front + i)))

-- A parser that begins with a field, and parses: what is known of the field, of the rest and of the next parser goes on to `go`.
pub with_field : {B C : Type 0} (limits : Limits) (causes : ℕ → List Cause) (next : ℕ → Parser B) (bytes : List ℕ) {value : B}
    {end : List ℕ} → AllBelow 256 bytes → (field limits causes >>= next) bytes ≡ parsed value end
    → ((n : ℕ) (rest : List ℕ) → NoneApplies (causes n) → encode_number n ++ rest ≡ bytes → AllBelow 256 rest
    → next n rest ≡ parsed value end → C)
    → C
with_field limits causes next bytes below e go =
    with_parsed (field limits causes) next bytes e λ n rest e₁ e₂.
    let c = checked_parsed (parse_number limits) causes bytes e₁ in
    let same = number_same limits bytes below c.1 in
    go n rest c.0 same (below_rest (encode_number n) rest bytes same below) e₂

-- No cause applies to any of the numbers.
abbrev pub NoneOf : (ℕ → List Cause) → List ℕ → Type 0
NoneOf causes [] = Unit {0}
NoneOf causes (n ∷ ns) = NoneApplies (causes n) × NoneOf causes ns

pub fields_back : (causes : ℕ → List Cause) (ns rest : List ℕ) → AllBelow 18446744073709551616 ns → NoneOf causes ns
    → fields limits64 causes (length ns) (encode_numbers ns ++ rest) ≡ parsed ns rest
fields_back causes [] rest low clear = refl
fields_back causes (n ∷ ns) rest low clear =
    let first = low 0 in
    rw (
      append_assoc,
      field_back causes n (encode_numbers ns ++ rest) (omega arith) clear.0,
      fields_back causes ns rest (λ i. low (suc i)) clear.1,
    )

pub fields_many : (limits : Limits) (causes : ℕ → List Cause) (count : ℕ) (bytes : List ℕ) {ns rest : List ℕ}
    → fields limits causes count bytes ≡ parsed ns rest → length ns ≡ count
fields_many limits causes zero bytes {ns} e = let none : ns ≡ [] = cc in rw none
fields_many limits causes (suc count) bytes {ns} e =
    with_parsed (field limits causes) _ bytes e λ n r₁ e₁ p₁.
    with_parsed (fields limits causes count) _ r₁ p₁ λ others r₂ e₂ p₂.
    let all_are : ns ≡ n ∷ others = cc in
    rw all_are (ap suc (fields_many limits causes count r₁ e₂))

-- So many numbers were read.
pub record FieldsRead (causes : ℕ → List Cause) (count : ℕ) (bytes ns rest : List ℕ) : Type 0 where
  pub many : length ns ≡ count
  pub clear : NoneOf causes ns
  pub same : encode_numbers ns ++ rest ≡ bytes
  pub below : AllBelow 256 rest

pub fields_same : (limits : Limits) (causes : ℕ → List Cause) (count : ℕ) (bytes : List ℕ) {ns rest : List ℕ} → AllBelow 256 bytes
    → fields limits causes count bytes ≡ parsed ns rest → FieldsRead causes count bytes ns rest
fields_same limits causes zero bytes {ns} {rest} below e =
    let none : ns ≡ [] = cc in
    let all : rest ≡ bytes = cc in
    rw (none, all) (record { many = refl; clear = tt; same = refl; below = below })
fields_same limits causes (suc count) bytes {ns} {rest} below e =
    with_field limits causes _ bytes below e λ n r₁ c s b e₁.
    with_parsed (fields limits causes count) _ r₁ e₁ λ others r₂ o e₂.
    let t = fields_same limits causes count r₁ b o in
    let all_are : ns ≡ n ∷ others = cc in
    let rest_is : rest ≡ r₂ = cc in
    rw (all_are, rest_is)
    (record { many = ap suc t.many; clear = (c, t.clear); same = rw (append_assoc, t.same) s; below = t.below })
