-- The answer of a checked field, from what its parser read.
use mathlib.Core.Path.{◌≡◌, sym}
use Prim.Native.Nat.{ℕ}
use mathlib.Core.List.{List}
use lib.ListN.{drop}
use Rattle.reply.specs.Reply.{Cause}
use Rattle.reply.proofs.Order.{NoneApplies}
use Rattle.reply.specs.Numbers.{number_of}
use Rattle.reply.specs.declared.Refusal.{Refusal}
use Rattle.std.specs.Prelude.{Ok, Err}
use Rattle.leb128.specs.Parser.{failed, Parser, pure, barring, checked}
use Rattle.leb128.specs.Reading.{Reads}
use Rattle.leb128.proofs.Parser.{barring_clear}

module _ (causes : ℕ → List Cause) (parser : Parser ℕ) (file : List ℕ) (at : ℕ) {n next : ℕ} (reads : Reads parser file at (Ok (n, next)))
  where
    pub barred_field : (why : Refusal) → barring (causes n) (pure n) (drop next file) ≡ failed (number_of why)
        → Reads (checked parser causes) file at (Err why)
    barred_field why b = record { says = rw (sym reads.says, b); inside = tt }

    pub clear_field : NoneApplies (causes n) → Reads (checked parser causes) file at (Ok (n, next))
    clear_field c = record { says = rw (sym reads.says, barring_clear (causes n) (pure n) (drop next file) c); inside = reads.inside }
