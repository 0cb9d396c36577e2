-- `work_out` meets its contract: the pair call tells the next pair, or that there is none.
use mathlib.Core.Path.{◌≡◌, sym, ap, ◌∙◌}
use Prim.Native.Nat.{ℕ, ◌≤◌}
use Rattle.std.specs.Prelude.{Result, Ok, Err}
use Rattle.std.specs.Result.{result_unwrap_or}
use Rattle.reply.specs.declared.Refusal.{Refusal}
use Rattle.euclid.specs.Chain.{Pair}
use Rattle.pairs.specs.declared.pair.Pair.{Pair as Codes}
use Rattle.pairs.specs.Replies.{found_reply, pair_at_reply}
use Rattle.walk.specs.Walks.{next_pair}
use Rattle.walk.proofs.Keeping.{holding, next_found, next_none}
use Rattle.walk.proofs.Walk.work_out.Goals as goal

abbrev codes : Codes → Pair
codes pair = record { f = pair.f; g = pair.g }

module _ (n position : ℕ) (high : n ≤ 31) where
  found : (r : Result Codes Refusal) → found_reply r ≡ pair_at_reply n position
      → next_pair n position ≡ codes (result_unwrap_or r (record { f = 0; g = 0 }))
  found (Ok pair) e = next_found n position pair.f pair.g (sym e)
  found (Err refusal) e = next_none n position high (sym e)

pub returns : goal.returns
returns c =
    let walk = c.args.self.now in
    holding walk.degree walk.position walk.marks walk.counts
    (found walk.degree walk.position c.requires c.pair_at.result c.pair_at.ensures
    ∙ ap codes (sym c.unwrap_or-next.ensures))
