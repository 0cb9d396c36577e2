-- `Words::all_skipped` meets its contract: where nothing is skipped, no word is left if one letter is and r is odd, or two and r is even.
use Rattle.listing.proofs.Onward.{none_from}
use Rattle.listing.proofs.Words.all_skipped.Goals as goal

pub returns-then-skip-eq0 : goal.returns-then-skip-eq0
returns-then-skip-eq0 c = λ s. rw c.if-skip-eq0.true (none_from c.args.self.letters c.args.self.r s c.args.self.some)

pub returns : goal.returns
returns c = λ s. rw (c.count.ensures s)
