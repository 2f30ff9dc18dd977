use mathlib.Core.List.{[]}
use borrow.Author.Rules.{rules}
use Rattle.text.proofs.Puts.{follows}
use Rattle.printing.proofs.Holds.{holds}
use Rattle.printing.proofs.Records.{begun, begun_more, ended, ended_short, none_left}
use Rattle.printing.proofs.listing_text.Goals as goal

pub loop-size-init : goal.loop-size-init
loop-size-init c = begun _ _

pub loop-size-preserved : goal.loop-size-preserved
loop-size-preserved c = begun_more c.loop-size.invariant c.in-Some.ensures

pub returns-clause-holds : goal.returns-clause-holds
returns-clause-holds c =
    let left = c.in_default.ensures in
    holds (ended c.loop-size.invariant (none_left c.args.listing.now _ left.0) (follows [] _ left.1 c.put_end.ensures)) c.new-text.ensures.place (search rules) (search rules)

pub returns-clause-listing_len_bound : goal.returns-clause-listing_len_bound
returns-clause-listing_len_bound c = ended_short c.loop-size.invariant (none_left c.args.listing.now _ c.in_default.ensures.0)
