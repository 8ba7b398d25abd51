-- That `widened_plainly` ensures what it says.
use Rattle.segment_header.proofs.WideFacts.{any_plain, any_serves, set_plain, set_serves}
use Rattle.segment_header.proofs.widener.widened_plainly.Goals as goal

pub returns-then-wanted-count-clause-plain : goal.returns-then-wanted-count-clause-plain
returns-then-wanted-count-clause-plain c = any_plain c.args.wanted.now c.args.count c.requires c.if-wanted-count.true

pub returns-then-wanted-count-clause-serves : goal.returns-then-wanted-count-clause-serves
returns-then-wanted-count-clause-serves c = any_serves c.args.wanted.now c.args.count

pub returns-clause-plain : goal.returns-clause-plain
returns-clause-plain c =
    rw (c.from_vec.ensures, c.in_ok-values.ensures.items)
    (set_plain c.args.wanted.now c.args.count c.requires c.if-wanted-count.false)

pub returns-clause-serves : goal.returns-clause-serves
returns-clause-serves c =
    rw (c.from_vec.ensures, c.in_ok-values.ensures.items) (set_serves c.args.wanted.now c.args.count c.requires)
