-- That `add_row` ensures what it says.
use Rattle.std.proofs.Common.{[], inl}
use Rattle.segment_body.specs.Groups.{group}
use Rattle.segment_body.proofs.GroupFacts.{found}
use Rattle.segment_body.proofs.group.GroupTable.add_row.Goals as goal

pub returns-in_ok-add_at-in-Some-clause-ok : goal.returns-in_ok-add_at-in-Some-clause-ok
returns-in_ok-add_at-in-Some-clause-ok c =
    let there = found c.args.values.now c.args.self.now c.in-Some.place (group [] (record { aggregator = c.args.aggregator; values = [] })) c.in-Some.ensures in
    inl (there.1, c.in_ok-add_at-in-Some.ensures.ok)
