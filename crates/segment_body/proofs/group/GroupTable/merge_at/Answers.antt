-- That `merge_at` ensures what it says.
use Rattle.std.proofs.Common.{◌∙◌, [], sym}
use Rattle.segment_body.specs.Groups.{Group, group}
use Rattle.segment_body.proofs.MapFacts.{groups_merged, tally_at}
use Rattle.segment_body.proofs.group.GroupTable.merge_at.Goals as goal

pub merge-requires-clause-one_aggregator : goal.merge-requires-clause-one_aggregator
merge-requires-clause-one_aggregator c =
    let d : Group = group [] c.index_mut-group.result.now in
    let there = tally_at (λ key. key) c.self.inside.tallies.entries c.args.place c.index_mut-group.result.now d c.index_mut-group.ensures.value in
    rw there.1 at ((rw (← c.self.view_is) at c.requires.alike) c.args.place d there.0)

pub merge-requires-clause-no_distinct_count : goal.merge-requires-clause-no_distinct_count
merge-requires-clause-no_distinct_count c e =
    let d : Group = group [] c.index_mut-group.result.now in
    let there = tally_at (λ key. key) c.self.inside.tallies.entries c.args.place c.index_mut-group.result.now d c.index_mut-group.ensures.value in
    c.requires.adds_up (sym (rw there.1 at ((rw (← c.self.view_is) at c.requires.alike) c.args.place d there.0)) ∙ e)

pub merge-requires-clause-room : goal.merge-requires-clause-room
merge-requires-clause-room c =
    let d : Group = group [] c.index_mut-group.result.now in
    let there = tally_at (λ key. key) c.self.inside.tallies.entries c.args.place c.index_mut-group.result.now d c.index_mut-group.ensures.value in
    rw there.1 at ((rw (← c.self.view_is) at c.requires.room) d)

pub returns : goal.returns
returns c d =
    rw (← c.self.view_is)
    (groups_merged (λ key. key) c.self.inside.tallies.entries c.args.place c.index_mut-group.result.now c.merge.new.self d c.args.tally.now.values c.index_mut-group.ensures.value c.merge.ensures)
