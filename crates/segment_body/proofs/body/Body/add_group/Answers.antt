-- That `add_group` ensures what it says.
use Rattle.std.proofs.Common.{◌≡◌, ◌∙◌, length, refl}
use Rattle.segment_body.specs.Groups.{placed_in, rows_of}
use Rattle.segment_body.proofs.FoldFacts.{held_alike}
use Rattle.segment_body.proofs.MergeFacts.{groups_room, merged_all, placed_block}
use Rattle.segment_body.proofs.body.Body.add_group.Goals as goal

pub add_tally-requires-clause-alike : goal.add_tally-requires-clause-alike
add_tally-requires-clause-alike c = held_alike c.self.inside.header c.self.inside.aggregator c.self.inside.groups (placed_in c.self.inside.parts.items) c.self.invariant c.self.inside.groups refl

pub add_tally-requires-clause-room : goal.add_tally-requires-clause-room
add_tally-requires-clause-room c =
    groups_room c.self.inside.aggregator (rows_of c.self.inside.groups (placed_in c.self.inside.parts.items)) c.self.inside.groups (length c.args.tally.now.values) c.self.invariant.grouped (rw (← c.self.view_is) at c.requires.room)

pub invariant_of-self-2 : goal.invariant_of-self-2
invariant_of-self-2 c =
    let allowed = rw (← c.self.view_is) at c.requires.allowed in
    let room = rw (← c.self.view_is) at c.requires.room in
    let some = λ (none : length c.args.tally.now.values ≡ 0). c.if-rows-eq0.false (c.rows.ensures ∙ none) in
    let more = merged_all c.self.inside.header c.self.inside.aggregator c.args.values.now c.in_ok-place.place c.add_tally.new.self c.args.tally.now.values c.self.inside.groups (placed_in c.self.inside.parts.items) some c.self.invariant c.in_ok-place.ensures.ok allowed room in
    let blocks = placed_block c.self.inside.parts.items c.and-self-inside.result.items _ c.and-self-inside.ensures c.args.tally.now.values c.numbers-numbers.ensures in
    rw (blocks, more.rows_are) more.held

pub returns-clause-ok : goal.returns-clause-ok
returns-clause-ok c =
    let allowed = rw (← c.self.view_is) at c.requires.allowed in
    let room = rw (← c.self.view_is) at c.requires.room in
    let some = λ (none : length c.args.tally.now.values ≡ 0). c.if-rows-eq0.false (c.rows.ensures ∙ none) in
    let more = merged_all c.self.inside.header c.self.inside.aggregator c.args.values.now c.in_ok-place.place c.add_tally.new.self c.args.tally.now.values c.self.inside.groups (placed_in c.self.inside.parts.items) some c.self.invariant c.in_ok-place.ensures.ok allowed room in
    let blocks = placed_block c.self.inside.parts.items c.and-self-inside.result.items _ c.and-self-inside.ensures c.args.tally.now.values c.numbers-numbers.ensures in
    rw (← c.self.view_is, blocks, more.rows_are) refl
