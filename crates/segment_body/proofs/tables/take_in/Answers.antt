-- That `take_in` ensures what it says.
use Rattle.std.proofs.Common.{◌∙◌, sym}
use Rattle.segment_body.proofs.TableFacts.{room_there, taken_nowhere, taken_there}
use Rattle.segment_body.proofs.tables.take_in.Goals as goal

pub merge_at-requires-clause-room : goal.merge_at-requires-clause-room
merge_at-requires-clause-room c = room_there c.args.table.now c.in-Some.place c.args.key.now _ (sym c.place_of.ensures ∙ c.in-Some.is) c.requires.room

pub returns-in-Some : goal.returns-in-Some
returns-in-Some c =
    taken_there c.args.table.now c.in-Some.place c.args.key.now c.args.tally.now.values c.merge_at.new.self c.requires.different (sym c.place_of.ensures ∙ c.in-Some.is) c.merge_at.ensures

pub returns-in-None : goal.returns-in-None
returns-in-None c = taken_nowhere c.args.table.now c.args.key.now c.args.tally.now.values (sym c.place_of.ensures ∙ c.in-None.is)
