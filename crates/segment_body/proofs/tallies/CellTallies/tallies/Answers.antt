-- That `tallies` ensures what it says.
use Rattle.segment_body.specs.AllFolds.{values_in}
use Rattle.segment_body.specs.Tables.{folds_in}
use Rattle.segment_body.proofs.TableFacts.{places_inside, tallied_room, tallies_are}
use Rattle.segment_body.proofs.tallies.CellTallies.tallies.Goals as goal

pub tallies-requires-clause-room : goal.tallies-requires-clause-room
tallies-requires-clause-room c = tallied_room c.self.inside.aggregator c.self.inside.cells.items (folds_in c.self.inside.folds.items) c.self.inside.table c.self.invariant

pub tallies-requires-clause-inside : goal.tallies-requires-clause-inside
tallies-requires-clause-inside c = places_inside values_in c.self.inside.table.groups c.self.inside.table.at c.self.inside.cells.items c.self.invariant.cells_held.placed

pub returns : goal.returns
returns c = rw (← c.self.view_is) (tallies_are c.self.inside.aggregator c.self.inside.cells.items (folds_in c.self.inside.folds.items) c.self.inside.table c.self.invariant c.tallies.result c.tallies.ensures)
