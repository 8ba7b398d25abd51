-- That `take` ensures what it says.
use Rattle.std.proofs.Common.{◌∙◌, [], ◌∷◌, ◌++◌, ap}
use Rattle.segment_body.specs.Tables.{folds_in}
use Rattle.segment_body.proofs.FoldFacts.{groups_alike}
use Rattle.segment_body.proofs.TableFacts.{folds_more, more_room, table_within, tallied_more}
use Rattle.segment_body.proofs.tallies.CellTallies.take.Goals as goal

pub take-requires-clause-alike : goal.take-requires-clause-alike
take-requires-clause-alike c =
    rw (c.requires.groups, c.requires.aggregator, ← c.self.view_is) (groups_alike c.self.inside.aggregator c.args.body.now.rows)

pub take-requires-clause-inside : goal.take-requires-clause-inside
take-requires-clause-inside c some =
    rw (c.requires.groups, c.as_slice.ensures, c.header-header.ensures.value)
    (table_within c.args.body.now.header c.args.body.now.aggregator c.args.body.now.rows c.header-header.ensures.well_formed c.header-header.ensures.allowed c.self.inside.cells.items c.self.inside.table
    (rw (← c.self.view_is) at c.requires.covered) c.self.invariant.cells_held some)

pub take-requires-clause-room : goal.take-requires-clause-room
take-requires-clause-room c =
    let same = rw (← c.self.view_is) at c.requires.aggregator in
    rw (c.requires.groups, c.as_slice.ensures, c.header-header.ensures.value)
    (more_room c.args.body.now.header c.args.body.now.aggregator c.args.body.now.rows c.header-header.ensures.well_formed c.header-header.ensures.allowed c.self.inside.cells.items (folds_in c.self.inside.folds.items) c.self.inside.table c.args.column c.args.own.now
    (rw (← same) at c.self.invariant) (rw (← c.self.view_is) at c.requires.covered) (rw (← c.self.view_is) at c.requires.room))

pub invariant_of-self : goal.invariant_of-self
invariant_of-self c =
    let same = rw (← c.self.view_is) at c.requires.aggregator in
    let body = c.and-body.ensures ∙ ap (λ l. l ++ c.args.body.now ∷ []) c.new.ensures in
    let own = c.and-own.ensures ∙ ap (λ l. l ++ c.args.own.now ∷ []) c.new-2.ensures in
    let folds = c.and-self-inside.ensures in
    rw (folds, folds_more c.self.inside.folds.items (record { body = c.and-body.result; column = c.args.column; own = c.and-own.result }) c.args.body.now c.args.own.now body own, c.take.ensures, c.requires.groups, c.as_slice.ensures, c.header-header.ensures.value, ← same)
    (tallied_more c.args.body.now.header c.args.body.now.aggregator c.args.body.now.rows c.header-header.ensures.well_formed c.header-header.ensures.allowed c.self.inside.cells.items (folds_in c.self.inside.folds.items) c.self.inside.table c.args.column c.args.own.now
    (rw (← same) at c.self.invariant) (rw (← c.self.view_is) at c.requires.covered) (rw (← c.self.view_is) at c.requires.room))
