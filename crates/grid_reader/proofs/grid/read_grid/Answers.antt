-- That `read_grid` reads the grid of a text, and fails where there is none.
use Rattle.std.proofs.Common.{inr, refl}
use Rattle.query_meaning.specs.GridForm.{IsOfGrid}
use Rattle.grid_reader.proofs.Lists.{read_none, read_one}
use Rattle.grid_reader.proofs.grid.read_grid.Goals as goal

pub returns-in-Ok-None-clause-err : goal.returns-in-Ok-None-clause-err
returns-in-Ok-None-clause-err c =
    inr (refl, read_none IsOfGrid c.args.bytes.now c.in-Ok-None.field-0 c.in-Ok-None.ensures c.in-Ok-None.field-0-is)

pub returns-in-Ok-Some-clause-ok : goal.returns-in-Ok-Some-clause-ok
returns-in-Ok-Some-clause-ok c = (c.in-Ok-Some.ensures c.in-Ok-Some.grid).0 c.in-Ok-Some.field-0-is

pub returns-in-Ok-Some-clause-one : goal.returns-in-Ok-Some-clause-one
returns-in-Ok-Some-clause-one c =
    read_one IsOfGrid c.args.bytes.now c.in-Ok-Some.field-0 c.in-Ok-Some.grid c.in-Ok-Some.ensures c.in-Ok-Some.field-0-is
