-- Cells that were answered are replied to with the grid of the answer.
use Rattle.std.proofs.Common.{Some, None, IsTrue, ◌-◌, arith, inl, refl, subst}
use Rattle.std.specs.List.{list_all}
use Rattle.olap_meaning.specs.Legal.{is_cell}
use Rattle.olap_meaning.specs.declared.tables.Catalog.{Catalog}
use Rattle.line_session.specs.Desks.{costs_between}
use Rattle.line_session.proofs.Replying.{gives_grid, gives_none}
use Rattle.line_session.proofs.query.reply_to_cells.Goals as goal

pub returns-in-Ok : goal.returns-in-Ok
returns-in-Ok g c = record {
  reply = (
    Some c.in-Ok.answer.position,
    costs_between (g.P.Desk.seen c.args.desk.now) (g.P.Desk.seen c.ask.new.self),
    c.in-Ok.ensures.cost,
    ((λ _. refl), omega arith),
    inl (gives_grid _ (g.P.Desk.seen c.args.desk.now) (g.P.Desk.seen c.ask.new.self) c.args.catalog.now c.args.axes.now c.args.cells.now c.in-Ok.answer c.grid.result c.made.result
        c.requires.catalog c.requires.cells c.in-Ok.ensures.asked c.grid.ensures.written c.grid.ensures.form c.made.ensures),
  );
}

pub returns-in-Err : goal.returns-in-Err
returns-in-Err g c = record {
  reply = (
    None,
    c.ask.new.steps - c.args.steps.now,
    omega (arith, c.ask.ensures.at_least),
    ((λ some. absurd (cc some)), omega (arith, c.ask.ensures.at_least, c.ask.ensures.at_most)),
    gives_none _ (g.P.Desk.seen c.args.desk.now) (g.P.Desk.seen c.ask.new.self) c.args.catalog.now c.args.axes.now c.args.cells.now c.no_memory.result c.requires.catalog c.requires.cells c.in-Err.ensures.refused c.no_memory.ensures,
  );
}

pub ask-requires : goal.ask-requires
ask-requires g c = record { known = subst (λ (k : Catalog). IsTrue (list_all (is_cell k) c.args.cells.now)) c.requires.catalog c.requires.known }
