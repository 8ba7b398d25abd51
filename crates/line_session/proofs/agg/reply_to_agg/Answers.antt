-- An AGG is replied to by the table of its name.
use Rattle.std.proofs.Common.{◌<◌, ◌-◌, arith, sym, subst, length, Some, None}
use Rattle.olap_meaning.specs.declared.tables.Catalog.{Catalog}
use Rattle.line_session.specs.Desks.{costs_between}
use Rattle.line_session.proofs.Building.{no_table, table_built, table_lacks}
use Rattle.line_session.proofs.agg.reply_to_agg.Goals as goal

pub build_agg-requires : goal.build_agg-requires
build_agg-requires g c = record { declared = subst (λ (k : Catalog). c.in-Some.table < length k.schema.aggregates) c.requires.catalog c.in-Some.ensures.known }

pub returns-in-Ok : goal.returns-in-Ok
returns-in-Ok g c =
    let before = g.P.Desk.seen c.args.desk.now in
    let after = g.P.Desk.seen c.build_agg.new.self in
    record {
      reply = (Some c.in-Ok.built.position, costs_between before after, c.in-Ok.ensures.cost, table_built before after c.args.name.now _ c.in-Some.table c.in-Ok.built c.reply_to_built.result (sym c.in-Some.ensures.found) c.in-Ok.ensures.built c.reply_to_built.ensures);
    }

pub returns-in-Err : goal.returns-in-Err
returns-in-Err g c =
    let before = g.P.Desk.seen c.args.desk.now in
    let after = g.P.Desk.seen c.build_agg.new.self in
    record {
      reply = (
        None,
        c.build_agg.new.steps - c.args.steps.now,
        omega (arith, c.build_agg.ensures.at_least),
        table_lacks before after c.args.name.now c.args.catalog.now c.in-Some.table (c.build_agg.new.steps - c.args.steps.now) c.no_memory.result c.requires.catalog (sym c.in-Some.ensures.found) c.in-Err.ensures.refused c.no_memory.ensures
            (omega (arith, c.in-Err.ensures.at_most)),
      );
    }

pub returns-in-None : goal.returns-in-None
returns-in-None g c = record { reply = (None, 0, omega arith, no_table (g.P.Desk.seen c.args.desk.now) c.args.name.now _ c.named_line.result c.made.result (sym c.in-None.ensures.found) c.named_line.ensures c.made.ensures) }
