-- That `some_live_begins` ensures what it says and keeps what holds at each turn.
use Rattle.std.proofs.Common.{sym, ◌∙◌, arith}
use Rattle.std.specs.List.{list_any}
use Rattle.olap_meaning.specs.Rolled.{can_begin, live_offers, value_count}
use Rattle.olap_plain.specs.Entries.{entries}
use Rattle.olap_plain.proofs.SourceFacts.{walk_on, walk_here}
use Rattle.olap_plain.proofs.sources.some_live_begins.Goals as goal

pub loop-j-preserved : goal.loop-j-preserved
loop-j-preserved c = record {
  within = omega arith;
  rest = walk_on (entries c.args.history.now) c.args.cell.now (can_begin (value_count c.args.catalog.now) c.args.cell.now (live_offers (entries c.args.history.now) c.args.cell.now)) c.loop-j.j (list_any (can_begin (value_count c.args.catalog.now) c.args.cell.now (live_offers (entries c.args.history.now) c.args.cell.now)) (live_offers (entries c.args.history.now) c.args.cell.now)) (omega arith) (sym c.live_begins-found.ensures ∙ c.if-found.false) c.loop-j.invariant.rest;
}

pub returns-then-found : goal.returns-then-found
returns-then-found c = walk_here (entries c.args.history.now) c.args.cell.now (can_begin (value_count c.args.catalog.now) c.args.cell.now (live_offers (entries c.args.history.now) c.args.cell.now)) c.loop-j.j (list_any (can_begin (value_count c.args.catalog.now) c.args.cell.now (live_offers (entries c.args.history.now) c.args.cell.now)) (live_offers (entries c.args.history.now) c.args.cell.now)) (omega arith) (sym c.live_begins-found.ensures ∙ c.if-found.true) c.loop-j.invariant.rest
