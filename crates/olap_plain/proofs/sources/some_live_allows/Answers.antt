-- That `some_live_allows` ensures what it says and keeps what holds at each turn.
use Rattle.std.proofs.Common.{sym, ◌∙◌, arith, ◌&&◌}
use Rattle.std.specs.List.{list_any}
use Rattle.olap_meaning.specs.Rolled.{allows_in, fits, live_offers}
use Rattle.olap_plain.specs.Entries.{entries}
use Rattle.olap_plain.specs.SourceTests.{offer_of}
use Rattle.olap_plain.proofs.SourceFacts.{walk_on, walk_here}
use Rattle.olap_plain.proofs.sources.some_live_allows.Goals as goal

pub loop-j-preserved : goal.loop-j-preserved
loop-j-preserved c = record {
  within = omega arith;
  rest = walk_on (entries c.args.history.now) c.args.cell.now (λ other. fits c.args.cell.now c.args.split (offer_of c.args.first.now) other && allows_in other.header c.args.split c.args.value) c.loop-j.j (list_any (λ other. fits c.args.cell.now c.args.split (offer_of c.args.first.now) other && allows_in other.header c.args.split c.args.value) (live_offers (entries c.args.history.now) c.args.cell.now)) (omega arith) (sym c.live_allows-found.ensures ∙ c.if-found.false) c.loop-j.invariant.rest;
}

pub returns-then-found : goal.returns-then-found
returns-then-found c = walk_here (entries c.args.history.now) c.args.cell.now (λ other. fits c.args.cell.now c.args.split (offer_of c.args.first.now) other && allows_in other.header c.args.split c.args.value) c.loop-j.j (list_any (λ other. fits c.args.cell.now c.args.split (offer_of c.args.first.now) other && allows_in other.header c.args.split c.args.value) (live_offers (entries c.args.history.now) c.args.cell.now)) (omega arith) (sym c.live_allows-found.ensures ∙ c.if-found.true) c.loop-j.invariant.rest
