-- That `exact_source` ensures what it says and keeps what holds at each turn.
use Rattle.std.proofs.Common.{sym, ◌∙◌, arith, ◌&&◌}
use Rattle.olap_meaning.specs.History.{live, load_just_covers, exact_source}
use Rattle.olap_plain.specs.Entries.{entries}
use Rattle.olap_plain.proofs.EntryFacts.{walk_on, walk_here}
use Rattle.olap_plain.proofs.history.exact_source.Goals as goal

pub loop-j-preserved : goal.loop-j-preserved
loop-j-preserved c = record {
  within = omega arith;
  rest = walk_on (λ k. live (entries c.args.entries.now) k c.args.cell.now && load_just_covers (entries c.args.entries.now) k c.args.cell.now) c.loop-j.j (exact_source (entries c.args.entries.now) c.args.cell.now) (omega arith) (sym c.serves-found.ensures ∙ c.if-found.false) c.loop-j.invariant.rest;
}

pub returns-then-found : goal.returns-then-found
returns-then-found c = walk_here (λ k. live (entries c.args.entries.now) k c.args.cell.now && load_just_covers (entries c.args.entries.now) k c.args.cell.now) c.loop-j.j (exact_source (entries c.args.entries.now) c.args.cell.now) (omega arith) (sym c.serves-found.ensures ∙ c.if-found.true) c.loop-j.invariant.rest
