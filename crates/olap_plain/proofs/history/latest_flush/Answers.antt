-- That `latest_flush` ensures `value` and keeps what holds at each turn.
use Rattle.std.proofs.Common.{sym, ◌∙◌, ap, arith, unwrap_or}
use Rattle.olap_meaning.specs.History.{flushes, entry_at, is_some_and}
use Rattle.olap_plain.specs.Entries.{entries}
use Rattle.olap_plain.proofs.EntryFacts.{latest_back, latest_here}
use Rattle.olap_plain.proofs.history.latest_flush.Goals as goal

pub loop-p-preserved : goal.loop-p-preserved
loop-p-preserved c = record {
  within = omega arith;
  rest = ap (λ o. unwrap_or o 0) (sym (latest_back c.loop-p.p (λ q. is_some_and (flushes c.args.cell.now) (entry_at (entries c.args.entries.now) q)) (omega arith) (sym c.flush_at-found.ensures ∙ c.if-found.false))) ∙ c.loop-p.invariant.rest;
}

pub returns-then-found-clause-value : goal.returns-then-found-clause-value
returns-then-found-clause-value c = ap (λ o. unwrap_or o 0) (sym (latest_here c.loop-p.p (λ q. is_some_and (flushes c.args.cell.now) (entry_at (entries c.args.entries.now) q)) (omega arith) (sym c.flush_at-found.ensures ∙ c.if-found.true))) ∙ c.loop-p.invariant.rest
