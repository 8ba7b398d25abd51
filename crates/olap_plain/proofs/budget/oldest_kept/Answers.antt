-- That `oldest_kept` ensures what it says and keeps what holds at each turn.
use Rattle.std.proofs.Common.{sym, ◌∙◌, arith, length}
use Rattle.olap_meaning.specs.History.{kept}
use Rattle.olap_meaning.proofs.Evicting.{first_kept}
use Rattle.olap_plain.specs.Entries.{entries}
use Rattle.olap_plain.proofs.EntryFacts.{climb_here, climb_on, climb_past, entries-length}
use Rattle.olap_plain.proofs.budget.oldest_kept.Goals as goal

pub loop-i-preserved : goal.loop-i-preserved
loop-i-preserved c = climb_on (kept (entries c.args.history.now)) c.loop-i.i c.loop-i.invariant (sym c.kept-found.ensures ∙ c.if-found.false)

pub returns-then-found : goal.returns-then-found
returns-then-found c =
    sym (first_kept (entries c.args.history.now) (length (entries c.args.history.now))
    ∙ climb_here (kept (entries c.args.history.now)) (length (entries c.args.history.now)) c.loop-i.i (omega (arith, c.loop-i-test.true, entries-length c.args.history.now)) c.loop-i.invariant (sym c.kept-found.ensures ∙ c.if-found.true))

pub returns : goal.returns
returns c =
    sym (first_kept (entries c.args.history.now) (length (entries c.args.history.now))
    ∙ climb_past (kept (entries c.args.history.now)) (length (entries c.args.history.now)) c.loop-i.i (omega (arith, c.loop-i-test.false, entries-length c.args.history.now)) c.loop-i.invariant)
