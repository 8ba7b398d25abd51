-- That `awaited_load` ensures what it says and keeps what holds at each turn.
use Rattle.std.proofs.Common.{sym, ◌∙◌, arith, length}
use Rattle.olap_meaning.specs.History.{awaited}
use Rattle.olap_plain.specs.Entries.{entries}
use Rattle.olap_plain.proofs.EntryFacts.{climb_here, climb_on, climb_past, entries-length}
use Rattle.olap_plain.proofs.history.awaited_load.Goals as goal

pub loop-i-preserved : goal.loop-i-preserved
loop-i-preserved c = climb_on (λ j. awaited (entries c.args.entries.now) j c.args.cell.now) c.loop-i.i c.loop-i.invariant (sym c.awaited-found.ensures ∙ c.if-found.false)

pub returns-then-found : goal.returns-then-found
returns-then-found c =
    sym (climb_here (λ j. awaited (entries c.args.entries.now) j c.args.cell.now) (length (entries c.args.entries.now)) c.loop-i.i (omega (arith, c.loop-i-test.true, entries-length c.args.entries.now)) c.loop-i.invariant (sym c.awaited-found.ensures ∙ c.if-found.true))

pub returns : goal.returns
returns c = sym (climb_past (λ j. awaited (entries c.args.entries.now) j c.args.cell.now) (length (entries c.args.entries.now)) c.loop-i.i (omega (arith, c.loop-i-test.false, entries-length c.args.entries.now)) c.loop-i.invariant)
