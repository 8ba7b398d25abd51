-- That `kept_loads` ensures what it says and keeps what holds at each turn.
use Rattle.std.proofs.Common.{◌∙◌, sym, true, false, arith}
use Rattle.olap_plain.specs.Entries.{entries}
use Rattle.olap_plain.proofs.GroupFacts.{loads_all, loads_on}
use Rattle.olap_plain.proofs.budget.kept_loads.Goals as goal
use Rattle.olap_plain.proofs.budget.kept_loads.Goals.{then-found+in_ok-push, else-found}

pub loop-i-preserved : goal.loop-i-preserved
loop-i-preserved c =
    elim c.if-found.branch [
      | then-found+in_ok-push w ↦ loads_on (entries c.args.history.now) c.loop-i.i c.loop-i.loads c.if-found.loads true (sym w.if-found.true ∙ c.kept-found.ensures) (w.loads-is ∙ w.in_ok-push.ensures.ok) c.loop-i.invariant
      | else-found w ↦ loads_on (entries c.args.history.now) c.loop-i.i c.loop-i.loads c.if-found.loads false (sym w.if-found.false ∙ c.kept-found.ensures) w.loads-is c.loop-i.invariant
    ]

pub returns : goal.returns
returns c = c.loop-i.invariant ∙ loads_all c.args.history.now c.loop-i.i (omega (arith, c.loop-i-test.false, c.loop-i.auto.i-end))
