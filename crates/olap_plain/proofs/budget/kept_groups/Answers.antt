-- That `kept_groups` ensures what it says and keeps what holds at each turn.
use Rattle.std.proofs.Common.{◌∙◌, ◌-◌, ◌^◌, ap, min, arith}
use Rattle.olap_meaning.specs.Budget.{group_count}
use Rattle.olap_plain.specs.Entries.{entries}
use Rattle.olap_plain.proofs.GroupFacts.{kept_all, kept_on}
use Rattle.olap_plain.proofs.budget.kept_groups.Goals as goal

pub loop-i-preserved : goal.loop-i-preserved
loop-i-preserved c =
    kept_on (group_count c.args.catalog.now (entries c.args.history.now)) (entries c.args.history.now) c.loop-i.i c.loop-i.count c.kept_group_count-here.result c.saturating_add-count.result (2 ^ 128 - 1) c.saturating_add-count.ensures c.kept_group_count-here.ensures c.loop-i.invariant

pub returns : goal.returns
returns c = c.loop-i.invariant ∙ ap (λ n. min n (2 ^ 128 - 1)) (kept_all (group_count c.args.catalog.now (entries c.args.history.now)) c.args.history.now c.loop-i.i (omega (arith, c.loop-i-test.false, c.loop-i.auto.i-end)))
