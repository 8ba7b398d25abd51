use Rattle.std.proofs.Common.{◌∙◌, length, sym}
use Rattle.rollup_plan.specs.Picks.{lent}
use Rattle.rollup_plan.proofs.PickFacts.{all_picked, empty_list, not_empty, not_marked, nothing_picked, picked_splits}
use Rattle.rollup_plan.proofs.parts.parts_by.Goals as goal

pub returns-then-is_empty-clause-found : goal.returns-then-is_empty-clause-found
returns-then-is_empty-clause-found c =
    sym (nothing_picked (length c.args.marks.now) c.args.cell.now c.args.split (lent c.args.kept.now) c.in_ok-parts.parts c.add_loads.new.marks c.in_ok-parts.ensures (empty_list c.in_ok-parts.parts (sym c.is_empty.ensures ∙ c.if-is_empty.true)) c.requires.partial)

pub returns-then-not-all_marked-clause-found : goal.returns-then-not-all_marked-clause-found
returns-then-not-all_marked-clause-found c =
    sym (not_marked (length c.args.marks.now) c.args.cell.now c.args.split (lent c.args.kept.now) c.in_ok-parts.parts c.add_loads.new.marks c.in_ok-parts.ensures (sym c.all_marked.ensures ∙ c.if-not-all_marked.true))

pub returns-clause-parts : goal.returns-clause-parts
returns-clause-parts c =
    all_picked (length c.args.marks.now) c.args.cell.now c.args.split (lent c.args.kept.now) c.in_ok-parts.parts c.add_loads.new.marks c.in_ok-parts.ensures (not_empty c.in_ok-parts.parts (sym c.is_empty.ensures ∙ c.if-is_empty.false)) (sym c.all_marked.ensures ∙ c.if-not-all_marked.false)

pub returns-clause-found : goal.returns-clause-found
returns-clause-found c = sym (picked_splits (length c.args.marks.now) c.args.cell.now c.args.split (lent c.args.kept.now) c.in_ok-parts.parts (returns-clause-parts c))
