-- That `hierarchy_of` finds the first that has the column, and keeps what holds at each turn.
use Rattle.std.proofs.Common.{◌∙◌, ap, sym}
use Rattle.olap_meaning.specs.Covering.{among}
use Rattle.olap_meaning.specs.declared.tables.Hierarchy.{Hierarchy}
use Rattle.result_layout.proofs.KeptFacts.{first_here, none_here, none_more}
use Rattle.result_layout.proofs.kept.hierarchy_of.Goals as goal

pub returns-then-is_level-clause-place : goal.returns-then-is_level-clause-place
returns-then-is_level-clause-place c =
    first_here (λ (hierarchy : Hierarchy). among hierarchy.levels c.args.column) c.args.catalog.now.hierarchies c.loop-h.h c.hierarchy.result.now c.hierarchy.ensures c.loop-h.invariant
    (ap (λ levels. among levels c.args.column) (sym c.as_slice.ensures) ∙ sym c.is_level.ensures ∙ c.if-is_level.true)

pub loop-h-preserved : goal.loop-h-preserved
loop-h-preserved c =
    none_more (λ (hierarchy : Hierarchy). among hierarchy.levels c.args.column) c.args.catalog.now.hierarchies c.loop-h.h c.hierarchy.result.now c.hierarchy.ensures c.loop-h.invariant
    (ap (λ levels. among levels c.args.column) (sym c.as_slice.ensures) ∙ sym c.is_level.ensures ∙ c.if-is_level.false)

pub returns-clause-place : goal.returns-clause-place
returns-clause-place c =
    none_here (λ (hierarchy : Hierarchy). among hierarchy.levels c.args.column) c.args.catalog.now.hierarchies c.loop-h.h (rw c.hierarchy_count-h-end.ensures.count at c.loop-h-test.false) c.loop-h.invariant
