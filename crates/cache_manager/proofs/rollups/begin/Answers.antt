-- The rollup has the plan, its loads and the one cell.
use Rattle.std.proofs.Common.{refl, ◌∙◌, ap, List, ◌∷◌, [], ◌++◌}
use Rattle.olap_meaning.specs.declared.cells.Cell.{Cell}
use Rattle.cache_manager.proofs.rollups.begin.Goals as goal

pub returns : goal.returns
returns c = (
  _,
  c.in_ok-push-2.ensures.items,
  record {
    plan_is = refl;
    loads = c.in_ok-loads.ensures;
    cells = c.in_ok-push.ensures.items ∙ ap (λ (cells : List Cell). cells ++ c.in_ok-copy_cell.field-0 ∷ []) c.new-cells.ensures.items ∙ ap (λ (one : Cell). one ∷ []) c.in_ok-copy_cell.ensures;
  },
)
