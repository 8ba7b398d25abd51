-- The load of one cell more, where it awaits one.
use Rattle.std.proofs.Common.{◌∙◌, ◌++◌, ◌∷◌, [], ℕ, List, Option, ap, append-nil, option_to_list, sym, take}
use Rattle.history_core.specs.Groups.{awaited_loads}
use Rattle.cell_groups.specs.Lent.{lent}
use Rattle.cache_manager.proofs.Awaiting.{awaited_more}
use Rattle.cache_manager.proofs.manager.Manager.awaited_by.Goals.{in-Some+in_ok-push, in_default}
use Rattle.cache_manager.proofs.manager.Manager.awaited_by.Goals as goal

pub loop-cell-preserved : goal.loop-cell-preserved
loop-cell-preserved c =
    let so_far = awaited_loads c.args.self.now.entries (lent (take c.loop-cell.cell-index c.args.cells.now)) in
    let more = awaited_more c.args.self.now.entries c.args.cells.now c.loop-cell.cell-index c.cell-item.result c.loop-cell-test.true c.cell-item.is in
    elim c.match-awaited.branch [
      | in-Some+in_ok-push w ↦ rw (w.found-is, w.in_ok-push.ensures.items)
          (ap (λ (loads : List ℕ). loads ++ w.in-Some.load ∷ []) c.loop-cell.invariant ∙ ap (λ (o : Option ℕ). so_far ++ option_to_list o) (sym w.in-Some.is ∙ c.awaited.ensures) ∙ sym more)
      | in_default w ↦ rw w.found-is
          (c.loop-cell.invariant ∙ sym (append-nil so_far) ∙ ap (λ (o : Option ℕ). so_far ++ option_to_list o) (sym w.in_default.is ∙ c.awaited.ensures) ∙ sym more)
    ]
