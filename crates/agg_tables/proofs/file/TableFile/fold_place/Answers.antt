-- That `fold_place` ensures what it says.
use Rattle.agg_tables.proofs.ReadFacts.{fold_there}
use Rattle.agg_tables.proofs.file.TableFile.fold_place.Goals as goal

pub returns : goal.returns
returns c =
    let a = c.self.inside in
    let within = rw (← c.self.view_is, ← c.self.invariant.columned) at c.requires in
    rw (← c.self.view_is, ← c.self.invariant.columned) (fold_there a.folds.items a.columns.items a.column_folds.items c.args.j c.index.result.now c.self.invariant.summed within c.index.ensures)
