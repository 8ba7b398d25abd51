-- That `own_bodies` ensures what it says.
use Rattle.std.proofs.Common.{◌≡◌, ◌∙◌, length, map, take, ap}
use Rattle.std.proofs.lemmas.List.{take-map}
use Rattle.agg_tables.specs.Tables.{fold_over, folds_of}
use Rattle.agg_tables.proofs.checking.own_bodies.Goals as goal

pub returns : goal.returns
returns c =
    let catalog = c.args.checker.file.catalog in
    let declared = c.args.declared.now in
    let rows = c.args.checker.rows in
    let folds = c.args.checker.file.folds in
    let computed : c.into_bodies-bodies.result.items ≡ map (fold_over catalog declared rows) folds = rw c.requires.declared at c.into_bodies-bodies.ensures.computed in
    let own : take (length (folds_of declared.measures)) folds ≡ folds_of declared.measures = rw c.requires.declared at c.requires.bound.own in
    rw (c.truncate.ensures.items, c.fold_count.ensures, computed)
    (take-map (fold_over catalog declared rows) (length (folds_of declared.measures)) folds ∙ ap (map (fold_over catalog declared rows)) own)
