-- That `plan_folds` ensures `bound`.
use Rattle.std.proofs.Common.{length}
use Rattle.std.specs.Prelude.{nat_lt}
use Rattle.agg_tables.specs.declared.declared.Fold.{Fold}
use Rattle.agg_tables.proofs.FoldFacts.{folds_measured}
use Rattle.agg_tables.proofs.PlaceFacts.{columns_known}
use Rattle.agg_tables.proofs.file.plan_folds.Goals as goal

pub returns-clause-bound : goal.returns-clause-bound
returns-clause-bound c =
    let placed = c.requires.placed in
    let measures = c.args.declared.now.measures in
    let known = folds_measured (length placed.cube.measures) measures placed.some placed.measured in
    record {
      placed = placed;
      known = record {
        cube = placed.cube;
        known = placed.known;
        measured = c.in_ok-column_folds.ensures.more (λ (fold : Fold). nat_lt fold.measure (length placed.cube.measures)) (rw (c.in_ok-folds.ensures, c.as_slice-2.ensures) known)
            (rw c.requires.columns (columns_known (λ measure. nat_lt measure (length placed.cube.measures)) measures placed.measured));
      };
      own = rw (c.in_ok-folds.ensures, c.as_slice-2.ensures) at c.in_ok-column_folds.ensures.own;
    }
