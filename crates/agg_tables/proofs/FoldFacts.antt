-- What a table sums up, and its bodies over more rows.
use Rattle.std.proofs.Common.{◌≡◌, ◌∙◌, ◌<◌, ℕ, zero, suc, true, List, [], ◌∷◌, Some, length, map, get_or, refl, sym, ap, arith, All}
use Rattle.std.specs.Prelude.{IsTrue, nat_lt}
use Rattle.std.specs.List.{list_all}
use Rattle.std.proofs.lemmas.Bool.{and_from, and_parts, lt-ltb, ltb-true}
use Rattle.std.proofs.lemmas.List.Elements.{All-map}
use Rattle.olap_meaning.specs.declared.tables.Catalog.{Catalog}
use Rattle.olap_meaning.specs.declared.tables.Row.{Row}
use Rattle.segment_body.specs.BodyOf.{BodyOf}
use Rattle.fact_reader.specs.BodyRows.{is_loadable, with_rows}
use Rattle.agg_tables.specs.declared.declared.Declared.{Declared}
use Rattle.agg_tables.specs.declared.declared.Fold.{Fold}
use Rattle.agg_tables.specs.declared.declared.TableMeasure.{TableMeasure}
use Rattle.agg_tables.specs.Bound.{AreFolds, IsPlaced}
use Rattle.agg_tables.specs.Tables.{fold_over, folds_of}
use Rattle.agg_tables.proofs.ColumnFacts.{can_be_loaded}

-- the folds of a table are of measures that it has, or of the first one
pub folds_measured : (n : ℕ) (measures : List TableMeasure) → 0 < n → list_all (λ (own : TableMeasure). nat_lt own.measure n) measures ≡ true
    → list_all (λ (fold : Fold). nat_lt fold.measure n) (folds_of measures) ≡ true
folds_measured n measures some all = by measures all
  where
    each : (ms : List TableMeasure) → list_all (λ (own : TableMeasure). nat_lt own.measure n) ms ≡ true
        → list_all (λ (fold : Fold). nat_lt fold.measure n) (map (λ (own : TableMeasure). record { measure = own.measure; aggregator = own.aggregator }) ms) ≡ true
    each [] all = refl
    each (m ∷ ms) all =
        let parts = and_parts (nat_lt m.measure n) (list_all (λ (own : TableMeasure). nat_lt own.measure n) ms) all in
        and_from _ _ parts.0 (each ms parts.1)

    by : (ms : List TableMeasure) → list_all (λ (own : TableMeasure). nat_lt own.measure n) ms ≡ true → list_all (λ (fold : Fold). nat_lt fold.measure n) (folds_of ms) ≡ true
    by [] all = and_from _ _ (lt-ltb 0 n some) refl
    by (m ∷ ms) all = each (m ∷ ms) all

-- so they are of measures of its cube
pub folds_known : (catalog : Catalog) (declared : Declared) → IsPlaced catalog declared → AreFolds catalog declared (folds_of declared.measures)
folds_known catalog declared placed = record { cube = placed.cube; known = placed.known; measured = folds_measured (length placed.cube.measures) declared.measures placed.some placed.measured }

-- a body of no row, with some rows
pub rows_over : (catalog : Catalog) (declared : Declared) (rows : List Row) (folds : List Fold) → map (with_rows catalog rows) (map (fold_over catalog declared []) folds) ≡ map (fold_over catalog declared rows) folds
rows_over catalog declared rows [] = refl
rows_over catalog declared rows (fold ∷ folds) = ap (λ (rest : List BodyOf). fold_over catalog declared rows fold ∷ rest) (rows_over catalog declared rows folds)

measured_at : (n : ℕ) (folds : List Fold) (k : ℕ) (d : Fold) → list_all (λ (fold : Fold). nat_lt fold.measure n) folds ≡ true → k < length folds → (get_or folds k d).measure < n
measured_at n [] k d all within = absurd (omega arith)
measured_at n (fold ∷ folds) zero d all within = ltb-true fold.measure n (and_parts (nat_lt fold.measure n) (list_all (λ (fold : Fold). nat_lt fold.measure n) folds) all).0
measured_at n (fold ∷ folds) (suc k) d all within = measured_at n folds k d (and_parts (nat_lt fold.measure n) (list_all (λ (fold : Fold). nat_lt fold.measure n) folds) all).1 (omega arith)

-- the bodies of folds can be loaded
pub bodies_loadable : (catalog : Catalog) (declared : Declared) (folds : List Fold) → IsPlaced catalog declared → AreFolds catalog declared folds
    → All (λ (body : BodyOf). IsTrue (is_loadable catalog body.header)) (map (fold_over catalog declared []) folds)
bodies_loadable catalog declared folds placed known =
    All-map (λ (body : BodyOf). IsTrue (is_loadable catalog body.header)) (fold_over catalog declared []) folds
    (λ k d within. can_be_loaded catalog declared placed.cube (get_or folds k d).measure placed.known placed.own (measured_at (length placed.cube.measures) folds k d (same_cube known) within))
  where
    same_cube : AreFolds catalog declared folds → list_all (λ (fold : Fold). nat_lt fold.measure (length placed.cube.measures)) folds ≡ true
    same_cube k =
        let both : Some k.cube ≡ Some placed.cube = sym k.known ∙ placed.known in
        let same : k.cube ≡ placed.cube = cc in
        rw (← same) k.measured
