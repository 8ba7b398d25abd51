-- The columns of a table rise, and its headers can be loaded.
use Rattle.std.proofs.Common.{◌≡◌, ◌∙◌, ◌<◌, ◌==◌, ℕ, zero, suc, Bool, true, false, List, [], ◌∷◌, ◌++◌, Option, Some, length, map, refl, ap, arith, inl, inr, if◌then◌else◌}
use Rattle.std.specs.Prelude.{IsTrue, nat_lt, option_and_then, slice_get}
use Rattle.std.specs.List.{list_all}
use Rattle.std.proofs.lemmas.Bool.{and_from, and_parts, cases_Bool, eqb-true}
use Rattle.std.proofs.lemmas.Bool.Decides.{nat_tests}
use Rattle.std.proofs.lemmas.List.Folds.{list_all-append}
use Rattle.std.proofs.lemmas.Option.{slice_get-get_or}
use Rattle.olap_meaning.specs.declared.cells.Allowed.{Allowed}
use Rattle.olap_meaning.specs.declared.cells.Allowed.TheVariants.{Any}
use Rattle.olap_meaning.specs.declared.tables.Catalog.{Catalog}
use Rattle.olap_meaning.specs.declared.tables.Cube.{Cube}
use Rattle.olap_meaning.specs.declared.tables.Measure.{Measure}
use Rattle.olap_meaning.specs.History.{is_some_and}
use Rattle.olap_meaning.specs.Legal.{is_column_of, rise}
use Rattle.segment_header.specs.Headers.{is_header, is_set}
use Rattle.fact_reader.specs.BodyRows.{header_measure, is_loadable}
use Rattle.agg_tables.specs.declared.declared.Declared.{Declared}
use Rattle.agg_tables.specs.declared.declared.TableLevel.{TableLevel}
use Rattle.agg_tables.specs.Declarations.{columns_below, has_column}
use Rattle.agg_tables.specs.Tables.{table_columns, table_header}

lt_suc : (a b : ℕ) → nat_lt a b ≡ true → nat_lt a (suc b) ≡ true
lt_suc a b h = grind (arith, nat_tests)

lt_own : (a : ℕ) → nat_lt a (suc a) ≡ true
lt_own a = grind (arith, nat_tests)

-- each column is below the number
pub are_below : (levels : List TableLevel) (n : ℕ) → list_all (λ c. nat_lt c n) (columns_below levels n) ≡ true
are_below levels zero = refl
are_below levels (suc n) =
    list_all-append (λ c. nat_lt c (suc n)) (columns_below levels n) (if has_column levels n then n ∷ [] else [])
    ∙ and_from _ _ (wider (columns_below levels n) (are_below levels n)) (last (has_column levels n))
  where
    wider : (xs : List ℕ) → list_all (λ c. nat_lt c n) xs ≡ true → list_all (λ c. nat_lt c (suc n)) xs ≡ true
    wider [] h = refl
    wider (x ∷ xs) h = let parts = and_parts (nat_lt x n) (list_all (λ c. nat_lt c n) xs) h in and_from _ _ (lt_suc x n parts.0) (wider xs parts.1)

    last : (b : Bool) → list_all (λ c. nat_lt c (suc n)) (if b then n ∷ [] else []) ≡ true
    last true = and_from _ _ (lt_own n) refl
    last false = refl

rise_more : (xs : List ℕ) (n : ℕ) → rise xs ≡ true → list_all (λ c. nat_lt c n) xs ≡ true → rise (xs ++ n ∷ []) ≡ true
rise_more [] n up below = refl
rise_more (x ∷ xs) n up below =
    let ups = and_parts (list_all (nat_lt x) xs) (rise xs) up in
    let belows = and_parts (nat_lt x n) (list_all (λ c. nat_lt c n) xs) below in
    and_from _ _ (list_all-append (nat_lt x) xs (n ∷ []) ∙ and_from _ _ ups.0 (and_from _ _ belows.0 refl)) (rise_more xs n ups.1 belows.1)

pub columns_rise : (levels : List TableLevel) (n : ℕ) → rise (columns_below levels n) ≡ true
columns_rise levels zero = refl
columns_rise levels (suc n) = by (has_column levels n) (columns_rise levels n)
  where
    nil : (xs : List ℕ) → xs ++ [] ≡ xs
    nil [] = refl
    nil (x ∷ xs) = ap (λ (ys : List ℕ). x ∷ ys) (nil xs)

    by : (b : Bool) → rise (columns_below levels n) ≡ true → rise (columns_below levels n ++ (if b then n ∷ [] else [])) ≡ true
    by true up = rise_more (columns_below levels n) n up (are_below levels n)
    by false up = rw (nil (columns_below levels n)) up

firsts : (columns : List ℕ) → map (λ (own : ℕ × Allowed). own.0) (map (λ column. (column, Any)) columns) ≡ columns
firsts [] = refl
firsts (c ∷ cs) = ap (λ (ds : List ℕ). c ∷ ds) (firsts cs)

any_sets : (columns : List ℕ) → list_all (λ (own : ℕ × Allowed). is_set own.1) (map (λ column. (column, Any)) columns) ≡ true
any_sets [] = refl
any_sets (c ∷ cs) = any_sets cs

pub is_formed : (catalog : Catalog) (declared : Declared) (measure : ℕ) → IsTrue (is_header (table_header catalog declared measure))
is_formed catalog declared measure =
    and_from _ _ (ap rise (firsts (columns_below declared.levels (length catalog.columns))) ∙ columns_rise declared.levels (length catalog.columns)) (any_sets (columns_below declared.levels (length catalog.columns)))

-- a column of a level passes what all columns of levels pass
level_passes : (q : ℕ → Bool) (levels : List TableLevel) (column : ℕ) → list_all (λ level. q level.column) levels ≡ true → has_column levels column ≡ true → q column ≡ true
level_passes q [] column all there = absurd (cc)
level_passes q (level ∷ levels) column all there =
    let parts = and_parts (q level.column) (list_all (λ level. q level.column) levels) all in
    elim (cases_Bool (level.column == column)) [
      | inl same ↦ rw (← eqb-true level.column column same) parts.0
      | inr other ↦ level_passes q levels column parts.1 (rw other at there)
    ]

-- so do all columns
pub columns_pass : (q : ℕ → Bool) (levels : List TableLevel) (n : ℕ) → list_all (λ level. q level.column) levels ≡ true → list_all q (columns_below levels n) ≡ true
columns_pass q levels zero all = refl
columns_pass q levels (suc n) all =
    list_all-append q (columns_below levels n) (if has_column levels n then n ∷ [] else [])
    ∙ and_from _ _ (columns_pass q levels n all) (last (has_column levels n) refl)
  where
    last : (b : Bool) → has_column levels n ≡ b → list_all q (if b then n ∷ [] else []) ≡ true
    last true e = and_from _ _ (level_passes q levels n all e) refl
    last false e = refl

paired_pass : (q : ℕ → Bool) (columns : List ℕ) → list_all q columns ≡ true → list_all (λ (own : ℕ × Allowed). q own.0) (map (λ column. (column, Any)) columns) ≡ true
paired_pass q [] all = refl
paired_pass q (c ∷ cs) all = let parts = and_parts (q c) (list_all q cs) all in and_from _ _ parts.0 (paired_pass q cs parts.1)

pub can_be_loaded : (catalog : Catalog) (declared : Declared) (cube : Cube) (measure : ℕ) → slice_get catalog.cubes declared.cube ≡ Some cube
    → list_all (λ level. is_column_of catalog cube.dimensions level.column) declared.levels ≡ true → measure < length cube.measures → IsTrue (is_loadable catalog (table_header catalog declared measure))
can_be_loaded catalog declared cube measure known own within = and_from _ _ measured columned
  where
    there : (o : Option Measure) (m : Measure) → o ≡ Some m → is_some_and (λ (own : Measure). true) o ≡ true
    there o m e = rw e refl

    measured : is_some_and (λ (own : Measure). true) (header_measure catalog (table_header catalog declared measure)) ≡ true
    measured = by cube.measures within (ap (λ (o : Option Cube). option_and_then (λ (c : Cube). slice_get c.measures measure) o) known)
      where
        by : (ms : List Measure) → measure < length ms → header_measure catalog (table_header catalog declared measure) ≡ slice_get ms measure → is_some_and (λ (own : Measure). true) (header_measure catalog (table_header catalog declared measure)) ≡ true
        by [] lt e = absurd (omega arith)
        by (m ∷ ms) lt e = there _ _ (e ∙ slice_get-get_or (m ∷ ms) measure m lt)

    columned : is_some_and (λ (c : Cube). list_all (λ column. is_column_of catalog c.dimensions column.0) (table_columns catalog declared)) (slice_get catalog.cubes declared.cube) ≡ true
    columned = rw known (paired_pass (is_column_of catalog cube.dimensions) (columns_below declared.levels (length catalog.columns)) (columns_pass (is_column_of catalog cube.dimensions) declared.levels (length catalog.columns) own))
