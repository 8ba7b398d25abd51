-- Where the columns of a table stand in a header, and in which folds they are summed up.
use Rattle.std.proofs.Common.{◌≡◌, ◌∙◌, ◌⊎◌, ◌<◌, ◌+◌, ℕ, zero, suc, Bool, true, false, List, [], ◌∷◌, ◌++◌, Option, None, Some, length, map, take, get_or, option_map, refl, sym, ap, arith, inl, inr, if◌then◌else◌}
use Rattle.std.specs.Prelude.{slice_get}
use Rattle.std.specs.List.{list_all}
use Rattle.std.specs.Option.{option_or, option_map_or}
use Rattle.std.proofs.lemmas.Bool.{and_from, and_parts}
use Rattle.std.proofs.lemmas.List.{map-append}
use Rattle.std.proofs.lemmas.List.Folds.{list_all-append}
use Rattle.csv_records.proofs.PlaceFacts.{missing_append}
use Rattle.olap_meaning.specs.declared.Aggregator.TheVariants.{Count, Sum}
use Rattle.olap_meaning.specs.Records.{column_place, is_csv, missing_column}
use Rattle.olap_meaning.specs.Whole.{is_average}
use Rattle.olap_meaning.proofs.Positions.{get-append}
use Rattle.olap_meaning.proofs.Lists.{take_step}
use Rattle.agg_tables.specs.declared.declared.Declared.{Declared}
use Rattle.agg_tables.specs.declared.declared.FileColumn.{FileColumn}
use Rattle.agg_tables.specs.declared.declared.Fold.{Fold}
use Rattle.agg_tables.specs.declared.declared.TableLevel.{TableLevel}
use Rattle.agg_tables.specs.declared.declared.TableMeasure.{TableMeasure}
use Rattle.agg_tables.specs.declared.fault.AggFault.{AggFault}
use Rattle.agg_tables.specs.declared.fault.AggFault.TheVariants.{NoColumn, OutOfMemory as NoMemory}
use Rattle.agg_tables.specs.Files.{columns_of, file_column, file_columns, header_fault}
use Rattle.agg_tables.specs.Places.{AreSummed}

-- what is wrong with a header of records
pub header_told : (declared : Declared) (header : List (List ℕ)) → is_csv header header ≡ true
    → header_fault declared header ≡ option_map NoColumn (option_or (missing_column (map (λ (level : TableLevel). level.name) declared.levels) header)
    (option_or (missing_column (declared.fact_count ∷ []) header) (missing_column (map (λ (column : FileColumn). column.name) (file_columns declared.measures)) header)))
header_told declared header csv =
    rw csv (ap (option_map NoColumn) (missing_append (map (λ (level : TableLevel). level.name) declared.levels) (declared.fact_count ∷ map (λ (column : FileColumn). column.name) (file_columns declared.measures)) header
    ∙ ap (λ (o : Option (List ℕ)). option_or (missing_column (map (λ (level : TableLevel). level.name) declared.levels) header) o) (missing_append (declared.fact_count ∷ []) (map (λ (column : FileColumn). column.name) (file_columns declared.measures)) header)))

-- a column that is missing among the first is the fault
pub first_missing : (whole : Option AggFault) (first others : Option (List ℕ)) (fault : AggFault) → whole ≡ option_map NoColumn (option_or first others) → (fault ≡ NoMemory) ⊎ (option_map NoColumn first ≡ Some fault)
    → (fault ≡ NoMemory) ⊎ (whole ≡ Some fault)
first_missing whole first others fault is (inl none) = inl none
first_missing whole None others fault is (inr told) = absurd (cc)
first_missing whole (Some name) others fault is (inr told) = inr (is ∙ told)

-- where none is missing among the first, the others tell
pub then_others : (whole : Option AggFault) (first others : Option (List ℕ)) → whole ≡ option_map NoColumn (option_or first others) → first ≡ None → whole ≡ option_map NoColumn others
then_others whole first others is none = rw none at is

pub last_missing : (whole : Option AggFault) (last : Option (List ℕ)) (fault : AggFault) → whole ≡ option_map NoColumn last → (fault ≡ NoMemory) ⊎ (option_map NoColumn last ≡ Some fault) → (fault ≡ NoMemory) ⊎ (whole ≡ Some fault)
last_missing whole last fault is (inl none) = inl none
last_missing whole last fault is (inr told) = inr (is ∙ told)

-- the one column is not missing where it has a place
pub one_there : (name : List ℕ) (header : List (List ℕ)) (place : ℕ) → column_place name header ≡ Some place → missing_column (name ∷ []) header ≡ None
one_there name header place at = rw at refl

-- the columns of a measure have its measure
pub columns_known : (test : ℕ → Bool) (measures : List TableMeasure) → list_all (λ (own : TableMeasure). test own.measure) measures ≡ true
    → list_all (λ (column : FileColumn). test column.fold.measure) (file_columns measures) ≡ true
columns_known test [] all = refl
columns_known test (own ∷ measures) all =
    let parts = and_parts (test own.measure) (list_all (λ (m : TableMeasure). test m.measure) measures) all in
    list_all-append (λ (column : FileColumn). test column.fold.measure) (columns_of own) (file_columns measures)
    ∙ and_from _ _ (by (is_average own.aggregator) own.count_column parts.0) (columns_known test measures parts.1)
  where
    counted : (o : Option (List ℕ)) → test own.measure ≡ true → list_all (λ (column : FileColumn). test column.fold.measure) (option_map_or (λ name. file_column name own.measure Count ∷ []) o []) ≡ true
    counted None is = refl
    counted (Some name) is = and_from _ _ is refl

    by : (b : Bool) (o : Option (List ℕ)) → test own.measure ≡ true
        → list_all (λ (column : FileColumn). test column.fold.measure) (if b then file_column own.column own.measure Sum ∷ option_map_or (λ name. file_column name own.measure Count ∷ []) o [] else file_column own.column own.measure own.aggregator ∷ []) ≡ true
    by true o is = and_from _ _ is (counted o is)
    by false o is = and_from _ _ is refl

-- what stands in a list stands in one that goes on from it
summed_more : (folds more : List Fold) (columns : List FileColumn) (places : List ℕ) → AreSummed folds columns places → AreSummed (folds ++ more) columns places
summed_more folds more [] [] same = refl
summed_more folds more [] (p ∷ ps) same = absurd (cc)
summed_more folds more (c ∷ cs) [] same = absurd (cc)
summed_more folds more (c ∷ cs) (p ∷ ps) same =
    let first : slice_get folds p ≡ Some c.fold = cc in
    let rest : AreSummed folds cs ps = cc in
    rw (get-append folds more p c.fold first, summed_more folds more cs ps rest) refl

-- a list that is as it was, or has one fold more
pub kept_summed : (old new : List Fold) (fold : Fold) (columns : List FileColumn) (places : List ℕ) → (new ≡ old) ⊎ (new ≡ old ++ fold ∷ []) → AreSummed old columns places → AreSummed new columns places
kept_summed old new fold columns places (inl same) summed = rw same summed
kept_summed old new fold columns places (inr more) summed = rw more (summed_more old (fold ∷ []) columns places summed)

take_more : {A : Type 0} (n : ℕ) (xs ys zs : List A) → take n xs ≡ zs → n ≡ length zs → take n (xs ++ ys) ≡ zs
take_more zero xs ys zs h e = h
take_more (suc n) [] ys [] h e = absurd (omega arith)
take_more (suc n) [] ys (z ∷ zs) h e = absurd (cc)
take_more (suc n) (x ∷ xs) ys [] h e = absurd (cc)
take_more (suc n) (x ∷ xs) ys (z ∷ zs) h e =
    let first : x ≡ z = cc in
    let rest : take n xs ≡ zs = cc in
    rw (first, take_more n xs ys zs rest (omega arith)) refl

pub kept_own : (old new own : List Fold) (fold : Fold) → (new ≡ old) ⊎ (new ≡ old ++ fold ∷ []) → take (length own) old ≡ own → take (length own) new ≡ own
kept_own old new own fold (inl same) kept = rw same kept
kept_own old new own fold (inr more) kept = rw more (take_more (length own) old (fold ∷ []) own kept refl)

pub kept_all : (test : Fold → Bool) (old new : List Fold) (fold : Fold) → (new ≡ old) ⊎ (new ≡ old ++ fold ∷ []) → list_all test old ≡ true → test fold ≡ true → list_all test new ≡ true
kept_all test old new fold (inl same) all one = rw same all
kept_all test old new fold (inr more) all one = rw more (list_all-append test old (fold ∷ []) ∙ and_from _ _ all (and_from _ _ one refl))

-- one column more
pub summed_next : (folds : List Fold) (columns : List FileColumn) (places : List ℕ) (i place : ℕ) (column : FileColumn) → i < length columns → column ≡ get_or columns i column
    → AreSummed folds (take i columns) places → slice_get folds place ≡ Some column.fold → AreSummed folds (take (i + 1) columns) (places ++ place ∷ [])
summed_next folds columns places i place column within is summed at =
    rw (take_step columns i column within is)
    (map-append (slice_get folds) places (place ∷ [])
    ∙ ap (λ (fs : List (Option Fold)). fs ++ slice_get folds place ∷ []) summed
    ∙ ap (λ (o : Option Fold). map (λ (c : FileColumn). Some c.fold) (take i columns) ++ o ∷ []) at
    ∙ sym (map-append (λ (c : FileColumn). Some c.fold) (take i columns) (column ∷ [])))
