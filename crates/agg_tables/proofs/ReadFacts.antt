-- What the fields of a record say on a table's columns.
use Rattle.std.proofs.Common.{◌≡◌, ◌∙◌, ◌⊎◌, ◌<◌, ◌+◌, ◌==◌, ℕ, zero, suc, Bool, true, false, List, [], ◌∷◌, ◌++◌, Option, None, Some, find, filter_map, length, length-append, map, take, drop, get_or, option_map, refl, sym, ap, arith, inl, inr, if◌then◌else◌}
use Rattle.std.specs.Prelude.{nat_lt, is_some, option_and_then, option_to_list, position, slice_get, slice_index_or}
use Rattle.std.specs.List.{list_all, list_any, position_or_len}
use Rattle.std.proofs.lemmas.Bool.{and_from, cases_Bool, lt-ltb}
use Rattle.std.proofs.lemmas.List.{map-append}
use Rattle.std.proofs.lemmas.List.Elements.{filter_map-append}
use Rattle.std.proofs.lemmas.List.Folds.{find_at, list_all-append}
use Rattle.std.proofs.lemmas.List.Quantifiers.{position-Some}
use Rattle.std.proofs.lemmas.List.Sums.{position_or_len_is}
use Rattle.std.proofs.lemmas.Option.{slice_get_within}
use Rattle.catalog_tables.proofs.FieldFacts.{position_within}
use Rattle.olap_meaning.specs.declared.tables.Catalog.{Catalog}
use Rattle.olap_meaning.specs.declared.tables.Column.{Column}
use Rattle.olap_meaning.specs.declared.tables.Cube.{Cube}
use Rattle.olap_meaning.specs.Covering.{among}
use Rattle.olap_meaning.specs.Legal.{is_column_of}
use Rattle.olap_meaning.specs.Records.{column_place}
use Rattle.olap_meaning.proofs.Lists.{drop_step, item_there, mapped_from, position_there, take_step}
use Rattle.olap_meaning.proofs.Loads.{some_and}
use Rattle.segment_header.proofs.RiseFacts.{all_at}
use Rattle.agg_tables.specs.declared.declared.Declared.{Declared}
use Rattle.agg_tables.specs.declared.declared.FileColumn.{FileColumn}
use Rattle.agg_tables.specs.declared.declared.Fold.{Fold}
use Rattle.agg_tables.specs.declared.declared.TableLevel.{TableLevel}
use Rattle.agg_tables.specs.declared.fault.AggFault.{AggFault}
use Rattle.agg_tables.specs.declared.fault.AggFault.TheVariants.{UnknownValue, OutOfMemory as NoMemory}
use Rattle.agg_tables.specs.Declarations.{columns_below, has_column}
use Rattle.agg_tables.specs.Files.{column_value, level_fault, level_value}
use Rattle.agg_tables.specs.Places.{AreNumbersPlaced, AreSummed, chosen, order_below}

-- what two lists give item by item
pub paired_at : {A B C : Type 0} (g : A → C) (f : B → C) (xs : List A) (ys : List B) (k : ℕ) (x : A) → map g xs ≡ map f ys → k < length ys → x ≡ get_or xs k x → Some (g x) ≡ option_map f (slice_get ys k)
paired_at g f xs [] k x same within is = absurd (omega arith)
paired_at g f [] (y ∷ ys) k x same within is = absurd (cc)
paired_at g f (a ∷ xs) (y ∷ ys) zero x same within is = let here : g a ≡ f y = cc in rw is (ap (λ (c : _). Some c) here)
paired_at g f (a ∷ xs) (y ∷ ys) (suc k) x same within is = let rest : map g xs ≡ map f ys = cc in paired_at g f xs ys k x rest (omega arith) is

pub fold_there : (folds : List Fold) (columns : List FileColumn) (places : List ℕ) (j place : ℕ) → AreSummed folds columns places → j < length columns → place ≡ get_or places j place
    → slice_get folds place ≡ option_map (λ (column : FileColumn). column.fold) (slice_get columns j)
fold_there folds columns places j place summed within is = by (slice_get columns j) (paired_at (slice_get folds) (λ (column : FileColumn). Some column.fold) places columns j place summed within is)
  where
    by : (o : Option FileColumn) → Some (slice_get folds place) ≡ option_map (λ (column : FileColumn). Some column.fold) o → slice_get folds place ≡ option_map (λ (column : FileColumn). column.fold) o
    by None e = absurd (cc)
    by (Some column) e = cc

-- the place of a column of numbers
pub number_placed : (header : List (List ℕ)) (columns : List FileColumn) (places : List ℕ) (j place : ℕ) → AreNumbersPlaced header columns places → j < length columns → place ≡ get_or places j place
    → (column : FileColumn) × (slice_get columns j ≡ Some column) × (column_place column.name header ≡ Some place)
number_placed header columns places j place placed within is =
    let there = mapped_from (λ (column : FileColumn). column_place column.name header) (slice_get columns j) (Some place) (sym (paired_at (λ (p : ℕ). Some p) (λ (column : FileColumn). column_place column.name header) places columns j place placed within is)) in
    (there.0, there.1, there.2)

-- a level's column is one of the catalog's
pub level_there : (catalog : Catalog) (cube : Cube) (levels : List TableLevel) (k : ℕ) (level : TableLevel) → list_all (λ (l : TableLevel). is_column_of catalog cube.dimensions l.column) levels ≡ true → k < length levels → level ≡ get_or levels k level
    → level.column < length catalog.columns
level_there catalog cube levels k level own within is =
    let here : is_column_of catalog cube.dimensions level.column ≡ true = rw is (all_at (λ (l : TableLevel). is_column_of catalog cube.dimensions l.column) levels k level own within) in
    let there = some_and (λ (c : Column). among cube.dimensions c.dimension) (slice_get catalog.columns level.column) here in
    slice_get_within catalog.columns level.column there.0 there.1

-- the faults of the levels from a place on
pub levels_from : (catalog : Catalog) (header : List (List ℕ)) (n : ℕ) (row : List (List ℕ)) (levels : List TableLevel) (k : ℕ) (level : TableLevel) (o : Option ℕ) → k < length levels → level ≡ get_or levels k level → level_value catalog header row level ≡ o
    → level_fault catalog header n row (drop k levels) ≡ (if is_some o then level_fault catalog header n row (drop (k + 1) levels) else Some (UnknownValue n level.name))
levels_from catalog header n row levels k level o within is means = rw (drop_step levels k level within is, means) refl

-- the values of the levels, with one more
pub values_upto : (catalog : Catalog) (header row : List (List ℕ)) (levels : List TableLevel) (k v : ℕ) (level : TableLevel) (found : List ℕ) → k < length levels → level ≡ get_or levels k level → level_value catalog header row level ≡ Some v
    → map (λ (x : ℕ). Some x) found ≡ map (level_value catalog header row) (take k levels) → map (λ (x : ℕ). Some x) (found ++ v ∷ []) ≡ map (level_value catalog header row) (take (k + 1) levels)
values_upto catalog header row levels k v level found within is means so_far =
    map-append (λ (x : ℕ). Some x) found (v ∷ [])
    ∙ ap (λ (os : List (Option ℕ)). os ++ Some v ∷ []) so_far
    ∙ ap (λ (o : Option ℕ). map (level_value catalog header row) (take k levels) ++ o ∷ []) (sym means)
    ∙ sym (rw (take_step levels k level within is) (map-append (level_value catalog header row) (take k levels) (level ∷ [])))

-- the answer to an unknown value tells it, where there was memory for it
pub unknown_or_not : (answer fault : AggFault) (whole : Option AggFault) → whole ≡ Some fault → (answer ≡ fault) ⊎ (answer ≡ NoMemory) → (answer ≡ NoMemory) ⊎ (whole ≡ Some answer)
unknown_or_not answer fault whole is (inl told) = inr (rw (is, told) refl)
unknown_or_not answer fault whole is (inr none) = inl none

-- each place is that of a level
pub order_within : (levels : List TableLevel) (n : ℕ) → list_all (λ p. nat_lt p (length levels)) (order_below levels n) ≡ true
order_within levels zero = refl
order_within levels (suc n) =
    list_all-append (λ p. nat_lt p (length levels)) (order_below levels n) (option_to_list (position (λ (l : TableLevel). l.column == n) levels))
    ∙ and_from _ _ (order_within levels n) (last (position (λ (l : TableLevel). l.column == n) levels) refl)
  where
    last : (o : Option ℕ) → position (λ (l : TableLevel). l.column == n) levels ≡ o → list_all (λ p. nat_lt p (length levels)) (option_to_list o) ≡ true
    last None e = refl
    last (Some p) e = and_from _ _ (lt-ltb p (length levels) (position_within (λ (l : TableLevel). l.column == n) levels p e)) refl

pub chosen_next : (places found : List ℕ) (i place : ℕ) (values : List ℕ) → i < length places → place ≡ get_or places i place → values ≡ chosen (take i places) found → values ++ slice_index_or found place 0 ∷ [] ≡ chosen (take (i + 1) places) found
chosen_next places found i place values within is so_far =
    ap (λ (vs : List ℕ). vs ++ slice_index_or found place 0 ∷ []) so_far
    ∙ sym (rw (take_step places i place within is) (map-append (λ p. slice_index_or found p 0) (take i places) (place ∷ [])))

-- where a column's level stands, and what is found for it
record IsFound (levels : List TableLevel) (column : ℕ) : Type 0 where
  place : ℕ
  level : TableLevel
  at : position (λ (l : TableLevel). l.column == column) levels ≡ Some place
  there : find (λ (l : TableLevel). l.column == column) levels ≡ Some level
  stands : slice_get levels place ≡ Some level

column_found : (levels : List TableLevel) (column : ℕ) → has_column levels column ≡ true → IsFound levels column
column_found levels column some =
    let p = λ (l : TableLevel). l.column == column in
    let at = position_there p levels some in
    let here = item_there levels at.0 (position_within p levels at.0 at.1) in
    let first = position-Some p levels at.0 here.0 at.1 in
    let is : position_or_len p levels ≡ at.0 = position_or_len_is p levels at.0 here.0 (omega (arith, first.0)) first.2 (λ _. first.1) in
    record { place = at.0; level = here.0; at = at.1; there = find_at p levels ∙ ap (slice_get levels) is ∙ here.1; stands = here.1 }

any_there : {A : Type 0} (p : A → Bool) (xs : List A) (i : ℕ) (d : A) → i < length xs → p (get_or xs i d) ≡ true → list_any p xs ≡ true
any_there p [] i d within passes = absurd (omega arith)
any_there p (x ∷ xs) zero d within passes = rw passes refl
any_there p (x ∷ xs) (suc i) d within passes = elim (cases_Bool (p x)) [
  | inl first ↦ rw first refl
  | inr other ↦ rw other (any_there p xs i d (omega arith) passes)
]

no_position : (levels : List TableLevel) (column : ℕ) → has_column levels column ≡ false → position (λ (l : TableLevel). l.column == column) levels ≡ None
no_position levels column none = by (position (λ (l : TableLevel). l.column == column) levels) refl
  where
    by : (o : Option ℕ) → position (λ (l : TableLevel). l.column == column) levels ≡ o → o ≡ None
    by None e = refl
    by (Some i) e =
        let here = item_there levels i (position_within (λ (l : TableLevel). l.column == column) levels i e) in
        let first = position-Some (λ (l : TableLevel). l.column == column) levels i here.0 e in
        let both = any_there (λ (l : TableLevel). l.column == column) levels i here.0 first.0 first.1 in
        absurd (cc)

value_there : (f : TableLevel → Option ℕ) (levels : List TableLevel) (found : List ℕ) (p : ℕ) (level : TableLevel) → map (λ (x : ℕ). Some x) found ≡ map f levels → slice_get levels p ≡ Some level → f level ≡ Some (get_or found p 0)
value_there f [] found p level same at = absurd (cc)
value_there f (l ∷ levels) [] p level same at = absurd (cc)
value_there f (l ∷ levels) (x ∷ found) zero level same at =
    let first : Some x ≡ f l = cc in
    let is : l ≡ level = cc in
    rw (← is) (sym first)
value_there f (l ∷ levels) (x ∷ found) (suc p) level same at =
    let rest : map (λ (y : ℕ). Some y) found ≡ map f levels = cc in value_there f levels found p level rest at

-- the values of a record on the columns are those of the levels, in the order of the columns
pub ordered : (catalog : Catalog) (declared : Declared) (header row : List (List ℕ)) (found : List ℕ) (n : ℕ) → map (λ (x : ℕ). Some x) found ≡ map (level_value catalog header row) declared.levels
    → filter_map (column_value catalog declared header row) (columns_below declared.levels n) ≡ chosen (order_below declared.levels n) found
ordered catalog declared header row found zero same = refl
ordered catalog declared header row found (suc n) same =
    filter_map-append (column_value catalog declared header row) (columns_below declared.levels n) (if has_column declared.levels n then n ∷ [] else [])
    ∙ by (has_column declared.levels n) refl (ordered catalog declared header row found n same)
    ∙ sym (map-append (λ p. slice_index_or found p 0) (order_below declared.levels n) (option_to_list (position (λ (l : TableLevel). l.column == n) declared.levels)))
  where
    by : (b : Bool) → has_column declared.levels n ≡ b → filter_map (column_value catalog declared header row) (columns_below declared.levels n) ≡ chosen (order_below declared.levels n) found
        → filter_map (column_value catalog declared header row) (columns_below declared.levels n) ++ filter_map (column_value catalog declared header row) (if b then n ∷ [] else [])
        ≡ map (λ p. slice_index_or found p 0) (order_below declared.levels n) ++ map (λ p. slice_index_or found p 0) (option_to_list (position (λ (l : TableLevel). l.column == n) declared.levels))
    by false e rest = rw (rest, no_position declared.levels n e) refl
    by true e rest =
        let is = column_found declared.levels n e in
        let value = value_there (level_value catalog header row) declared.levels found is.place is.level same is.stands in
        let own : column_value catalog declared header row n ≡ Some (get_or found is.place 0) = ap (option_and_then (level_value catalog header row)) is.there ∙ value in
        rw (rest, is.at, own) refl

-- there are as many as columns
pub order_length : (levels : List TableLevel) (n : ℕ) → length (order_below levels n) ≡ length (columns_below levels n)
order_length levels zero = refl
order_length levels (suc n) =
    length-append (order_below levels n) (option_to_list (position (λ (l : TableLevel). l.column == n) levels))
    ∙ by (has_column levels n) refl (order_length levels n)
    ∙ sym (length-append (columns_below levels n) (if has_column levels n then n ∷ [] else []))
  where
    by : (b : Bool) → has_column levels n ≡ b → length (order_below levels n) ≡ length (columns_below levels n)
        → length (order_below levels n) + length (option_to_list (position (λ (l : TableLevel). l.column == n) levels)) ≡ length (columns_below levels n) + length (if b then n ∷ [] else [])
    by false e rest = rw (rest, no_position levels n e) refl
    by true e rest = let is = column_found levels n e in rw (rest, is.at) refl
