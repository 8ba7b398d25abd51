-- A file has no fault exactly where its records are the groups of the fact rows, in some order.
use Rattle.std.proofs.Common.{◌≡◌, ◌∙◌, ◌⊎◌, ◌<◌, ◌≤◌, ℕ, zero, suc, pos, Bool, true, false, not, ◌&&◌, List, [], ◌∷◌, ◌++◌, Option, None, Some, All, Contains, length, map, filter, filter_map, bytes_eq, is_some, nat_lt, refl, sym, subst, arith, inl, inr}
use Rattle.std.specs.Prelude.{IsTrue}
use Rattle.std.specs.List.{AllByRecursion, IsDistinct, list_any, remove}
use Rattle.std.specs.List.Sorted.{IsPermutation}
use Rattle.std.specs.Option.{option_or}
use Rattle.std.proofs.lemmas.Bool.{and_parts, cases_Bool, le-ltb, ltb-false}
use Rattle.std.proofs.lemmas.Bool.Decides.{nat_tests}
use Rattle.std.proofs.lemmas.Cmp.{nat_list_eq_equiv}
use Rattle.std.proofs.lemmas.List.{append-nil, append_assoc, length-append}
use Rattle.std.proofs.lemmas.List.Elements.{All-cons, All-head, All-nil, All-tail}
use Rattle.std.proofs.lemmas.List.Sorted.{Contains-permutation, IsPermutation-cons, IsPermutation-refl, IsPermutation-remove, IsPermutation-sym, IsPermutation-trans, length_permutation}
use Rattle.std.proofs.lemmas.Map.Keys.{IsDistinct-cons, IsDistinct-head, IsDistinct-tail, IsDistinct-push, IsDistinct-IsPermutation}
use Rattle.std.proofs.lemmas.Map.Views.{list_any-from_Contains}
use Rattle.csv_records.specs.Files.{file_records}
use Rattle.olap_meaning.proofs.Appearances.{any-same}
use Rattle.olap_meaning.specs.Catalog.{first_appearances}
use Rattle.olap_meaning.specs.Records.{field_in, header_of, is_csv, records_of}
use Rattle.olap_meaning.specs.declared.CellValue.TheVariants.{Whole}
use Rattle.olap_meaning.specs.declared.tables.Catalog.{Catalog}
use Rattle.olap_meaning.specs.declared.tables.Row.{Row}
use Rattle.olap_meaning.proofs.Lists.{same_text}
use Rattle.olap_meaning.proofs.Different.{appearances_differ, contained, filter_distinct, later_differs, no_more, nothing_distinct, same_texts, seen_in}
use Rattle.agg_tables.specs.declared.declared.Declared.{Declared}
use Rattle.agg_tables.specs.declared.declared.FileColumn.{FileColumn}
use Rattle.agg_tables.specs.declared.declared.TableLevel.{TableLevel}
use Rattle.agg_tables.specs.declared.fault.AggFault.TheVariants.{NotCsv, UnknownValue, GroupTwice, GroupMissing}
use Rattle.agg_tables.specs.Files.{computed, count_fault, differs, file_columns, file_fault, group_fault, group_rows, header_fault, level_fault, level_value, number_fault, record_values, records_fault, row_fault, says, twice_fault}
use Rattle.agg_tables.specs.RightFiles.{IsGroupRecord, IsRightFile, RightFilesHaveNoFault, record_rows}
use Rattle.agg_tables.specs.Tables.{groups_over, table_values}

-- where neither of two faults is there, each is none
neither : {A : Type 0} (first rest : Option A) → option_or first rest ≡ None → (first ≡ None) × (rest ≡ None)
neither None rest h = (refl, h)
neither (Some e) rest h = absurd (cc)

one_more : (n : ℕ) → nat_lt 0 (suc n) ≡ true
one_more n = grind (arith, nat_tests)

-- a text among some and one more is among these or the one
pushed_in : (xs : List (List ℕ)) (y z : List ℕ) → Contains (xs ++ y ∷ []) z → Contains xs z ⊎ (z ≡ y)
pushed_in [] y z (zero, within, is) = inr (sym is)
pushed_in [] y z (suc k, within, is) = absurd (omega (arith, within))
pushed_in (x ∷ xs) y z (zero, within, is) = inl (zero, omega arith, is)
pushed_in (x ∷ xs) y z (suc k, within, is) = elim (pushed_in xs y z (k, omega (arith, within), is)) [
  | inl before ↦ inl (suc before.0, omega (arith, before.1), before.2)
  | inr same ↦ inr same
]

-- a text in the middle of different ones is none of those before it
before_differs : (xs ys : List (List ℕ)) (y : List ℕ) → IsDistinct bytes_eq (xs ++ y ∷ ys) → list_any (bytes_eq y) xs ≡ false
before_differs [] ys y different = refl
before_differs (x ∷ xs) ys y different =
    let here : bytes_eq y x ≡ false = nat_list_eq_equiv.symm y x ∙ middle xs (IsDistinct-head bytes_eq x (xs ++ y ∷ ys) different) in
    rw here (before_differs xs ys y (IsDistinct-tail bytes_eq x (xs ++ y ∷ ys) different))
  where
    middle : (zs : List (List ℕ)) → AllByRecursion (λ z. bytes_eq x z ≡ false) (zs ++ y ∷ ys) → bytes_eq x y ≡ false
    middle [] each = each.0
    middle (z ∷ zs) each = middle zs each.1

module _ (catalog : Catalog) (declared : Declared) (header : List (List ℕ)) (rows : List Row) where
  abbrev Own : List (List ℕ) → Type 0
  Own = IsGroupRecord catalog declared header rows

  abbrev values_of : List (List ℕ) → List ℕ
  values_of = record_values catalog declared header

  abbrev own_rows : List (List ℕ) → List Row
  own_rows = record_rows catalog declared header rows

  abbrev HasRows : List (List ℕ) → Type 0
  HasRows row = nat_lt 0 (length (own_rows row)) ≡ true

  -- a group is one of some rows where one of them has its values
  any_row : (values : List ℕ) (left : List Row) → list_any (bytes_eq values) (filter_map (table_values catalog declared) left) ≡ nat_lt 0 (length (group_rows catalog declared left values))
  any_row values [] = refl
  any_row values (row ∷ left) = by (any_row values left) (table_values catalog declared row) refl
    where
      by : list_any (bytes_eq values) (filter_map (table_values catalog declared) left) ≡ nat_lt 0 (length (group_rows catalog declared left values))
          → (o : Option (List ℕ)) → table_values catalog declared row ≡ o
          → list_any (bytes_eq values) (filter_map (table_values catalog declared) (row ∷ left)) ≡ nat_lt 0 (length (group_rows catalog declared (row ∷ left) values))
      by rest None e = rw e rest
      by rest (Some own) e = elim (cases_Bool (bytes_eq values own)) [
        | inl same ↦ rw (e, same) (sym (one_more (length (group_rows catalog declared left values))))
        | inr other ↦ rw (e, other) rest
      ]

  is_group : (values : List ℕ) → list_any (bytes_eq values) (groups_over catalog declared rows) ≡ nat_lt 0 (length (group_rows catalog declared rows values))
  is_group values = any-same (bytes_eq values) (filter_map (table_values catalog declared) rows) ∙ any_row values rows

  module _ (n : ℕ) (row : List (List ℕ)) where
    abbrev IsKnown : TableLevel → Type 0
    IsKnown level = IsTrue (is_some (level_value catalog header row level))

    levels_known : (levels : List TableLevel) → level_fault catalog header n row levels ≡ None → All IsKnown levels
    levels_known [] h = All-nil IsKnown
    levels_known (level ∷ levels) h = elim (cases_Bool (is_some (level_value catalog header row level))) [
      | inl known ↦ All-cons IsKnown level levels known (levels_known levels (rw known at h))
      | inr unknown ↦ let bad : Some (UnknownValue n level.name) ≡ None = rw unknown at h in absurd (cc)
    ]

    no_level : (levels : List TableLevel) → All IsKnown levels → level_fault catalog header n row levels ≡ None
    no_level [] each = refl
    no_level (level ∷ levels) each = rw (All-head IsKnown level levels each) (no_level levels (All-tail IsKnown level levels each))

    abbrev Says : List Row → FileColumn → Type 0
    Says group column = IsTrue (says (computed catalog declared group column) (field_in header column.name row))

    numbers_said : (group : List Row) (columns : List FileColumn) → number_fault catalog declared header n row group columns ≡ None → All (Says group) columns
    numbers_said group [] h = All-nil (Says group)
    numbers_said group (column ∷ columns) h = elim (cases_Bool (says (computed catalog declared group column) (field_in header column.name row))) [
      | inl said ↦ All-cons (Says group) column columns said (numbers_said group columns (rw said at h))
      | inr other ↦ let bad : Some (differs header n row column.name (computed catalog declared group column)) ≡ None = rw other at h in absurd (cc)
    ]

    no_number : (group : List Row) (columns : List FileColumn) → All (Says group) columns → number_fault catalog declared header n row group columns ≡ None
    no_number group [] each = refl
    no_number group (column ∷ columns) each = rw (All-head (Says group) column columns each) (no_number group columns (All-tail (Says group) column columns each))

    counted : (count : ℕ) → count_fault declared header n row count ≡ None → (nat_lt 0 count ≡ true) × (says (Whole (pos count)) (field_in header declared.fact_count row) ≡ true)
    counted count h = elim (cases_Bool (nat_lt 0 count && says (Whole (pos count)) (field_in header declared.fact_count row))) [
      | inl both ↦ and_parts (nat_lt 0 count) _ both
      | inr other ↦ let bad : Some (differs header n row declared.fact_count (Whole (pos count))) ≡ None = rw other at h in absurd (cc)
    ]

    once : (seen : List (List ℕ)) (values : List ℕ) → twice_fault n seen values ≡ None → list_any (bytes_eq values) seen ≡ false
    once seen values h = elim (cases_Bool (list_any (bytes_eq values) seen)) [
      | inl twice ↦ let bad : Some (GroupTwice n) ≡ None = rw twice at h in absurd (cc)
      | inr is ↦ is
    ]

    -- a record without a fault is one of a group that has rows and no earlier record
    record_right : (seen : List (List ℕ)) → row_fault catalog declared header rows n seen row ≡ None → Own row × HasRows row × (list_any (bytes_eq (values_of row)) seen ≡ false)
    record_right seen h = elim (cases_Bool (is_csv header row)) [
      | inl csv ↦
          let told : option_or (level_fault catalog header n row declared.levels) (option_or (twice_fault n seen (values_of row)) (group_fault catalog declared header n row (own_rows row))) ≡ None = rw csv at h in
          let levels = neither (level_fault catalog header n row declared.levels) _ told in
          let group = neither (twice_fault n seen (values_of row)) (group_fault catalog declared header n row (own_rows row)) levels.1 in
          let numbers = neither (count_fault declared header n row (length (own_rows row))) _ group.1 in
          let count = counted (length (own_rows row)) numbers.0 in
          (record { csv = csv; known = levels_known declared.levels levels.0; count = count.1; numbers = numbers_said (own_rows row) (file_columns declared.measures) numbers.1 }, count.0, once seen (values_of row) group.0)
      | inr other ↦ let bad : Some (NotCsv n) ≡ None = rw other at h in absurd (cc)
    ]

    record_faultless : (seen : List (List ℕ)) → Own row → HasRows row → list_any (bytes_eq (values_of row)) seen ≡ false → row_fault catalog declared header rows n seen row ≡ None
    record_faultless seen own some new =
        let levels = no_level declared.levels own.known in
        let numbers = no_number (own_rows row) (file_columns declared.measures) own.numbers in
        rw (own.csv, levels, new, some, own.count, numbers) refl

  -- values that were seen are different, and those of groups
  pub record AreSeen (seen : List (List ℕ)) : Type 0 where
    pub different : IsDistinct bytes_eq seen
    pub known : (values : List ℕ) → Contains seen values → Contains (groups_over catalog declared rows) values

  pub none_seen : AreSeen []
  none_seen = record { different = nothing_distinct; known = λ values at. absurd (omega (arith, at.1)) }

  -- of one more record without a fault too
  pub more_seen : (n : ℕ) (seen : List (List ℕ)) (row : List (List ℕ)) → AreSeen seen → row_fault catalog declared header rows n seen row ≡ None → AreSeen (seen ++ values_of row ∷ [])
  more_seen n seen row are none =
      let one = record_right n row seen none in
      record {
        different = IsDistinct-push nat_list_eq_equiv seen (values_of row) are.different one.2;
        known = λ values at. elim (pushed_in seen (values_of row) values at) [
          | inl before ↦ are.known values before
          | inr same ↦ rw same (contained (values_of row) (groups_over catalog declared rows) (is_group (values_of row) ∙ one.1))
        ];
      }

  -- there are no more of them than groups
  few_seen : (seen : List (List ℕ)) → AreSeen seen → length seen ≤ length (groups_over catalog declared rows)
  few_seen seen are = no_more seen (groups_over catalog declared rows) are.different are.known

  -- so one more record without a fault leaves them within a limit of the groups
  pub room_for : (n limit : ℕ) (seen : List (List ℕ)) (row : List (List ℕ)) → AreSeen seen → row_fault catalog declared header rows n seen row ≡ None → length (groups_over catalog declared rows) ≤ limit → length seen < limit
  room_for n limit seen row are none within =
      let few = few_seen (seen ++ values_of row ∷ []) (more_seen n seen row are none) in
      let longer = length-append seen (values_of row ∷ []) in
      omega (arith, few, longer, within)

  -- what is known of records without a fault after some that were seen
  record AreRight (seen : List (List ℕ)) (records : List (List (List ℕ))) : Type 0 where
    each : All Own records
    some : All HasRows records
    different : IsDistinct bytes_eq (seen ++ map values_of records)
    enough : length (groups_over catalog declared rows) ≤ length (seen ++ map values_of records)

  pushed : (seen : List (List ℕ)) (row : List (List ℕ)) (records : List (List (List ℕ))) → (seen ++ values_of row ∷ []) ++ map values_of records ≡ seen ++ map values_of (row ∷ records)
  pushed seen row records = append_assoc seen (values_of row ∷ []) (map values_of records)

  records_right : (seen : List (List ℕ)) (records : List (List (List ℕ))) → IsDistinct bytes_eq seen → records_fault catalog declared header rows seen records ≡ None → AreRight seen records
  records_right seen [] different h = elim (cases_Bool (nat_lt (length seen) (length (groups_over catalog declared rows)))) [
    | inl few ↦ let bad : Some (GroupMissing (length seen) (length (groups_over catalog declared rows))) ≡ None = rw few at h in absurd (cc)
    | inr enough ↦ record {
      each = All-nil Own;
      some = All-nil HasRows;
      different = subst (IsDistinct bytes_eq) (sym (append-nil seen)) different;
      enough = rw (append-nil seen) (ltb-false (length seen) _ enough);
    }
  ]
  records_right seen (row ∷ records) different h =
      let parts = neither (row_fault catalog declared header rows (suc (length seen)) seen row) _ h in
      let one = record_right (suc (length seen)) row seen parts.0 in
      let rest : AreRight (seen ++ values_of row ∷ []) records = records_right (seen ++ values_of row ∷ []) records (IsDistinct-push nat_list_eq_equiv seen (values_of row) different one.2) parts.1 in
      record {
        each = All-cons Own row records one.0 rest.each;
        some = All-cons HasRows row records one.1 rest.some;
        different = subst (IsDistinct bytes_eq) (pushed seen row records) rest.different;
        enough = subst (λ (l : List (List ℕ)). length (groups_over catalog declared rows) ≤ length l) (pushed seen row records) rest.enough;
      }

  records_faultless : (seen : List (List ℕ)) (records : List (List (List ℕ))) → AreRight seen records → records_fault catalog declared header rows seen records ≡ None
  records_faultless seen [] are =
      let enough : nat_lt (length seen) (length (groups_over catalog declared rows)) ≡ false = le-ltb (length seen) _ (rw (append-nil seen) at are.enough) in
      rw enough refl
  records_faultless seen (row ∷ records) are =
      let new = before_differs seen (map values_of records) (values_of row) are.different in
      let one = record_faultless (suc (length seen)) row seen (All-head Own row records are.each) (All-head HasRows row records are.some) new in
      let back = sym (pushed seen row records) in
      rw one (records_faultless (seen ++ values_of row ∷ []) records (record {
        each = All-tail Own row records are.each;
        some = All-tail HasRows row records are.some;
        different = subst (IsDistinct bytes_eq) back are.different;
        enough = subst (λ (l : List (List ℕ)). length (groups_over catalog declared rows) ≤ length l) back are.enough;
      }))

  -- the values of each record are those of a group
  of_groups : (records : List (List (List ℕ))) (values : List ℕ) → All HasRows records → Contains (map values_of records) values → Contains (groups_over catalog declared rows) values
  of_groups [] values some at = absurd (omega (arith, at.1))
  of_groups (row ∷ records) values some (zero, within, is) =
      subst (Contains (groups_over catalog declared rows)) is
      (contained (values_of row) (groups_over catalog declared rows) (is_group (values_of row) ∙ All-head HasRows row records some))
  of_groups (row ∷ records) values some (suc k, within, is) = of_groups records values (All-tail HasRows row records some) (k, omega (arith, within), is)

  have_rows : (records : List (List (List ℕ))) → ((values : List ℕ) → Contains (map values_of records) values → Contains (groups_over catalog declared rows) values) → All HasRows records
  have_rows [] each = All-nil HasRows
  have_rows (row ∷ records) each =
      All-cons HasRows row records
      (sym (is_group (values_of row)) ∙ seen_in (values_of row) (groups_over catalog declared rows) (each (values_of row) (zero, omega arith, refl)))
      (have_rows records (λ values at. each values (suc at.0, omega (arith, at.1), at.2)))

pub right_files : RightFilesHaveNoFault
right_files = record { right = right; faultless = faultless }
  where
    right : (catalog : Catalog) (declared : Declared) (bytes : List ℕ) (rows : List Row) → file_fault catalog bytes rows declared ≡ None → IsRightFile catalog declared bytes rows
    right catalog declared bytes rows h =
        let header = header_of (file_records bytes) in
        let records = records_of (file_records bytes) in
        let parts = neither (header_fault declared header) (records_fault catalog declared header rows [] records) h in
        let are : AreRight catalog declared header rows [] records = records_right catalog declared header rows [] records nothing_distinct parts.1 in
        record {
          header = parts.0;
          groups = same_texts (map (record_values catalog declared header) records) (groups_over catalog declared rows) are.different (λ values at. of_groups catalog declared header rows records values are.some at) are.enough;
          records = are.each;
        }

    faultless : (catalog : Catalog) (declared : Declared) (bytes : List ℕ) (rows : List Row) → IsRightFile catalog declared bytes rows → file_fault catalog bytes rows declared ≡ None
    faultless catalog declared bytes rows is =
        let header = header_of (file_records bytes) in
        let records = records_of (file_records bytes) in
        let values = map (record_values catalog declared header) records in
        let groups = groups_over catalog declared rows in
        let some = have_rows catalog declared header rows records (λ own at. Contains-permutation values groups own (IsPermutation-sym groups values is.groups) at) in
        let different = IsDistinct-IsPermutation bytes_eq nat_list_eq_equiv.symm groups values is.groups (appearances_differ _) in
        let long : length values ≡ length groups = length_permutation groups values is.groups in
        rw is.header (records_faultless catalog declared header rows [] records (record { each = is.records; some = some; different = different; enough = omega (arith, long) }))
