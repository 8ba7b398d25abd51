-- The groups of rows, row by row.
use Rattle.std.proofs.Common.{◌≡◌, refl, sym, ◌∙◌, ap, ℕ, suc, add-one, sum_by, min, ◌+◌, ◌<◌, ◌≤◌, List, [], ◌∷◌, ◌++◌, length, take, Bool, true, false, cond, not, ◌&&◌, ◌||◌, Option, Some, None, bytes_eq, filter_map, flat_map, is_some, option_and_then, option_map, unwrap_or, get_or, take_all, arith}
use Rattle.std.specs.List.{list_all, list_any, cons_option}
use Rattle.std.proofs.lemmas.List.{append-nil, append_assoc, length-append}
use Rattle.std.proofs.lemmas.List.Elements.{filter_map-append}
use Rattle.std.proofs.lemmas.List.Folds.{list_any-append}
use Rattle.std.proofs.lemmas.Grind.{flat_map-append}
use Rattle.std.proofs.lemmas.List.Sums.{sum_by-append}
use Rattle.olap_meaning.specs.declared.cells.Allowed.{Allowed}
use Rattle.olap_meaning.specs.declared.cells.Header.{Header}
use Rattle.olap_meaning.specs.declared.tables.Catalog.{Catalog}
use Rattle.olap_meaning.specs.declared.tables.Row.{Row}
use Rattle.olap_meaning.specs.Budget.{row_values}
use Rattle.olap_meaning.specs.Catalog.{first_appearances}
use Rattle.olap_meaning.specs.History.{Entry, appended, is_some_and, kept, kept_loads, kept_up_to, rows_of, version}
use Rattle.olap_meaning.proofs.Appearances.{count_push}
use Rattle.olap_meaning.proofs.Lists.{take_step}
use Rattle.olap_meaning.proofs.Versions.{rows_stay, version-length}
use Rattle.olap_plain.specs.declared.entries.PlainEntry.{PlainEntry}
use Rattle.olap_plain.specs.Entries.{entries, entry_of}
use Rattle.olap_plain.specs.GroupTests.{adds_group, both_are, groups_of, have_same, value_in}
use Rattle.olap_plain.proofs.EntryFacts.{entries-length}
use Rattle.olap_plain.proofs.Fields.{any-filter_map}

-- a value before some others, where all are there
abbrev before : Option ℕ → Option (List ℕ) → Option (List ℕ)
before o os = option_and_then (λ value. option_map (λ values. value ∷ values) os) o

and-no : (b : Bool) → (b && false) ≡ false
and-no true = refl
and-no false = refl

-- two lists of values are there, and are the same
abbrev same : Option (List ℕ) → Option (List ℕ) → Bool
same xs ys = is_some_and (λ values. is_some_and (bytes_eq values) ys) xs

all-before : (o : Option ℕ) (os : Option (List ℕ)) → (is_some o && is_some os) ≡ is_some (before o os)
all-before None os = refl
all-before (Some x) None = refl
all-before (Some x) (Some xs) = refl

same-before : (a b : Option ℕ) (xs ys : Option (List ℕ)) → (both_are a b && same xs ys) ≡ same (before a xs) (before b ys)
same-before None b xs ys = refl
same-before (Some x) None None ys = refl
same-before (Some x) None (Some xs) ys = refl
same-before (Some x) (Some y) None ys = and-no (both_are (Some x) (Some y))
same-before (Some x) (Some y) (Some xs) None = and-no (both_are (Some x) (Some y))
same-before (Some x) (Some y) (Some xs) (Some ys) = refl

module _ (catalog : Catalog) (header : Header) where
  -- the values of a row on some columns
  abbrev values_on : Row → List (ℕ × Allowed) → Option (List ℕ)
  values_on row columns = row_values catalog (record { cube = header.cube; measure = header.measure; columns = columns }) row

  -- all values of a row are there, or one is missing
  pub all_there : (row : Row) (columns : List (ℕ × Allowed)) (b : Bool) → columns ≡ header.columns → b ≡ list_all (λ c. is_some (value_in catalog header.cube row c)) columns → b ≡ is_some (row_values catalog header row)
  all_there row columns b own is = is ∙ each columns ∙ ap (λ cs. is_some (values_on row cs)) own
    where
      each : (columns : List (ℕ × Allowed)) → list_all (λ c. is_some (value_in catalog header.cube row c)) columns ≡ is_some (values_on row columns)
      each [] = refl
      each (c ∷ cs) = ap (λ b. is_some (value_in catalog header.cube row c) && b) (each cs) ∙ all-before (value_in catalog header.cube row c) (values_on row cs)

  -- two rows have the same values column by column where they are of one group
  pub all_same : (one other : Row) (columns : List (ℕ × Allowed)) (b : Bool) → columns ≡ header.columns →
      b ≡ list_all (λ c. both_are (value_in catalog header.cube one c) (value_in catalog header.cube other c)) columns → b ≡ have_same catalog header one other
  all_same one other columns b own is = is ∙ each columns ∙ ap (λ cs. same (values_on one cs) (values_on other cs)) own
    where
      each : (columns : List (ℕ × Allowed)) → list_all (λ c. both_are (value_in catalog header.cube one c) (value_in catalog header.cube other c)) columns ≡ same (values_on one columns) (values_on other columns)
      each [] = refl
      each (c ∷ cs) =
          ap (λ b. both_are (value_in catalog header.cube one c) (value_in catalog header.cube other c) && b) (each cs)
          ∙ same-before (value_in catalog header.cube one c) (value_in catalog header.cube other c) (values_on one cs) (values_on other cs)

-- the rows of a version with one more entry
pub rows_kept : (plain : List PlainEntry) (e : PlainEntry) (cube v : ℕ) → v ≤ version (entries plain) cube → rows_of (entries plain ++ entry_of e ∷ []) cube v ≡ rows_of (entries plain) cube v ++ []
rows_kept plain e cube v few = rows_stay (entries plain) (entry_of e) cube v few ∙ sym (append-nil (rows_of (entries plain) cube v))

pub rows_more : (plain : List PlainEntry) (e : PlainEntry) (cube v : ℕ) (added : List Row) → version (entries plain) cube < v → added ≡ unwrap_or (appended cube (entry_of e)) [] →
    rows_of (entries plain ++ entry_of e ∷ []) cube v ≡ rows_of (entries plain) cube v ++ added
rows_more plain e cube v added less is =
    ap (λ (batches : List (List Row)). flat_map (λ rows. rows) (take v batches)) (filter_map-append (appended cube) (entries plain) (entry_of e ∷ []))
    ∙ ap (λ (batches : List (List Row)). flat_map (λ rows. rows) batches) (all_taken (appended cube (entry_of e)))
    ∙ flat_map-append (λ rows. rows) so_far (cons_option (appended cube (entry_of e)) [])
    ∙ ap (λ rows. flat_map (λ rows. rows) so_far ++ rows) (one (appended cube (entry_of e)) ∙ sym is)
    ∙ ap (λ (batches : List (List Row)). flat_map (λ rows. rows) batches ++ added) (sym (take_all v so_far (omega (arith, less, counted))))
  where
    so_far : List (List Row)
    so_far = filter_map (appended cube) (entries plain)

    counted : version (entries plain) cube ≡ length so_far
    counted = version-length (entries plain) cube

    all_taken : (o : Option (List Row)) → take v (so_far ++ cons_option o []) ≡ so_far ++ cons_option o []
    all_taken None = take_all v (so_far ++ []) (let l : length (so_far ++ []) ≡ length so_far = ap length (append-nil so_far) in omega (arith, less, counted, l))
    all_taken (Some rows) = take_all v (so_far ++ rows ∷ []) (let l : length (so_far ++ rows ∷ []) ≡ length so_far + 1 = length-append so_far (rows ∷ []) in omega (arith, less, counted, l))

    one : (o : Option (List Row)) → flat_map (λ rows. rows) (cons_option o []) ≡ unwrap_or o []
    one None = refl
    one (Some rows) = append-nil rows

no-or : (a b : Bool) → not (a || b) ≡ (not a && not b)
no-or true b = refl
no-or false b = refl

module _ (catalog : Catalog) (header : Header) where
  abbrev grouped : List Row → List (List ℕ)
  grouped rows = filter_map (row_values catalog header) rows

  -- a row has the values of a group
  abbrev hits : Option (List ℕ) → Row → Bool
  hits o other = same o (row_values catalog header other)

  -- a row adds a group where it has one that no row before it has
  adds : (rows earlier : List Row) (row : Row) →
      adds_group catalog header rows earlier row
      ≡ is_some_and (λ values. not (list_any (bytes_eq values) (grouped (rows ++ earlier)))) (row_values catalog header row)
  adds rows earlier row = by (row_values catalog header row)
    where
      by : (o : Option (List ℕ)) → (is_some o && not (list_any (hits o) rows) && not (list_any (hits o) earlier)) ≡ is_some_and (λ values. not (list_any (bytes_eq values) (grouped (rows ++ earlier)))) o
      by None = refl
      by (Some values) =
          sym (no-or (list_any (hits (Some values)) rows) (list_any (hits (Some values)) earlier))
          ∙ sym (ap not (any-filter_map (bytes_eq values) (row_values catalog header) (rows ++ earlier) ∙ list_any-append (hits (Some values)) rows earlier))

  -- how many groups there are with one more row
  pub group_more : (rows : List Row) (row : Row) →
      length (groups_of catalog header (rows ++ row ∷ []))
      ≡ length (groups_of catalog header rows) + cond (is_some_and (λ values. not (list_any (bytes_eq values) (grouped rows))) (row_values catalog header row)) 1 0
  group_more rows row = ap (λ texts. length (first_appearances texts)) (filter_map-append (row_values catalog header) rows (row ∷ [])) ∙ by (row_values catalog header row)
    where
      by : (o : Option (List ℕ)) →
          length (first_appearances (grouped rows ++ cons_option o [])) ≡ length (groups_of catalog header rows) + cond (is_some_and (λ values. not (list_any (bytes_eq values) (grouped rows))) o) 1 0
      by None = ap (λ texts. length (first_appearances texts)) (append-nil (grouped rows)) ∙ omega arith
      by (Some values) = count_push (grouped rows) values

  -- the row at a place adds its group, or does not
  pub groups_on : (held rows : List Row) (i : ℕ) (row : Row) (base count next : ℕ) (b : Bool) → i < length rows → row ≡ get_or rows i row →
      b ≡ adds_group catalog header held (take i rows) row → next ≡ count + cond b 1 0
      → length (groups_of catalog header (held ++ take i rows)) ≡ base + count → length (groups_of catalog header (held ++ take (i + 1) rows)) ≡ base + next
  groups_on held rows i row base count next b l at new is counted =
      ap (λ rs. length (groups_of catalog header (held ++ rs))) (take_step rows i row l at)
      ∙ ap (λ rs. length (groups_of catalog header rs)) (sym (append_assoc held (take i rows) (row ∷ [])))
      ∙ group_more (held ++ take i rows) row
      ∙ ap (λ x. length (groups_of catalog header (held ++ take i rows)) + cond x 1 0) (sym (adds held (take i rows) row) ∙ sym new)
      ∙ omega (arith, counted, is)

-- the sum over the kept loads up to the next one
pub kept_more : (f : ℕ → ℕ) (history : List Entry) (i : ℕ) → sum_by f (kept_up_to history (i + 1)) ≡ sum_by f (kept_up_to history i) + cond (kept history (i + 1)) (f (i + 1)) 0
kept_more f history i = rw add-one (sum_by-append f (kept_up_to history i) (cond (kept history (suc i)) (suc i ∷ []) []) ∙ ap (λ n. sum_by f (kept_up_to history i) + n) (by (kept history (suc i))))
  where
    by : (b : Bool) → sum_by f (cond b (suc i ∷ []) []) ≡ cond b (f (suc i)) 0
    by true = omega arith
    by false = refl

min-sum : (a b m : ℕ) → min (min a m + b) m ≡ min (a + b) m
min-sum a b m = omega arith

-- one more load adds its groups, where it is kept
pub kept_on : (f : ℕ → ℕ) (history : List Entry) (i count here next most : ℕ) → next ≡ min (count + here) most → here ≡ cond (kept history (i + 1)) (f (i + 1)) 0 →
    count ≡ min (sum_by f (kept_up_to history i)) most → next ≡ min (sum_by f (kept_up_to history (i + 1))) most
kept_on f history i count here next most is adds so_far =
    is ∙ ap (λ n. min (n + here) most) so_far ∙ min-sum (sum_by f (kept_up_to history i)) here most
    ∙ ap (λ n. min n most) (sym (kept_more f history i ∙ ap (λ n. sum_by f (kept_up_to history i) + n) (sym adds)))

-- the loads up to the last are all
pub kept_all : (f : ℕ → ℕ) (plain : List PlainEntry) (i : ℕ) → i ≡ length plain → sum_by f (kept_up_to (entries plain) i) ≡ sum_by f (kept_loads (entries plain))
kept_all f plain i all = ap (λ n. sum_by f (kept_up_to (entries plain) n)) (all ∙ sym (entries-length plain))

-- the kept loads with one more, where it is kept
pub loads_on : (history : List Entry) (i : ℕ) (loads next : List ℕ) (b : Bool) → b ≡ kept history (i + 1) → next ≡ cond b (loads ++ (i + 1) ∷ []) loads → loads ≡ kept_up_to history i → next ≡ kept_up_to history (i + 1)
loads_on history i loads next b held is so_far = is ∙ by b ∙ ap (λ x. kept_up_to history i ++ cond x ((i + 1) ∷ []) []) held ∙ sym last
  where
    by : (b : Bool) → cond b (loads ++ (i + 1) ∷ []) loads ≡ kept_up_to history i ++ cond b ((i + 1) ∷ []) []
    by true = ap (λ xs. xs ++ (i + 1) ∷ []) so_far
    by false = so_far ∙ sym (append-nil (kept_up_to history i))

    last : kept_up_to history (i + 1) ≡ kept_up_to history i ++ cond (kept history (i + 1)) ((i + 1) ∷ []) []
    last = rw add-one refl

pub loads_all : (plain : List PlainEntry) (i : ℕ) → i ≡ length plain → kept_up_to (entries plain) i ≡ kept_loads (entries plain)
loads_all plain i all = ap (kept_up_to (entries plain)) (all ∙ sym (entries-length plain))
