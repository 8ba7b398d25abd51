-- The rows of a version in a legal history are the cube's, and not too many; the columns of a load are the cube's.
use Rattle.std.proofs.Common.{◌≡◌, refl, sym, ◌∙◌, ap, subst, ℕ, zero, suc, ◌+◌, ◌≤◌, List, [], ◌∷◌, ◌++◌, length, filter_map, take, take_all, Bool, true, false, ◌==◌, Some, None, slice_get, arith, All, Contains}
use Rattle.std.specs.Prelude.{flat_map, sum_by}
use Rattle.std.specs.List.{list_all}
use Rattle.std.proofs.lemmas.Bool.{and_from, and_parts, eqb-true}
use Rattle.std.proofs.lemmas.List.Elements.{All-append, All-cons, All-head, All-nil, All-tail, All-take, filter_map-append}
use Rattle.std.proofs.lemmas.List.Folds.{list_all-append}
use Rattle.std.proofs.lemmas.List.Sums.{sum_by-cons, sum_by_push}
use Rattle.std.proofs.lemmas.List.{length-append}
use Rattle.olap_meaning.specs.declared.cells.Allowed.{Allowed}
use Rattle.olap_meaning.specs.declared.cells.Who.{Who}
use Rattle.olap_meaning.specs.declared.tables.Cube.{Cube}
use Rattle.olap_meaning.specs.declared.tables.Row.{Row}
use Rattle.olap_meaning.specs.declared.tables.Setting.{Setting}
use Rattle.olap_meaning.specs.Covering.{header_covers, names_column}
use Rattle.olap_meaning.specs.History.{Entry, Append, Agg, Flush, Start, Done, Drop, Evict, Answer, Saw, Load, appended, load_at, rows_of}
use Rattle.olap_meaning.specs.Legal.{Legal, LegalStep, is_column_of, is_row, has_own_columns, rows_added, rows_held}
use Rattle.olap_meaning.specs.Rolled.{header_columns}
use Rattle.olap_meaning.proofs.Loads.{covered_cube, load_start, some_and}
use Rattle.olap_meaning.proofs.Members.{all_member, member_any, member_map}
use Rattle.olap_meaning.proofs.Positions.{take-push}
use Rattle.olap_meaning.proofs.Lists.{item_there}

all_flat : {A : Type 0} (p : A → Bool) (xs : List (List A)) → All (λ ys. list_all p ys ≡ true) xs → list_all p (flat_map (λ ys. ys) xs) ≡ true
all_flat p [] all = refl
all_flat p (ys ∷ xs) all =
    list_all-append p ys (flat_map (λ zs. zs) xs) ∙ and_from (list_all p ys) (list_all p (flat_map (λ zs. zs) xs)) (All-head (λ zs. list_all p zs ≡ true) ys xs all) (all_flat p xs (All-tail (λ zs. list_all p zs ≡ true) ys xs all))

flat_length : {A : Type 0} (v : ℕ) (xs : List (List A)) → length (flat_map (λ ys. ys) (take v xs)) ≤ sum_by length xs
flat_length zero xs = omega arith
flat_length (suc v) [] = omega arith
flat_length (suc v) (ys ∷ xs) =
    let rest = flat_length v xs in
    let long = length-append ys (flat_map (λ zs. zs) (take v xs)) in
    let total = sum_by-cons length ys xs in
    omega (arith, rest, long, total)

-- the rows that a cube was appended are not more than those of all cubes
appended_sum : (cube : ℕ) (entries : List Entry) → sum_by length (filter_map (appended cube) entries) ≤ rows_held entries
appended_sum cube [] = omega arith
appended_sum cube (entry ∷ entries) = by entry (appended_sum cube entries)
  where
    none : (e : Entry) → appended cube e ≡ None → sum_by length (filter_map (appended cube) entries) ≤ rows_held entries → sum_by length (filter_map (appended cube) (e ∷ entries)) ≤ rows_held (e ∷ entries)
    none e nothing rest =
        let same : sum_by length (filter_map (appended cube) (e ∷ entries)) ≡ sum_by length (filter_map (appended cube) entries) = rw nothing refl in
        let total = sum_by-cons rows_added e entries in
        omega (arith, same, total, rest)

    some : (w : Who) (c v : ℕ) (rows : List Row) (b : Bool) → (c == cube) ≡ b → sum_by length (filter_map (appended cube) entries) ≤ rows_held entries
        → sum_by length (filter_map (appended cube) (Append w c v rows ∷ entries)) ≤ rows_held (Append w c v rows ∷ entries)
    some w c v rows true e rest =
        let same : sum_by length (filter_map (appended cube) (Append w c v rows ∷ entries)) ≡ length rows + sum_by length (filter_map (appended cube) entries) = rw e (sum_by-cons length rows (filter_map (appended cube) entries)) in
        let total : rows_held (Append w c v rows ∷ entries) ≡ length rows + rows_held entries = sum_by-cons rows_added (Append w c v rows) entries in
        omega (arith, same, total, rest)
    some w c v rows false e rest = none (Append w c v rows) (rw e refl) rest

    by : (e : Entry) → sum_by length (filter_map (appended cube) entries) ≤ rows_held entries → sum_by length (filter_map (appended cube) (e ∷ entries)) ≤ rows_held (e ∷ entries)
    by (Append w c v rows) rest = some w c v rows (c == cube) refl rest
    by (Agg w t v) rest = none (Agg w t v) refl rest
    by (Flush w r) rest = none (Flush w r) refl rest
    by (Start l) rest = none (Start l) refl rest
    by (Done w j) rest = none (Done w j) refl rest
    by (Drop w j) rest = none (Drop w j) refl rest
    by (Evict j) rest = none (Evict j) refl rest
    by (Answer w cs) rest = none (Answer w cs) refl rest
    by (Saw w) rest = none (Saw w) refl rest

module _ (setting : Setting) (entries : List Entry) (legal : Legal setting entries) where
  -- each batch that a cube was appended is of rows of the cube
  batches_known : (cube n : ℕ) → n ≤ length entries → All (λ rows. list_all (is_row setting.catalog cube) rows ≡ true) (filter_map (appended cube) (take n entries))
  batches_known cube zero l = All-nil _
  batches_known cube (suc n) l =
      let entry : (e : Entry) × (slice_get entries n ≡ Some e) = item_there entries n (omega (arith, l)) in
      rw (take-push entries n entry.0 entry.1, filter_map-append (appended cube) (take n entries) (entry.0 ∷ []))
      (All-append (λ rows. list_all (is_row setting.catalog cube) rows ≡ true) (filter_map (appended cube) (take n entries)) (filter_map (appended cube) (entry.0 ∷ [])) (batches_known cube n (omega (arith, l)))
      (by entry.0 (legal n entry.0 entry.1)))
    where
      none : (e : Entry) → appended cube e ≡ None → All (λ rows. list_all (is_row setting.catalog cube) rows ≡ true) (filter_map (appended cube) (e ∷ []))
      none e nothing = rw nothing (All-nil _)

      some : (w : Who) (c v : ℕ) (rows : List Row) (b : Bool) → (c == cube) ≡ b → list_all (is_row setting.catalog c) rows ≡ true → All (λ rs. list_all (is_row setting.catalog cube) rs ≡ true) (filter_map (appended cube) (Append w c v rows ∷ []))
      some w c v rows true e fit =
          rw e (All-cons (λ rs. list_all (is_row setting.catalog cube) rs ≡ true) rows [] (ap (λ (k : ℕ). list_all (is_row setting.catalog k) rows) (sym (eqb-true c cube e)) ∙ fit) (All-nil _))
      some w c v rows false e fit = none (Append w c v rows) (rw e refl)

      by : (e : Entry) → LegalStep setting (take n entries) e → All (λ rows. list_all (is_row setting.catalog cube) rows ≡ true) (filter_map (appended cube) (e ∷ []))
      by (Append w c v rows) step = some w c v rows (c == cube) refl step.fit
      by (Agg w t v) step = none (Agg w t v) refl
      by (Flush w r) step = none (Flush w r) refl
      by (Start l) step = none (Start l) refl
      by (Done w j) step = none (Done w j) refl
      by (Drop w j) step = none (Drop w j) refl
      by (Evict j) step = none (Evict j) refl
      by (Answer w cs) step = none (Answer w cs) refl
      by (Saw w) step = none (Saw w) refl

  -- the rows of a version are rows of the cube
  pub rows_known : (cube v : ℕ) → list_all (is_row setting.catalog cube) (rows_of entries cube v) ≡ true
  rows_known cube v =
      all_flat (is_row setting.catalog cube) (take v (filter_map (appended cube) entries))
      (All-take (λ rows. list_all (is_row setting.catalog cube) rows ≡ true) v (filter_map (appended cube) entries)
      (subst (λ (es : List Entry). All (λ rows. list_all (is_row setting.catalog cube) rows ≡ true) (filter_map (appended cube) es)) (take_all (length entries) entries (omega arith)) (batches_known cube (length entries) (omega arith))))

  -- all rows are within the limit
  rows_within : (n : ℕ) → n ≤ length entries → rows_held (take n entries) ≤ setting.row_limit
  rows_within zero l = omega arith
  rows_within (suc n) l =
      let entry : (e : Entry) × (slice_get entries n ≡ Some e) = item_there entries n (omega (arith, l)) in
      rw (take-push entries n entry.0 entry.1) (by entry.0 (legal n entry.0 entry.1) (rows_within n (omega (arith, l))))
    where
      none : (e : Entry) → rows_added e ≡ 0 → rows_held (take n entries) ≤ setting.row_limit → rows_held (take n entries ++ e ∷ []) ≤ setting.row_limit
      none e nothing before = let total = sum_by_push rows_added (take n entries) e in omega (arith, total, nothing, before)

      by : (e : Entry) → LegalStep setting (take n entries) e → rows_held (take n entries) ≤ setting.row_limit → rows_held (take n entries ++ e ∷ []) ≤ setting.row_limit
      by (Append w c v rows) step before =
          let total : rows_held (take n entries ++ Append w c v rows ∷ []) ≡ rows_held (take n entries) + length rows = sum_by_push rows_added (take n entries) (Append w c v rows) in
          let room : rows_held (take n entries) + length rows ≤ setting.row_limit = step.room in
          omega (arith, total, room)
      by (Agg w t v) step before = none (Agg w t v) refl before
      by (Flush w r) step before = none (Flush w r) refl before
      by (Start l) step before = none (Start l) refl before
      by (Done w j) step before = none (Done w j) refl before
      by (Drop w j) step before = none (Drop w j) refl before
      by (Evict j) step before = none (Evict j) refl before
      by (Answer w cs) step before = none (Answer w cs) refl before
      by (Saw w) step before = none (Saw w) refl before

  -- and so are those of a version
  pub rows_few : (cube v : ℕ) → length (rows_of entries cube v) ≤ setting.row_limit
  rows_few cube v =
      let flat = flat_length v (filter_map (appended cube) entries) in
      let own = appended_sum cube entries in
      let all = subst (λ (es : List Entry). rows_held es ≤ setting.row_limit) (take_all (length entries) entries (omega arith)) (rows_within (length entries) (omega arith)) in
      omega (arith, flat, own, all)

  -- the columns of a load are those of its cube
  pub column_own : (j : ℕ) (load : Load) (column : ℕ) → load_at entries j ≡ Some load → Contains (header_columns load.header) column
      → (c : Cube) × (slice_get setting.catalog.cubes load.header.cube ≡ Some c) × (is_column_of setting.catalog c.dimensions column ≡ true)
  column_own zero load column at own = absurd (cc)
  column_own (suc b) load column at own =
      let start = legal b (Start load) (load_start entries (suc b) load at) in
      let parts = and_parts (header_covers load.header load.reason) (list_all (λ c. names_column load.reason c.0) load.header.columns) start.covers in
      let cube : load.header.cube ≡ load.reason.cube = covered_cube load.header load.reason parts.0 in
      let held : (c : ℕ × Allowed) × Contains load.header.columns c × (c.0 ≡ column) = member_map (λ (c : ℕ × Allowed). c.0) load.header.columns column own in
      let named : names_column load.reason held.0.0 ≡ true = all_member (λ (c : ℕ × Allowed). names_column load.reason c.0) load.header.columns held.0 parts.1 held.1 in
      let pair : (p : ℕ × ℕ) × Contains load.reason.at p × ((p.0 == held.0.0) ≡ true) = member_any (λ (p : ℕ × ℕ). p.0 == held.0.0) load.reason.at named in
      let same : pair.0.0 ≡ column = eqb-true pair.0.0 held.0.0 pair.2 ∙ held.2 in
      let known : has_own_columns setting.catalog load.reason ≡ true = (and_parts _ _ start.known).1 in
      let c : (c : Cube) × (slice_get setting.catalog.cubes load.reason.cube ≡ Some c) × (list_all (λ p. is_column_of setting.catalog c.dimensions p.0) load.reason.at ≡ true) =
      some_and (λ c. list_all (λ p. is_column_of setting.catalog c.dimensions p.0) load.reason.at) (slice_get setting.catalog.cubes load.reason.cube) known in
      let here : is_column_of setting.catalog c.0.dimensions column ≡ true = ap (is_column_of setting.catalog c.0.dimensions) (sym same) ∙ all_member (λ (p : ℕ × ℕ). is_column_of setting.catalog c.0.dimensions p.0) load.reason.at pair.0 c.2 pair.1 in
      (c.0, ap (slice_get setting.catalog.cubes) cube ∙ c.1, here)
