-- Rows that are read once for several bodies.
use Rattle.std.proofs.Common.{◌≡◌, ◌∙◌, ◌<◌, ◌≤◌, ◌+◌, ℕ, ℤ, zero, suc, List, [], ◌∷◌, ◌++◌, Option, None, Some, All, length, map, filter_map, drop, take, get_or, append-nil, append_assoc, length-append, add-one, refl, sym, ap, arith, inl, inr}
use Rattle.std.specs.Prelude.{option_map, option_to_list, slice_get}
use Rattle.std.specs.List.{cons_option}
use Rattle.std.proofs.lemmas.Bool.{cases_Bool}
use Rattle.std.proofs.lemmas.List.{get_or_append_left, length-map, length-take, map-append}
use Rattle.std.proofs.lemmas.List.Elements.{All-map, filter_map-append}
use Rattle.std.proofs.lemmas.List.Folds.{map_fixed}
use Rattle.std.proofs.lemmas.List.{take-append-drop}
use Rattle.std.proofs.lemmas.Option.{get_or_from_slice_get}
use Rattle.olap_meaning.specs.declared.cells.Allowed.{Allowed}
use Rattle.olap_meaning.specs.declared.cells.Header.{Header}
use Rattle.olap_meaning.specs.declared.tables.Catalog.{Catalog}
use Rattle.olap_meaning.specs.declared.tables.Row.{Row}
use Rattle.olap_meaning.specs.Catalog.{first_appearances}
use Rattle.olap_meaning.proofs.Positions.{take-push}
use Rattle.fact_versions.specs.FactRows.{FactRows}
use Rattle.segment_body.specs.BodyOf.{BodyOf, different_values, has_row}
use Rattle.segment_body.proofs.RowFacts.{different_new, different_same}
use Rattle.fact_reader.specs.declared.blocks.PlacedRow.{PlacedRow}
use Rattle.fact_reader.specs.Blocks.{IsBehind, IsPlacedRow, kept_row, kept_rows, numbered_row, own_row, valued_row, valued_rows, with_block}
use Rattle.fact_reader.specs.BodyRows.{AreAlike, body_row, body_rows, row_number, values_in, with_rows}
use Rattle.olap_meaning.specs.Budget.{row_values}
use Rattle.fact_reader.specs.Reading.{ReaderOf, reader_of, row_at}
use Rattle.fact_reader.proofs.BatchFacts.{body_rows-append, body_rows-fit, different_texts, values_taken}

-- a header is of a cube and has some columns
pub record HasColumns (cube : ℕ) (columns : List (ℕ × Allowed)) (header : Header) : Type 0 where
  pub own_cube : header.cube ≡ cube
  pub own_columns : header.columns ≡ columns

-- headers that differ in their measures alone take the same values of a row
same_values : (catalog : Catalog) (first header : Header) (row : Row) → HasColumns first.cube first.columns header → row_values catalog header row ≡ row_values catalog first row
same_values catalog first header row like = rw (like.own_cube, like.own_columns) refl

-- a row with the number of a header's measure
abbrev with_own_number : Catalog → Header → Row × List ℕ → List ℕ × Option ℤ
with_own_number catalog header kept = (kept.1, row_number catalog header kept.0)

-- so the rows that one of them keeps are those of a body of any
kept_body : (catalog : Catalog) (first header : Header) (rows : List Row) → HasColumns first.cube first.columns header → map (with_own_number catalog header) (kept_rows catalog first rows) ≡ body_rows catalog header rows
kept_body catalog first header [] like = refl
kept_body catalog first header (row ∷ rows) like =
    by (row_values catalog first row) refl (kept_body catalog first header rows like)
  where
    by : (o : Option (List ℕ)) → row_values catalog first row ≡ o → map (with_own_number catalog header) (kept_rows catalog first rows) ≡ body_rows catalog header rows
        → map (with_own_number catalog header) (cons_option (option_map (λ values. (row, values)) (row_values catalog first row)) (kept_rows catalog first rows))
        ≡ cons_option (option_map (λ values. (values, row_number catalog header row)) (row_values catalog header row)) (body_rows catalog header rows)
    by None e rest = rw (same_values catalog first header row like, e) rest
    by (Some values) e rest = rw (same_values catalog first header row like, e) (ap (λ (r : List (List ℕ × Option ℤ)). (values, row_number catalog header row) ∷ r) rest)

numbered_own : (catalog : Catalog) (header : Header) (batch : FactRows) (rows : List (ℕ × List ℕ)) → map (numbered_row catalog header batch) rows ≡ map (with_own_number catalog header) (map (own_row batch) rows)
numbered_own catalog header batch [] = refl
numbered_own catalog header batch (row ∷ rows) = ap (λ (rest : List (List ℕ × Option ℤ)). numbered_row catalog header batch row ∷ rest) (numbered_own catalog header batch rows)

-- a block between two places of a batch
pub record IsBetween (catalog : Catalog) (first : Header) (batch : FactRows) (from to : ℕ) (rows : List (ℕ × List ℕ)) : Type 0 where
  pub between : kept_rows catalog first (take from batch.rows) ++ map (own_row batch) rows ≡ kept_rows catalog first (take to batch.rows)

-- its rows stand after those before it
rows_added : (catalog : Catalog) (first header : Header) (batch : FactRows) (from to : ℕ) (rows : List (ℕ × List ℕ)) → HasColumns first.cube first.columns header → IsBetween catalog first batch from to rows
    → body_rows catalog header (take from batch.rows) ++ map (numbered_row catalog header batch) rows ≡ body_rows catalog header (take to batch.rows)
rows_added catalog first header batch from to rows like is =
    rw (← kept_body catalog first header (take from batch.rows) like, ← kept_body catalog first header (take to batch.rows) like, numbered_own catalog header batch rows, ← is.between)
    (sym (map-append (with_own_number catalog header) (kept_rows catalog first (take from batch.rows)) (map (own_row batch) rows)))

pub block_added : (catalog : Catalog) (first : Header) (batch : FactRows) (from to : ℕ) (rows : List (ℕ × List ℕ)) (body : BodyOf) → HasColumns first.cube first.columns body.header → IsBetween catalog first batch from to rows
    → with_block catalog batch rows (with_rows catalog (take from batch.rows) body) ≡ with_rows catalog (take to batch.rows) body
block_added catalog first batch from to rows body like is =
    ap (λ (all : List (List ℕ × Option ℤ)). record body { rows = all })
    (append_assoc body.rows (body_rows catalog body.header (take from batch.rows)) (map (numbered_row catalog body.header batch) rows)
    ∙ ap (λ (all : List (List ℕ × Option ℤ)). body.rows ++ all) (rows_added catalog first body.header batch from to rows like is))

-- so it is for each of some bodies
pub blocks_added : (catalog : Catalog) (first : Header) (batch : FactRows) (from to : ℕ) (rows : List (ℕ × List ℕ)) (bodies : List BodyOf) → All (λ (body : BodyOf). HasColumns first.cube first.columns body.header) bodies → IsBetween catalog first batch from to rows
    → map (with_block catalog batch rows) (map (with_rows catalog (take from batch.rows)) bodies) ≡ map (with_rows catalog (take to batch.rows)) bodies
blocks_added catalog first batch from to rows [] like is = refl
blocks_added catalog first batch from to rows (body ∷ bodies) like is =
    rw (block_added catalog first batch from to rows body (like 0 body (omega arith)) is, blocks_added catalog first batch from to rows bodies (λ k d within. like (suc k) d (omega arith)) is) refl

-- bodies have room for a block
pub blocks_fit : (catalog : Catalog) (first : Header) (batch : FactRows) (from to limit : ℕ) (rows : List (ℕ × List ℕ)) (bodies : List BodyOf) → All (λ (body : BodyOf). HasColumns first.cube first.columns body.header) bodies → IsBetween catalog first batch from to rows
    → All (λ (body : BodyOf). length body.rows + length batch.rows ≤ limit) bodies
    → All (λ (body : BodyOf). length body.rows + length rows ≤ limit) (map (with_rows catalog (take from batch.rows)) bodies)
blocks_fit catalog first batch from to limit rows bodies like is room =
    All-map (λ (body : BodyOf). length body.rows + length rows ≤ limit) (with_rows catalog (take from batch.rows)) bodies
    (λ k d within. fits (get_or bodies k d) (like k d within) (room k d within))
  where
    fits : (body : BodyOf) → HasColumns first.cube first.columns body.header → length body.rows + length batch.rows ≤ limit → length (body.rows ++ body_rows catalog body.header (take from batch.rows)) + length rows ≤ limit
    fits body own few =
        let all = ap (λ (b : BodyOf). length b.rows) (block_added catalog first batch from to rows body own is) in
        let more = length-append (body.rows ++ body_rows catalog body.header (take from batch.rows)) (map (numbered_row catalog body.header batch) rows) in
        let some = length-append body.rows (body_rows catalog body.header (take to batch.rows)) in
        omega (arith, all, more, some, few, body_rows-fit catalog body.header (take to batch.rows), length-take to batch.rows, length-map rows (numbered_row catalog body.header batch))

-- what a reader reads for
pub mapped_to : {A B : Type 0} (f : A → B) (xs : List B) (ys : List A) (k : ℕ) (d : B) (e : A) → xs ≡ map f ys → k < length ys → get_or xs k d ≡ f (get_or ys k e)
mapped_to f xs [] k d e same within = absurd (omega arith)
mapped_to f [] (y ∷ ys) k d e same within = absurd (cc)
mapped_to f (x ∷ xs) (y ∷ ys) zero d e same within = cc
mapped_to f (x ∷ xs) (y ∷ ys) (suc k) d e same within =
    let rest : xs ≡ map f ys = cc in
    mapped_to f xs ys k d e rest (omega arith)

-- the elements of a list that are not changed yet
pub same_at : {A : Type 0} (g : A → A) (xs ys : List A) (k : ℕ) (d : A) → xs ≡ map g (take k ys) ++ drop k ys → k < length ys → get_or xs k d ≡ get_or ys k d
same_at g xs [] k d so_far within = absurd (omega arith)
same_at g [] (y ∷ ys) zero d so_far within = absurd (cc)
same_at g [] (y ∷ ys) (suc k) d so_far within = absurd (cc)
same_at g (x ∷ xs) (y ∷ ys) zero d so_far within = cc
same_at g (x ∷ xs) (y ∷ ys) (suc k) d so_far within =
    let rest : xs ≡ map g (take k ys) ++ drop k ys = cc in
    same_at g xs ys k d rest (omega arith)

-- one row more is read
pub read_next : (catalog : Catalog) (header : Header) (batch : FactRows) (i : ℕ) (before : List (Row × List ℕ)) (rows : List (ℕ × List ℕ)) → slice_get batch.rows i ≡ Some (row_at batch i)
    → before ++ map (own_row batch) rows ≡ kept_rows catalog header (take i batch.rows)
    → before ++ map (own_row batch) (rows ++ option_to_list (option_map (λ values. (i, values)) (row_values catalog header (row_at batch i)))) ≡ kept_rows catalog header (take (i + 1) batch.rows)
read_next catalog header batch i before rows at so_far =
    rw (add-one i, take-push batch.rows i (row_at batch i) at)
    (by (row_values catalog header (row_at batch i)) refl
    ∙ ap (λ (xs : List (Row × List ℕ)). xs ++ kept_rows catalog header (row_at batch i ∷ [])) so_far
    ∙ sym (filter_map-append (kept_row catalog header) (take i batch.rows) (row_at batch i ∷ [])))
  where
    by : (o : Option (List ℕ)) → row_values catalog header (row_at batch i) ≡ o
        → before ++ map (own_row batch) (rows ++ option_to_list (option_map (λ values. (i, values)) (row_values catalog header (row_at batch i)))) ≡ (before ++ map (own_row batch) rows) ++ kept_rows catalog header (row_at batch i ∷ [])
    by None e = rw (e, append-nil rows, append-nil (before ++ map (own_row batch) rows)) refl
    by (Some values) e =
        rw (e, map-append (own_row batch) rows ((i, values) ∷ []))
        (sym (append_assoc before (map (own_row batch) rows) ((row_at batch i, values) ∷ [])))

-- bodies with no row more, and with rows twice
pub none_more : (catalog : Catalog) (bodies : List BodyOf) → map (with_rows catalog []) bodies ≡ bodies
none_more catalog bodies = map_fixed (with_rows catalog []) bodies (λ k body within. rw (append-nil (get_or bodies k body).rows) refl)

pub rows_twice : (catalog : Catalog) (xs ys : List Row) (bodies : List BodyOf) → map (with_rows catalog ys) (map (with_rows catalog xs) bodies) ≡ map (with_rows catalog (xs ++ ys)) bodies
rows_twice catalog xs ys [] = refl
rows_twice catalog xs ys (body ∷ bodies) =
    let all = append_assoc body.rows (body_rows catalog body.header xs) (body_rows catalog body.header ys) ∙ ap (λ (rows : List (List ℕ × Option ℤ)). body.rows ++ rows) (sym (body_rows-append catalog body.header xs ys)) in
    rw (all, rows_twice catalog xs ys bodies) refl

-- they are read for as before
pub readers_stay : (catalog : Catalog) (rows : List Row) (bodies : List BodyOf) → map (reader_of catalog) (map (with_rows catalog rows) bodies) ≡ map (reader_of catalog) bodies
readers_stay catalog rows [] = refl
readers_stay catalog rows (body ∷ bodies) = ap (λ (rest : List ReaderOf). reader_of catalog body ∷ rest) (readers_stay catalog rows bodies)

pub room_stays : (catalog : Catalog) (rows : List Row) (bodies : List BodyOf) (more all limit : ℕ) → length rows + more ≤ all → All (λ (body : BodyOf). length body.rows + all ≤ limit) bodies
    → All (λ (body : BodyOf). length body.rows + more ≤ limit) (map (with_rows catalog rows) bodies)
room_stays catalog rows bodies more all limit few room =
    All-map (λ (body : BodyOf). length body.rows + more ≤ limit) (with_rows catalog rows) bodies
    (λ k body within. omega (arith, few, room k body within, length-append (get_or bodies k body).rows (body_rows catalog (get_or bodies k body).header rows), body_rows-fit catalog (get_or bodies k body).header rows))

-- readers for headers are readers for bodies
pub readers_for : (catalog : Catalog) (bodies : List BodyOf) → map (λ (header : Header). record { catalog = catalog; header = header }) (map (λ (body : BodyOf). body.header) bodies) ≡ map (reader_of catalog) bodies
readers_for catalog [] = refl
readers_for catalog (body ∷ bodies) = ap (λ (rest : List ReaderOf). reader_of catalog body ∷ rest) (readers_for catalog bodies)

-- the values of the rows so far stand where they stood when there is a row more
value_kept : (rows : List (List ℕ × Option ℤ)) (row : List ℕ × Option ℤ) (g : ℕ) → g < length (different_values rows)
    → (g < length (different_values (rows ++ row ∷ []))) × (get_or (different_values (rows ++ row ∷ [])) g [] ≡ get_or (different_values rows) g [])
value_kept rows row g within =
    elim (cases_Bool (has_row rows row.0)) [
      | inl known ↦ rw (different_same rows row known) (within, refl)
      | inr new ↦ rw (different_new rows row new) (omega (arith, within, length-append (different_values rows) (row.0 ∷ [])), get_or_append_left (different_values rows) (row.0 ∷ []) [] g within)
    ]

-- and where there are some more
values_kept : (rows more : List (List ℕ × Option ℤ)) (g : ℕ) → g < length (different_values rows) → get_or (different_values (rows ++ more)) g [] ≡ get_or (different_values rows) g []
values_kept rows [] g within = rw (append-nil rows) refl
values_kept rows (row ∷ more) g within =
    let next = value_kept rows row g within in
    ap (λ (all : List (List ℕ × Option ℤ)). get_or (different_values all) g []) (sym (append_assoc rows (row ∷ []) more)) ∙ values_kept (rows ++ row ∷ []) more g next.0 ∙ next.1

-- the different values of rows are told by their values alone
different_alike : (xs ys : List (List ℕ × Option ℤ)) → map (λ (row : List ℕ × Option ℤ). row.0) xs ≡ map (λ (row : List ℕ × Option ℤ). row.0) ys → different_values xs ≡ different_values ys
different_alike xs ys same = different_texts xs ∙ ap first_appearances same ∙ sym (different_texts ys)

no_numbers : (values : List (List ℕ)) → map (λ (row : List ℕ × Option ℤ). row.0) (map (λ (own : List ℕ). (own, None)) values) ≡ values
no_numbers [] = refl
no_numbers (own ∷ values) = ap (λ (vs : List (List ℕ)). own ∷ vs) (no_numbers values)

-- so a group that some of the rows have stands where it stands for all
pub group_kept : (rows all : List (List ℕ × Option ℤ)) (rest : List (List ℕ)) (g : ℕ) → map (λ (row : List ℕ × Option ℤ). row.0) rows ++ rest ≡ map (λ (row : List ℕ × Option ℤ). row.0) all → g < length (different_values rows)
    → get_or (different_values all) g [] ≡ get_or (different_values rows) g []
group_kept rows all rest g same within =
    let more : List (List ℕ × Option ℤ) = map (λ (own : List ℕ). (own, None)) rest in
    let texts = map-append (λ (row : List ℕ × Option ℤ). row.0) rows more ∙ ap (λ (vs : List (List ℕ)). map (λ (row : List ℕ × Option ℤ). row.0) rows ++ vs) (no_numbers rest) ∙ same in
    ap (λ (ds : List (List ℕ)). get_or ds g []) (sym (different_alike (rows ++ more) all texts)) ∙ values_kept rows more g within

-- placed rows keep their groups when there is a row more
pub placed_kept : (batch : FactRows) (rows : List (List ℕ × Option ℤ)) (row : List ℕ × Option ℤ) (block : List PlacedRow) → All (IsPlacedRow batch (different_values rows)) block → All (IsPlacedRow batch (different_values (rows ++ row ∷ []))) block
placed_kept batch rows row block placed k own within =
    let is = placed k own within in
    record { within = is.within; grouped = (value_kept rows row (get_or block k own).group is.grouped).0 }

pub valued_kept : (batch : FactRows) (rows : List (List ℕ × Option ℤ)) (row : List ℕ × Option ℤ) (block : List PlacedRow) → All (IsPlacedRow batch (different_values rows)) block → valued_rows (different_values (rows ++ row ∷ [])) block ≡ valued_rows (different_values rows) block
valued_kept batch rows row [] placed = refl
valued_kept batch rows row (own ∷ block) placed =
    let kept = (value_kept rows row own.group (placed 0 own (omega arith)).grouped).1 in
    rw (kept, valued_kept batch rows row block (λ k d within. placed (suc k) d (omega (arith, within)))) refl

-- a block with a row more, of the last row's group
pub valued_more : (batch : FactRows) (rows : List (List ℕ × Option ℤ)) (block : List PlacedRow) (i group : ℕ) (values : List ℕ) (number : Option ℤ) → All (IsPlacedRow batch (different_values rows)) block → slice_get (different_values (rows ++ (values, number) ∷ [])) group ≡ Some values
    → valued_rows (different_values (rows ++ (values, number) ∷ [])) (block ++ record { row = i; group = group } ∷ []) ≡ valued_rows (different_values rows) block ++ (i, values) ∷ []
valued_more batch rows block i group values number placed there =
    let more : List (List ℕ) = different_values (rows ++ (values, number) ∷ []) in
    map-append (valued_row more) block (record { row = i; group = group } ∷ [])
    ∙ ap (λ (own : List (ℕ × List ℕ)). own ++ valued_row more (record { row = i; group = group }) ∷ []) (valued_kept batch rows (values, number) block placed)
    ∙ ap (λ (vs : List ℕ). valued_rows (different_values rows) block ++ (i, vs) ∷ []) (get_or_from_slice_get more group values [] there)

-- bodies that are alike stay so with the same rows
with_values : (catalog : Catalog) (rows : List Row) (body : BodyOf) → values_in (with_rows catalog rows body) ≡ values_in body ++ filter_map (row_values catalog body.header) rows
with_values catalog rows body =
    map-append (λ (row : List ℕ × Option ℤ). row.0) body.rows (body_rows catalog body.header rows) ∙ ap (λ (vs : List (List ℕ)). values_in body ++ vs) (values_taken catalog body.header rows)

same_taken : (catalog : Catalog) (first header : Header) (rows : List Row) → HasColumns first.cube first.columns header → filter_map (row_values catalog header) rows ≡ filter_map (row_values catalog first) rows
same_taken catalog first header [] like = refl
same_taken catalog first header (row ∷ rows) like = rw (same_values catalog first header row like, same_taken catalog first header rows like) refl

pub like_each : (bodies : List BodyOf) (first : BodyOf) → AreAlike bodies first → All (λ (body : BodyOf). HasColumns first.header.cube first.header.columns body.header) bodies
like_each bodies first alike k body within = record { own_cube = alike.cubes k body within; own_columns = alike.columns k body within }

pub alike_stay : (catalog : Catalog) (rows : List Row) (bodies : List BodyOf) (first : BodyOf) → AreAlike bodies first → AreAlike (map (with_rows catalog rows) bodies) (with_rows catalog rows first)
alike_stay catalog rows bodies first alike = record {
  cubes = All-map (λ (body : BodyOf). body.header.cube ≡ first.header.cube) (with_rows catalog rows) bodies alike.cubes;
  columns = All-map (λ (body : BodyOf). body.header.columns ≡ first.header.columns) (with_rows catalog rows) bodies alike.columns;
  values = All-map (λ (body : BodyOf). values_in body ≡ values_in (with_rows catalog rows first)) (with_rows catalog rows) bodies
      (λ k body within.
      with_values catalog rows (get_or bodies k body)
      ∙ ap (λ (vs : List (List ℕ)). vs ++ filter_map (row_values catalog (get_or bodies k body).header) rows) (alike.values k body within)
      ∙ ap (λ (vs : List (List ℕ)). values_in first ++ vs) (same_taken catalog first.header (get_or bodies k body).header rows (like_each bodies first alike k body within))
      ∙ sym (with_values catalog rows first));
}

pub all_stay : (catalog : Catalog) (rows : List Row) (bodies : List BodyOf) → All (AreAlike bodies) bodies → All (AreAlike (map (with_rows catalog rows) bodies)) (map (with_rows catalog rows) bodies)
all_stay catalog rows bodies alike =
    All-map (AreAlike (map (with_rows catalog rows) bodies)) (with_rows catalog rows) bodies (λ k own within. alike_stay catalog rows bodies (get_or bodies k own) (alike k own within))

-- a body that is alike lacks the last rows of a first one that has got them
numbered_values : (catalog : Catalog) (header : Header) (batch : FactRows) (rows : List (ℕ × List ℕ)) → map (λ (row : List ℕ × Option ℤ). row.0) (map (numbered_row catalog header batch) rows) ≡ map (λ (own : ℕ × List ℕ). own.1) rows
numbered_values catalog header batch [] = refl
numbered_values catalog header batch (own ∷ rows) = ap (λ (vs : List (List ℕ)). own.1 ∷ vs) (numbered_values catalog header batch rows)

pub block_values : (catalog : Catalog) (batch : FactRows) (rows : List (ℕ × List ℕ)) (body : BodyOf) → values_in (with_block catalog batch rows body) ≡ values_in body ++ map (λ (own : ℕ × List ℕ). own.1) rows
block_values catalog batch rows body =
    map-append (λ (row : List ℕ × Option ℤ). row.0) body.rows (map (numbered_row catalog body.header batch) rows) ∙ ap (λ (vs : List (List ℕ)). values_in body ++ vs) (numbered_values catalog body.header batch rows)

pub alike_behind : (catalog : Catalog) (batch : FactRows) (rows : List (ℕ × List ℕ)) (bodies : List BodyOf) (first : BodyOf) → AreAlike bodies first → All (IsBehind (with_block catalog batch rows first) rows) bodies
alike_behind catalog batch rows bodies first alike k body within = record {
  cube = alike.cubes k body within;
  columns = alike.columns k body within;
  values = ap (λ (vs : List (List ℕ)). vs ++ map (λ (own : ℕ × List ℕ). own.1) rows) (alike.values k body within) ∙ sym (block_values catalog batch rows first);
}

-- the others of some bodies that are alike
pub others_alike : (first : BodyOf) (others : List BodyOf) → All (AreAlike (first ∷ others)) (first ∷ others) → AreAlike others first
others_alike first others alike =
    let own = alike 0 first (omega arith) in
    record {
      cubes = λ k d within. own.cubes (suc k) d (omega (arith, within));
      columns = λ k d within. own.columns (suc k) d (omega (arith, within));
      values = λ k d within. own.values (suc k) d (omega (arith, within));
    }

-- a block with a row more, as far as the header allows it
pub block_more : (catalog : Catalog) (header : Header) (batch : FactRows) (i : ℕ) (rows : List (ℕ × List ℕ)) (body : BodyOf) → body.header ≡ header
    → with_block catalog batch (rows ++ option_to_list (option_map (λ values. (i, values)) (row_values catalog header (row_at batch i)))) body
    ≡ record body { rows = (body.rows ++ map (numbered_row catalog body.header batch) rows) ++ option_to_list (body_row catalog header (row_at batch i)) }
block_more catalog header batch i rows body same = by (row_values catalog header (row_at batch i))
  where
    by : (o : Option (List ℕ)) → with_block catalog batch (rows ++ option_to_list (option_map (λ values. (i, values)) o)) body
        ≡ record body { rows = (body.rows ++ map (numbered_row catalog body.header batch) rows) ++ option_to_list (option_map (λ values. (values, row_number catalog header (row_at batch i))) o) }
    by None = rw (append-nil rows, append-nil (body.rows ++ map (numbered_row catalog body.header batch) rows)) refl
    by (Some values) =
        ap (λ (all : List (List ℕ × Option ℤ)). record body { rows = all })
        (ap (λ (more : List (List ℕ × Option ℤ)). body.rows ++ more) (map-append (numbered_row catalog body.header batch) rows ((i, values) ∷ []))
        ∙ sym (append_assoc body.rows (map (numbered_row catalog body.header batch) rows) (numbered_row catalog body.header batch (i, values) ∷ []))
        ∙ ap (λ (own : Header). (body.rows ++ map (numbered_row catalog body.header batch) rows) ++ (values, row_number catalog own (row_at batch i)) ∷ []) same)

pub one_more : {A : Type 0} (o : Option A) → length (option_to_list o) ≤ 1
one_more None = omega arith
one_more (Some x) = omega arith

-- the row that is next is added, with the values of its group
pub placed_next : (catalog : Catalog) (batch : FactRows) (values : List (List ℕ)) (block : List PlacedRow) (k : ℕ) (own : PlacedRow) (old body new : BodyOf) (row : List ℕ × Option ℤ) → slice_get block k ≡ Some own
    → body ≡ with_block catalog batch (valued_rows values (take k block)) old → new ≡ record body { rows = body.rows ++ row ∷ [] } → row ≡ numbered_row catalog old.header batch (valued_row values own)
    → new ≡ with_block catalog batch (valued_rows values (take (k + 1) block)) old
placed_next catalog batch values block k own old body new row at so_far added is =
    let number : List (List ℕ × Option ℤ) → BodyOf = λ all. record old { rows = all } in
    let before : List (List ℕ × Option ℤ) = map (numbered_row catalog old.header batch) (valued_rows values (take k block)) in
    let taken : take (k + 1) block ≡ take k block ++ own ∷ [] = rw (add-one k) (take-push block k own at) in
    let more = ap (λ (own : List PlacedRow). map (numbered_row catalog old.header batch) (valued_rows values own)) taken
    ∙ ap (map (numbered_row catalog old.header batch)) (map-append (valued_row values) (take k block) (own ∷ []))
    ∙ map-append (numbered_row catalog old.header batch) (valued_rows values (take k block)) (valued_row values own ∷ []) in
    added
    ∙ ap (λ (b : BodyOf). record b { rows = b.rows ++ row ∷ [] }) so_far
    ∙ ap number (append_assoc old.rows before (row ∷ []) ∙ ap (λ (all : List (List ℕ × Option ℤ)). old.rows ++ all) (ap (λ (r : List ℕ × Option ℤ). before ++ r ∷ []) is ∙ sym more))

-- the values of a body that has got some of the rows
pub behind_so_far : (catalog : Catalog) (batch : FactRows) (values : List (List ℕ)) (block : List PlacedRow) (k : ℕ) (first old body : BodyOf) → IsBehind first (valued_rows values block) old → body ≡ with_block catalog batch (valued_rows values (take k block)) old
    → values_in body ++ map (λ (own : ℕ × List ℕ). own.1) (valued_rows values (drop k block)) ≡ values_in first
behind_so_far catalog batch values block k first old body behind so_far =
    let taken : List (List ℕ) = map (λ (own : ℕ × List ℕ). own.1) (valued_rows values (take k block)) in
    let left : List (List ℕ) = map (λ (own : ℕ × List ℕ). own.1) (valued_rows values (drop k block)) in
    let both : taken ++ left ≡ map (λ (own : ℕ × List ℕ). own.1) (valued_rows values block) =
    sym (map-append (λ (own : ℕ × List ℕ). own.1) (valued_rows values (take k block)) (valued_rows values (drop k block)))
    ∙ ap (map (λ (own : ℕ × List ℕ). own.1)) (sym (map-append (valued_row values) (take k block) (drop k block)) ∙ ap (valued_rows values) (take-append-drop k block)) in
    ap (λ (vs : List (List ℕ)). vs ++ left) (ap values_in so_far ∙ block_values catalog batch (valued_rows values (take k block)) old)
    ∙ append_assoc (values_in old) taken left
    ∙ ap (λ (vs : List (List ℕ)). values_in old ++ vs) both
    ∙ behind.values
