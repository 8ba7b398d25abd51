-- Whole grids: of their lines, and that they have the form of grids.
use Rattle.std.proofs.Common.{◌≡◌, ◌∙◌, ◌++◌, ◌+◌, ◌*◌, ◌^◌, ◌<◌, ℕ, zero, suc, Bool, All, List, [], ◌∷◌, arith, length, map, filter, get_or, sym, ap, subst, refl, flat_map, codes, append_assoc}
use Rattle.std.specs.List.{range_with_len}
use Rattle.std.proofs.lemmas.Grind.{flat_map-append}
use Rattle.std.proofs.lemmas.List.{append-nil, length-map}
use Rattle.std.proofs.lemmas.List.Elements.{All-cons, All-filter, All-head, All-nil, All-tail}
use Rattle.std.proofs.lemmas.List.FromFn.{get_or-range_with_len, length-range_with_len}
use Rattle.olap_meaning.specs.declared.CellValue.{CellValue}
use Rattle.olap_meaning.specs.declared.CellValue.TheVariants.{Empty}
use Rattle.olap_meaning.specs.declared.cells.Member.{Member}
use Rattle.olap_meaning.specs.declared.tables.Catalog.{Catalog}
use Rattle.olap_meaning.specs.Texts.{CanBeShown, line}
use Rattle.history_core.specs.declared.answers.Answered.{Answered}
use Rattle.query_meaning.specs.declared.axes.Axes.{Axes}
use Rattle.query_meaning.specs.declared.grids.Grid.{Grid}
use Rattle.query_meaning.specs.declared.grids.GridRow.{GridRow}
use Rattle.query_meaning.specs.GridForm.{IsGridText, IsOfGrid, IsRow, IsRowText, Pairwise, column_text, head_text}
use Rattle.query_meaning.specs.Grids.{grid_of, grid_row, row_tuples, shown_columns, shown_rows, title_at, value_at}
use Rattle.query_meaning.specs.Shown.{Shows}
use Rattle.query_meaning.specs.Titles.{IsTitle}
use Rattle.result_layout.specs.Axes.{values_of}
use Rattle.result_layout.specs.Lines.{AreRowsBehind}

-- the places of which some pass a test are below their number
pub places_below : (p : ℕ → Bool) (n : ℕ) (places : List ℕ) → places ≡ filter p (range_with_len 0 n) → All (λ c. c < n) places
places_below p n places are = subst (All (λ c. c < n)) (sym are) (All-filter p (λ c. c < n) (range_with_len 0 n) below)
  where
    below : All (λ c. c < n) (range_with_len 0 n)
    below k d within =
        let count = length-range_with_len 0 n in
        let is = get_or-range_with_len 0 n k d (omega (arith, count, within)) in
        omega (arith, is, count, within)

-- a grid of its first line, its columns, its rows and a dot
pub grid_laid : (shows : CellValue → List ℕ → Type 0) (grid : Grid) (top middle rowed after : List ℕ) → top ≡ line (head_text grid.position (length grid.columns) (length grid.rows)) → middle ≡ top ++ flat_map line (map column_text grid.columns)
    → AreRowsBehind shows grid.rows middle rowed → after ≡ rowed ++ 46 ∷ 10 ∷ [] → IsGridText shows grid after
grid_laid shows grid top middle rowed after begins columns rows ends =
    let lines = map column_text grid.columns in
    let head = head_text grid.position (length grid.columns) (length grid.rows) in
    record {
      rows = rows.lines;
      each = rows.each;
      is = ends ∙ ap (λ t. t ++ 46 ∷ 10 ∷ []) (rows.is ∙ ap (λ t. t ++ flat_map line rows.lines) (columns ∙ ap (λ t. t ++ flat_map line lines) begins)
          ∙ append_assoc (line head) (flat_map line lines) (flat_map line rows.lines) ∙ ap (λ t. line head ++ t) (sym (flat_map-append line lines rows.lines)))
          ∙ append_assoc (line head) (flat_map line (lines ++ rows.lines)) (46 ∷ 10 ∷ []) ∙ ap (λ t. line head ++ t) (sym (flat_map-append line (lines ++ rows.lines) (codes "." ∷ [])));
    }

pairwise_weaker : {A B : Type 0} (P : A → Type 0) (R S : A → B → Type 0) (xs : List A) (ys : List B) → ((x : A) (y : B) → P x → R x y → S x y) → All P xs → Pairwise R xs ys → Pairwise S xs ys
pairwise_weaker P R S [] [] h all own = tt
pairwise_weaker P R S [] (y ∷ ys) h all own = absurd own
pairwise_weaker P R S (x ∷ xs) [] h all own = absurd own
pairwise_weaker P R S (x ∷ xs) (y ∷ ys) h all own = (h x y (All-head P x xs all) own.0, pairwise_weaker P R S xs ys h (All-tail P x xs all) own.1)

-- a row whose texts show its values as one relation says, and so as another
abbrev row_weaker : (n : ℕ) (R : CellValue → List ℕ → Type 0) → ((v : CellValue) (t : List ℕ) → CanBeShown v → R v t → Shows v t) → (row : GridRow) (text : List ℕ) → IsRow n row → IsRowText R row text → IsRowText Shows row text
row_weaker n R h row text whole own = record { shown = own.shown; each = pairwise_weaker CanBeShown R Shows row.values own.shown h whole.values own.each; is = own.is }

-- a grid's text by the texts that are given is one by texts that show its values
pub grid_shown : (n : ℕ) (R : CellValue → List ℕ → Type 0) (grid : Grid) (text : List ℕ) → ((v : CellValue) (t : List ℕ) → CanBeShown v → R v t → Shows v t) → All (IsRow n) grid.rows → IsGridText R grid text → IsGridText Shows grid text
grid_shown n R grid text h whole own = record { rows = own.rows; each = pairwise_weaker (IsRow n) (IsRowText R) (IsRowText Shows) grid.rows own.rows (row_weaker n R h) whole own.each; is = own.is }

-- each answered value can be shown, and so can the empty one
value_can : (cells : List Answered) (i : ℕ) → CanBeShown (get_or (values_of cells) i Empty)
value_can [] i = omega arith
value_can (x ∷ xs) zero = x.shown
value_can (x ∷ xs) (suc i) = value_can xs i

values_can : (cells : List Answered) (n row : ℕ) (columns : List ℕ) → All CanBeShown (map (value_at n (values_of cells) row) columns)
values_can cells n row [] = All-nil CanBeShown
values_can cells n row (c ∷ cs) = All-cons CanBeShown _ _ (value_can cells (row * n + c)) (values_can cells n row cs)

-- the rows of a grid have the form of rows
pub rows_formed : (catalog : Catalog) (axes : Axes) (cells : List Answered) (columns rows : List ℕ) → All IsTitle (map (title_at catalog axes.cube (row_tuples axes)) rows)
    → All (IsRow (length columns)) (map (grid_row catalog axes (values_of cells) columns) rows)
rows_formed catalog axes cells columns [] titles = All-nil (IsRow (length columns))
rows_formed catalog axes cells columns (r ∷ rs) titles =
    All-cons (IsRow (length columns)) _ _ (record {
      title = All-head IsTitle _ _ titles;
      count = length-map columns (value_at (length axes.columns.tuples) (values_of cells) r);
      values = values_can cells (length axes.columns.tuples) r columns;
    }) (rows_formed catalog axes cells columns rs (All-tail IsTitle _ _ titles))

-- the lines that are written are those of the grid
pub grid_written : (shows : CellValue → List ℕ → Type 0) (catalog : Catalog) (axes : Axes) (position width height : ℕ) (cells own : List Answered) (columns rows columns' columns'' rows' : List ℕ) (top middle rowed after : List ℕ) → cells ≡ own
    → columns ≡ shown_columns axes (values_of cells) → rows ≡ shown_rows axes (values_of cells) → columns' ≡ columns → columns'' ≡ columns → rows' ≡ rows
    → top ≡ line (head_text position width height) → width ≡ length columns → height ≡ length rows
    → middle ≡ top ++ flat_map line (map column_text (map (title_at catalog axes.cube axes.columns.tuples) columns')) → AreRowsBehind shows (map (grid_row catalog axes (values_of cells) columns'') rows') middle rowed
    → after ≡ rowed ++ 46 ∷ 10 ∷ [] → IsGridText shows (grid_of catalog axes position (values_of own)) after
grid_written shows catalog axes position width height cells own columns rows columns' columns'' rows' top middle rowed after same are_columns are_rows c' c'' r' begins wide high lines laid ends =
    let title = title_at catalog axes.cube axes.columns.tuples in
    let cols = shown_columns axes (values_of cells) in
    let lows = shown_rows axes (values_of cells) in
    let row = grid_row catalog axes (values_of cells) cols in
    let w : width ≡ length (map title cols) = wide ∙ ap length are_columns ∙ sym (length-map cols title) in
    let h : height ≡ length (map row lows) = high ∙ ap length are_rows ∙ sym (length-map lows row) in
    let there : AreRowsBehind shows (map row lows) middle rowed =
    subst (λ rs. AreRowsBehind shows (map row rs) middle rowed) (r' ∙ are_rows) (subst (λ cs. AreRowsBehind shows (map (grid_row catalog axes (values_of cells) cs) rows') middle rowed) (c'' ∙ are_columns) laid) in
    subst (λ cs. IsGridText shows (grid_of catalog axes position (values_of cs)) after) same
    (grid_laid shows (grid_of catalog axes position (values_of cells)) top middle rowed after
    (begins ∙ ap (λ n. line (head_text position n height)) w ∙ ap (λ n. line (head_text position (length (map title cols)) n)) h)
    (lines ∙ ap (λ cs. top ++ flat_map line (map column_text (map title cs))) (c' ∙ are_columns)) there ends)

-- and the text has the form of a grid
pub grid_formed : (shows : CellValue → List ℕ → Type 0) (catalog : Catalog) (axes : Axes) (position : ℕ) (cells own : List Answered) (columns rows columns' rows' : List ℕ) (after : List ℕ) → cells ≡ own
    → columns ≡ shown_columns axes (values_of cells) → rows ≡ shown_rows axes (values_of cells) → columns' ≡ columns → rows' ≡ rows → 0 < position → position < 2 ^ 64
    → All IsTitle (map (title_at catalog axes.cube axes.columns.tuples) columns') → All IsTitle (map (title_at catalog axes.cube (row_tuples axes)) rows')
    → ((v : CellValue) (t : List ℕ) → CanBeShown v → shows v t → Shows v t) → IsGridText shows (grid_of catalog axes position (values_of own)) after → IsOfGrid after (grid_of catalog axes position (values_of own))
grid_formed shows catalog axes position cells own columns rows columns' rows' after same are_columns are_rows c' r' first last titles others h text =
    let cols = shown_columns axes (values_of own) in
    let lows = shown_rows axes (values_of own) in
    let title = title_at catalog axes.cube axes.columns.tuples in
    let at = ap (λ cs. shown_columns axes (values_of cs)) same in
    let on = ap (λ cs. shown_rows axes (values_of cs)) same in
    let rowed : All (IsRow (length cols)) (map (grid_row catalog axes (values_of own) cols) lows) =
    rows_formed catalog axes own cols lows (subst (λ rs. All IsTitle (map (title_at catalog axes.cube (row_tuples axes)) rs)) (r' ∙ are_rows ∙ on) others) in
    let whole : All (IsRow (length (map title cols))) (map (grid_row catalog axes (values_of own) cols) lows) =
    subst (λ n. All (IsRow n) (map (grid_row catalog axes (values_of own) cols) lows)) (sym (length-map cols title)) rowed in
    record {
      whole = record { first = first; last = last; columns = subst (λ cs. All IsTitle (map title cs)) (c' ∙ are_columns ∙ at) titles; rows = whole };
      written = grid_shown (length (map title cols)) shows (grid_of catalog axes position (values_of own)) after h whole text;
    }
