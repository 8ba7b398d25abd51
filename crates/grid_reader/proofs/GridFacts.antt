-- The lines of columns, and the lines of grids.
use Rattle.std.proofs.Common.{Bor, Bool, true, false, ◌==◌, ◌||◌, Result, Ok, Err, Option, Some, None, ◌≡◌, ◌∙◌, ◌+◌, ◌-◌, ◌<◌, ◌≤◌, ◌^◌, ◌++◌, ℕ, suc, List, [], ◌∷◌, All, IfOk, codes, map, length, get_or, take, drop, sym, ap, refl, subst, arith, append_assoc}
use Rattle.std.specs.List.{join_with_byte, list_any}
use Rattle.std.proofs.lemmas.List.Elements.{All-head, All-tail}
use Rattle.std.proofs.lemmas.List.Folds.{list_any-append}
use Rattle.std.proofs.lemmas.List.{nil_from_length, drop_more, drop_all, length-append, length-map, length-take, length-drop, map-append, same_from_push, take-append-drop, take_at, drop_at, take-map, drop-map}
use Rattle.std.proofs.lemmas.List.Splits.{join_with_byte-slice_split}
use Rattle.olap_meaning.specs.declared.CellValue.{CellValue}
use Rattle.shown_values.proofs.PlainFacts.{not_none, is_none}
use Rattle.query_meaning.specs.declared.grids.Grid.{Grid}
use Rattle.query_meaning.specs.declared.grids.GridRow.{GridRow}
use Rattle.query_meaning.specs.GridForm.{IsOfGrid, IsRow, IsRowText, Pairwise, column_text, head_text}
use Rattle.query_meaning.specs.Shown.{Shows}
use Rattle.query_meaning.specs.Titles.{IsTitle}
use Rattle.grid_reader.specs.declared.head.Head.{Head}
use Rattle.grid_reader.specs.Lines.{AreColumnLines, AreGridLines, AreRowLines, IsColumnLine, IsHead, IsInnerOf, IsRowLine, parted}
use Rattle.grid_reader.specs.Reading.{IsTitleAt, ReadsAs}
use Rattle.grid_reader.proofs.Breaks.{no_feed}
use Rattle.grid_reader.proofs.Heads.{head_no_feed}
use Rattle.grid_reader.proofs.Joins.{AreWithout, parted_lines, lines_joined, lines_count, without_join}
use Rattle.grid_reader.proofs.Lists.{bytes_of, past, pairs_length, paired, unpaired, mapped, is_mapped, reads_none, read_one}
use Rattle.grid_reader.proofs.TitleFacts.{title_has_no_break}

-- what holds where a result is
pub ok_then : {A E : Type 0} (r : Result A E) (P Q : A → Type 0) → IfOk r P → ((x : A) → P x → Q x) → IfOk r Q
ok_then (Ok x) P Q own next = next x own
ok_then (Err e) P Q own next = own

-- a column's line is read as its title
pub column_read : (text title : List ℕ) (r : Option (List ℕ)) → text ≡ 67 ∷ 9 ∷ title → ReadsAs IsTitleAt title r → ReadsAs IsColumnLine text r
column_read text title r parts own name = (
  λ e. let h = (own name).0 e in (rw h.1 h.0, parts ∙ ap (λ t. 67 ∷ 9 ∷ t) (sym h.1)),
  λ h. let same : 67 ∷ 9 ∷ title ≡ 67 ∷ 9 ∷ name = sym parts ∙ h.1 in let is : title ≡ name = cc same in (own name).1 (rw is h.0, sym is),
)

-- the lines of columns and rows, by their counts
pub record AreInner (head : Head) (lines : List (List ℕ)) (grid : Grid) : Type 0 where
  pub size : length lines ≡ head.columns + head.rows
  pub position : head.position ≡ grid.position
  pub titles : AreColumnLines (take head.columns lines) grid.columns
  pub each : AreRowLines head.columns (drop head.columns lines) grid.rows

-- by the counts of a first line
pub inner_parts : (head : Head) (lines : List (List ℕ)) (grid : Grid) → IsInnerOf head lines grid → AreInner head lines grid
inner_parts head lines grid own =
    let first : length own.first ≡ head.columns = pairs_length IsColumnLine own.first grid.columns own.titles ∙ sym own.columns in
    let second : length own.second ≡ head.rows = pairs_length (IsRowLine head.columns) own.second grid.rows own.each ∙ sym own.rows in
    let front : take head.columns lines ≡ own.first = ap (take head.columns) own.parts ∙ take_at own.first own.second head.columns first in
    let back : drop head.columns lines ≡ own.second = ap (drop head.columns) own.parts ∙ drop_at own.first own.second head.columns first in
    let whole : length lines ≡ length own.first + length own.second = ap length own.parts ∙ length-append own.first own.second in
    record {
      size = omega (arith, whole, first, second);
      position = own.position;
      titles = subst (λ t. AreColumnLines t grid.columns) (sym front) own.titles;
      each = subst (λ t. AreRowLines head.columns t grid.rows) (sym back) own.each;
    }

-- and back
pub parts_inner : (head : Head) (lines : List (List ℕ)) (grid : Grid) → AreInner head lines grid → IsInnerOf head lines grid
parts_inner head lines grid own =
    let first = pairs_length IsColumnLine (take head.columns lines) grid.columns own.titles in
    let second = pairs_length (IsRowLine head.columns) (drop head.columns lines) grid.rows own.each in
    let front = length-take head.columns lines in
    let back = length-drop head.columns lines in
    record {
      position = own.position;
      columns = omega (arith, own.size, first, front);
      rows = omega (arith, own.size, second, back);
      first = take head.columns lines;
      second = drop head.columns lines;
      parts = sym (take-append-drop head.columns lines);
      titles = own.titles;
      each = own.each;
    }

-- lines that are no columns and rows
pub inner_refused : (head : Head) (lines : List (List ℕ)) → ((grid : Grid) → AreInner head lines grid → ⊥) → ReadsAs (IsInnerOf head) lines None
inner_refused head lines never = reads_none (IsInnerOf head) lines (λ grid own. never grid (inner_parts head lines grid own))

-- the parts that are a grid's
same_grid : (head : Head) (grid : Grid) (columns : List (List ℕ)) (rows : List GridRow) → head.position ≡ grid.position → columns ≡ grid.columns → rows ≡ grid.rows → ◌≡◌ {A = Option Grid} (Some (record { position = head.position; columns = columns; rows = rows })) (Some grid)
same_grid head grid columns rows position titled each = rw (position, titled, each)

-- lines that are read as columns and rows
pub inner_read : (head : Head) (lines : List (List ℕ)) (c : Option (List (List ℕ))) (r : Option (List GridRow)) (columns : List (List ℕ)) (rows : List GridRow) → length lines ≡ head.columns + head.rows → ReadsAs AreColumnLines (take head.columns lines) c → ReadsAs (AreRowLines head.columns) (drop head.columns lines) r → c ≡ Some columns → r ≡ Some rows → ReadsAs (IsInnerOf head) lines (Some (record { position = head.position; columns = columns; rows = rows }))
inner_read head lines c r columns rows size titles each titled given grid =
    let made : Grid = record { position = head.position; columns = columns; rows = rows } in
    let parts : AreInner head lines made = record { size = size; position = refl; titles = (titles columns).0 titled; each = (each rows).0 given } in (
      λ e. let same : made ≡ grid = cc in subst (λ g. IsInnerOf head lines g) same (parts_inner head lines made parts),
      λ h.
          let own = inner_parts head lines grid h in
          same_grid head grid columns rows own.position (read_one AreColumnLines (take head.columns lines) c columns titles titled grid.columns own.titles) (read_one (AreRowLines head.columns) (drop head.columns lines) r rows each given grid.rows own.each),
    )

-- a part of lines, and its bytes
pub front_bytes : (lines front : List (Bor (List ℕ))) (n : ℕ) → front ≡ take n lines → bytes_of front ≡ take n (bytes_of lines)
front_bytes lines front n is = ap bytes_of is ∙ sym (take-map (λ t. t.now) n lines)

-- and what is after it
pub back_bytes : (lines back : List (Bor (List ℕ))) (n : ℕ) → back ≡ drop n lines → bytes_of back ≡ drop n (bytes_of lines)
back_bytes lines back n is = ap bytes_of is ∙ sym (drop-map (λ t. t.now) n lines)

-- the first item of a list
front_taken : {X : Type 0} (xs : List X) (d : X) (k m : ℕ) → k ≡ suc m → 0 < length xs → take k xs ≡ get_or xs 0 d ∷ take m (drop 1 xs)
front_taken [] d k m e h = absurd (omega (arith, h))
front_taken (x ∷ xs) d k m e h = ap (λ i. take i (x ∷ xs)) e

-- a list by its first item and its last two
three_ends : {X : Type 0} (xs : List X) (d : X) → 3 ≤ length xs → xs ≡ (get_or xs 0 d ∷ take (length xs - 2 - 1) (drop 1 xs)) ++ get_or xs (length xs - 2) d ∷ get_or xs (length xs - 2 + 1) d ∷ []
three_ends xs d h =
    let one = drop_more xs (length xs - 2) d (omega arith) in
    let two = drop_more xs (length xs - 2 + 1) d (omega arith) in
    let none = drop_all (length xs - 2 + 1 + 1) xs (omega arith) in
    let front = front_taken xs d (length xs - 2) (length xs - 2 - 1) (omega arith) (omega arith) in
    sym (take-append-drop (length xs - 2) xs)
    ∙ ap (λ t. take (length xs - 2) xs ++ t) (one ∙ ap (λ t. get_or xs (length xs - 2) d ∷ t) (two ∙ ap (λ t. get_or xs (length xs - 2 + 1) d ∷ t) none))
    ∙ ap (λ t. t ++ get_or xs (length xs - 2) d ∷ get_or xs (length xs - 2 + 1) d ∷ []) front

-- lists with the same two last items
same_ends : {X : Type 0} (xs ys : List X) (p q r s : X) → xs ++ p ∷ q ∷ [] ≡ ys ++ r ∷ s ∷ [] → (xs ≡ ys) × (p ≡ r) × (q ≡ s)
same_ends xs ys p q r s e =
    let last = same_from_push (xs ++ p ∷ []) (ys ++ r ∷ []) q s (append_assoc xs (p ∷ []) (q ∷ []) ∙ e ∙ sym (append_assoc ys (r ∷ []) (s ∷ []))) in
    let other = same_from_push xs ys p r last.0 in
    (other.0, other.1, last.1)

-- the lines between the first and the last two
abbrev pub inner_of : List (Bor (List ℕ)) → List (Bor (List ℕ))
inner_of lines = take (length lines - 2 - 1) (drop 1 lines)

-- lines are those of a grid, by their places
pub record AreEnds (lines : List (Bor (List ℕ))) (grid : Grid) : Type 0 where
  pub head : Head
  pub begins : IsHead (get_or lines 0 past).now head
  pub are : IsInnerOf head (bytes_of (inner_of lines)) grid
  pub dot : (get_or lines (length lines - 2) past).now ≡ codes "."
  pub last : (get_or lines (length lines - 2 + 1) past).now ≡ []

-- the bytes of lines by their places
whole_bytes : (lines : List (Bor (List ℕ))) → 3 ≤ length lines → bytes_of lines ≡ ((get_or lines 0 past).now ∷ bytes_of (inner_of lines)) ++ (get_or lines (length lines - 2) past).now ∷ (get_or lines (length lines - 2 + 1) past).now ∷ []
whole_bytes lines h =
    ap bytes_of (three_ends lines past h) ∙ map-append (λ t. t.now) (get_or lines 0 past ∷ inner_of lines) (get_or lines (length lines - 2) past ∷ get_or lines (length lines - 2 + 1) past ∷ [])

-- a grid's lines stand at these places
pub to_ends : (lines : List (Bor (List ℕ))) (grid : Grid) → 3 ≤ length lines → AreGridLines (bytes_of lines) grid → AreEnds lines grid
to_ends lines grid h own =
    let e = same_ends ((get_or lines 0 past).now ∷ bytes_of (inner_of lines)) (own.top ∷ own.inner) (get_or lines (length lines - 2) past).now (get_or lines (length lines - 2 + 1) past).now (codes ".") [] (sym (whole_bytes lines h) ∙ own.parts) in
    let front = e.0 in
    let top : own.top ≡ (get_or lines 0 past).now = cc front in
    let inner : own.inner ≡ bytes_of (inner_of lines) = cc front in
    record {
      head = own.head;
      begins = subst (λ t. IsHead t own.head) top own.begins;
      are = subst (λ t. IsInnerOf own.head t grid) inner own.are;
      dot = e.1;
      last = e.2;
    }

-- and back
pub from_ends : (lines : List (Bor (List ℕ))) (grid : Grid) → 3 ≤ length lines → AreEnds lines grid → AreGridLines (bytes_of lines) grid
from_ends lines grid h own = record {
  head = own.head;
  top = (get_or lines 0 past).now;
  inner = bytes_of (inner_of lines);
  begins = own.begins;
  are = own.are;
  parts = whole_bytes lines h ∙ ap (λ t. ((get_or lines 0 past).now ∷ bytes_of (inner_of lines)) ++ t ∷ (get_or lines (length lines - 2 + 1) past).now ∷ []) own.dot ∙ ap (λ t. ((get_or lines 0 past).now ∷ bytes_of (inner_of lines)) ++ codes "." ∷ t ∷ []) own.last;
}

-- lines that are no grid's
pub lines_refused : (lines : List (Bor (List ℕ))) → 3 ≤ length lines → ((grid : Grid) → AreEnds lines grid → ⊥) → ReadsAs AreGridLines (bytes_of lines) None
lines_refused lines h never = reads_none AreGridLines (bytes_of lines) (λ grid own. never grid (to_ends lines grid h own))

-- lines that are read as a grid
pub lines_read : (lines : List (Bor (List ℕ))) (t : Option Head) (head : Head) (r : Option Grid) → 3 ≤ length lines → ReadsAs IsHead (get_or lines 0 past).now t → t ≡ Some head → (get_or lines (length lines - 2) past).now ≡ codes "." → (get_or lines (length lines - 2 + 1) past).now ≡ [] → ReadsAs (IsInnerOf head) (bytes_of (inner_of lines)) r → ReadsAs AreGridLines (bytes_of lines) r
lines_read lines t head r h heads headed dot last inner grid = (
  λ e. from_ends lines grid h (record { head = head; begins = (heads head).0 headed; are = (inner grid).0 e; dot = dot; last = last }),
  λ own.
      let ends = to_ends lines grid h own in
      let same : ends.head ≡ head = sym (read_one IsHead (get_or lines 0 past).now t head heads headed ends.head ends.begins) in
      (inner grid).1 (subst (λ x. IsInnerOf x (bytes_of (inner_of lines)) grid) same ends.are),
)

-- a text that is not empty is told by its length
pub not_empty : (text : List ℕ) (b : Bool) → b ≡ (length text == 0) → b ≡ false → text ≡ [] → ⊥
not_empty text b is own same = omega (arith, not_none b (length text) is own, ap length same)

-- and so is one that is
pub is_empty : (text : List ℕ) (b : Bool) → b ≡ (length text == 0) → b ≡ true → text ≡ []
is_empty text b is own = nil_from_length text (is_none b (length text) is own)

-- the lines of columns have no line feed
columns_no_feed : (titles : List (List ℕ)) → All IsTitle titles → AreWithout 10 (map column_text titles)
columns_no_feed [] all = tt
columns_no_feed (t ∷ ts) all = (no_feed t (title_has_no_break t (All-head IsTitle t ts all)), columns_no_feed ts (All-tail IsTitle t ts all))

-- nor do two texts with a tab between them
none_joined : (xs ys : List ℕ) → list_any (λ b. b == 10) xs ≡ false → list_any (λ b. b == 10) ys ≡ false → list_any (λ b. b == 10) (xs ++ 9 ∷ ys) ≡ false
none_joined xs ys x y = list_any-append (λ b. b == 10) xs (9 ∷ ys) ∙ ap (λ t. t || list_any (λ b. b == 10) ys) x ∙ y

-- nor does a line of fields
fields_no_feed : (first : List ℕ) (fields : List (List ℕ)) → AreWithout 10 (first ∷ fields) → list_any (λ b. b == 10) (join_with_byte 9 (first ∷ fields)) ≡ false
fields_no_feed first [] own = own.0
fields_no_feed first (next ∷ fields) own = none_joined first (join_with_byte 9 (next ∷ fields)) own.0 (fields_no_feed next fields own.1)

-- nor do shown texts
shown_no_feed : (texts : List (List ℕ)) (values : List CellValue) → Pairwise Shows values texts → AreWithout 10 texts
shown_no_feed [] [] h = tt
shown_no_feed [] (v ∷ vs) h = absurd h
shown_no_feed (t ∷ ts) [] h = absurd h
shown_no_feed (t ∷ ts) (v ∷ vs) h = (no_feed t h.0.0, shown_no_feed ts vs h.1)

-- nor does a row's line
row_no_feed : (columns : ℕ) (text : List ℕ) (row : GridRow) → IsRowLine columns text row → list_any (λ b. b == 10) text ≡ false
row_no_feed columns text row own =
    rw own.1.is (fields_no_feed (codes "R") (row.title ∷ own.1.shown) (refl, (no_feed row.title (title_has_no_break row.title own.0.title), shown_no_feed own.1.shown row.values own.1.each)))

-- nor do the lines of rows
rows_no_feed : (columns : ℕ) (texts : List (List ℕ)) (rows : List GridRow) → AreRowLines columns texts rows → AreWithout 10 texts
rows_no_feed columns [] [] h = tt
rows_no_feed columns [] (r ∷ rs) h = absurd h
rows_no_feed columns (t ∷ ts) [] h = absurd h
rows_no_feed columns (t ∷ ts) (r ∷ rs) h = (row_no_feed columns t r h.0, rows_no_feed columns ts rs h.1)

-- the lines of a grid
abbrev lines_of : Grid → List (List ℕ) → List (List ℕ)
lines_of grid rows = head_text grid.position (length grid.columns) (length grid.rows) ∷ map column_text grid.columns ++ rows ++ codes "." ∷ []

-- there are as many as columns and rows, and two
lines_length : (grid : Grid) (rows : List (List ℕ)) → length rows ≡ length grid.rows → length (lines_of grid rows) ≡ length grid.columns + length grid.rows + 2
lines_length grid rows same =
    omega (arith, same, length-append (map column_text grid.columns ++ rows) (codes "." ∷ []), length-append (map column_text grid.columns) rows, length-map grid.columns column_text)

-- a grid's text is parted into its lines
pub form_lines : (bytes : List ℕ) (grid : Grid) → length (parted 10 bytes) < 2 ^ 64 → IsOfGrid bytes grid → AreGridLines (parted 10 bytes) grid
form_lines bytes grid small own =
    let rows = own.written.rows in
    let count : length grid.rows ≡ length rows = pairs_length (IsRowText Shows) grid.rows rows own.written.each in
    let fits : length (lines_of grid rows) ≤ length (parted 10 bytes) = subst (λ t. length (lines_of grid rows) ≤ length (parted 10 t)) (sym own.written.is) (lines_count (lines_of grid rows)) in
    let long = lines_length grid rows (sym count) in
    let titles : AreColumnLines (map column_text grid.columns) grid.columns = paired (λ title text. text ≡ column_text title) IsTitle grid.columns (map column_text grid.columns) (mapped column_text grid.columns) own.whole.columns in
    let each : AreRowLines (length grid.columns) rows grid.rows = paired (IsRowText Shows) (IsRow (length grid.columns)) grid.rows rows own.written.each own.whole.rows in
    let columns_fit : length grid.columns < 2 ^ 64 = omega (arith, small, fits, long) in
    let rows_fit : length grid.rows < 2 ^ 64 = omega (arith, small, fits, long) in
    let apart : AreWithout 10 (lines_of grid rows) = (
      head_no_feed grid.position (length grid.columns) (length grid.rows) own.whole.last columns_fit rows_fit,
      without_join 10 (map column_text grid.columns ++ rows) (codes "." ∷ []) (without_join 10 (map column_text grid.columns) rows (columns_no_feed grid.columns own.whole.columns) (rows_no_feed (length grid.columns) rows grid.rows each)) (refl, tt),
    ) in
    record {
      head = record { position = grid.position; columns = length grid.columns; rows = length grid.rows };
      top = head_text grid.position (length grid.columns) (length grid.rows);
      inner = map column_text grid.columns ++ rows;
      begins = record { is = refl; first = own.whole.first; last = own.whole.last; columns = columns_fit; rows = rows_fit };
      are = record { position = refl; columns = refl; rows = refl; first = map column_text grid.columns; second = rows; parts = refl; titles = titles; each = each };
      parts = ap (parted 10) own.written.is ∙ parted_lines (lines_of grid rows) apart ∙ ap (λ t. head_text grid.position (length grid.columns) (length grid.rows) ∷ t) (append_assoc (map column_text grid.columns ++ rows) (codes "." ∷ []) ([] ∷ []));
    }

-- the first line of a grid
same_top : (grid : Grid) (head : Head) (top : List ℕ) → IsHead top head → head.position ≡ grid.position → head.columns ≡ length grid.columns → head.rows ≡ length grid.rows → top ≡ head_text grid.position (length grid.columns) (length grid.rows)
same_top grid head top own position columns rows =
    own.is ∙ ap (λ n. head_text n head.columns head.rows) position ∙ ap (λ n. head_text grid.position n head.rows) columns ∙ ap (λ n. head_text grid.position (length grid.columns) n) rows

-- and a text that is parted into a grid's lines is the grid's
pub lines_form : (bytes : List ℕ) (grid : Grid) → AreGridLines (parted 10 bytes) grid → IsOfGrid bytes grid
lines_form bytes grid own =
    let inner = own.are in
    let titles = unpaired (λ title text. text ≡ column_text title) IsTitle grid.columns inner.first inner.titles in
    let each = unpaired (IsRowText Shows) (IsRow own.head.columns) grid.rows inner.second inner.each in
    let first : inner.first ≡ map column_text grid.columns = is_mapped column_text grid.columns inner.first titles.0 in
    let top = same_top grid own.head own.top own.begins inner.position inner.columns inner.rows in
    let middle : own.inner ≡ map column_text grid.columns ++ inner.second = inner.parts ∙ ap (λ t. t ++ inner.second) first in
    let parts : parted 10 bytes ≡ lines_of grid inner.second ++ [] ∷ [] =
    own.parts ∙ ap (λ t. t ∷ own.inner ++ codes "." ∷ [] ∷ []) top
    ∙ ap (λ t. head_text grid.position (length grid.columns) (length grid.rows) ∷ t) (ap (λ t. t ++ codes "." ∷ [] ∷ []) middle ∙ sym (append_assoc (map column_text grid.columns ++ inner.second) (codes "." ∷ []) ([] ∷ []))) in
    record {
      whole = record {
        first = subst (λ n. 0 < n) inner.position own.begins.first;
        last = subst (λ n. n < 2 ^ 64) inner.position own.begins.last;
        columns = titles.1;
        rows = subst (λ n. All (IsRow n) grid.rows) inner.columns each.1;
      };
      written = record {
        rows = inner.second;
        each = each.0;
        is = sym (join_with_byte-slice_split 10 bytes) ∙ ap (join_with_byte 10) parts ∙ lines_joined (lines_of grid inner.second);
      };
    }

-- so a text is read as a grid where its lines are
pub form_read : (bytes : List ℕ) (r : Option Grid) → length (parted 10 bytes) < 2 ^ 64 → ReadsAs AreGridLines (parted 10 bytes) r → ReadsAs IsOfGrid bytes r
form_read bytes r small own grid = (λ e. lines_form bytes grid ((own grid).0 e), λ h. (own grid).1 (form_lines bytes grid small h))
