-- The lines of rows and their fields.
use Rattle.std.proofs.Common.{Bor, not, eqb, ◌≡◌, ◌∙◌, ℕ, Bool, true, false, List, [], ◌∷◌, Option, Some, None, codes, length, sym, ap, refl, subst}
use Rattle.std.proofs.lemmas.Bool.{not-false}
use Rattle.std.specs.Cmp.Lexicographic.{pointwise}
use Rattle.std.specs.List.{join_with_byte, IsFirstAndRest}
use Rattle.std.proofs.lemmas.Bool.Decides.{Decides-eqb}
use Rattle.std.proofs.lemmas.Slice.Eq.{slice_eq-Decides}
use Rattle.std.proofs.lemmas.List.Splits.{join_with_byte-slice_split}
use Rattle.olap_meaning.specs.declared.CellValue.{CellValue}
use Rattle.olap_meaning.specs.Texts.{CanBeShown}
use Rattle.query_meaning.specs.declared.grids.GridRow.{GridRow}
use Rattle.query_meaning.specs.Shown.{Shows, breaks}
use Rattle.query_meaning.specs.Titles.{IsTitle}
use Rattle.shown_values.specs.Shown.{IsReadAs}
use Rattle.grid_reader.specs.Lines.{AreShown, IsRowLine, IsShown, parted}
use Rattle.grid_reader.specs.Reading.{IsTitleAt, ReadsAs}
use Rattle.grid_reader.proofs.Breaks.{no_tab}
use Rattle.grid_reader.proofs.Joins.{AreWithout, parted_joined}
use Rattle.grid_reader.proofs.Lists.{bytes_of, pairs_length, paired, unpaired, reads_none, read_one}
use Rattle.grid_reader.proofs.TitleFacts.{title_has_no_break}

-- a text without breaks is read as the value that it shows
pub shown_read : (text : List ℕ) (r : Option CellValue) → breaks text ≡ [] → IsReadAs text r → ReadsAs IsShown text r
shown_read text r own is value = (λ e. let h = (is value).0 e in (h.0, (own, h.1)), λ h. (is value).1 h.0 h.1.1)

-- shown texts have no tab
shown_no_tab : (texts : List (List ℕ)) (values : List CellValue) → AreShown texts values → AreWithout 9 texts
shown_no_tab [] [] h = tt
shown_no_tab [] (v ∷ vs) h = absurd h
shown_no_tab (t ∷ ts) [] h = absurd h
shown_no_tab (t ∷ ts) (v ∷ vs) h = (no_tab t h.0.1.0, shown_no_tab ts vs h.1)

-- fields are those of a row of this many columns
pub record AreFieldsOf (columns : ℕ) (row : GridRow) (first title : List ℕ) (texts : List (List ℕ)) : Type 0 where
  pub begins : first ≡ codes "R"
  pub titled : title ≡ row.title
  pub formed : IsTitle row.title
  pub count : length row.values ≡ columns
  pub values : AreShown texts row.values

-- a row's line is parted into its fields
pub line_fields : (columns : ℕ) (line first title : List ℕ) (texts : List (List ℕ)) (row : GridRow) → parted 9 line ≡ first ∷ title ∷ texts → IsRowLine columns line row → AreFieldsOf columns row first title texts
line_fields columns line first title texts row parts own =
    let shown : AreShown own.1.shown row.values = paired Shows CanBeShown row.values own.1.shown own.1.each own.0.values in
    let is : parted 9 line ≡ codes "R" ∷ row.title ∷ own.1.shown = ap (parted 9) own.1.is ∙ parted_joined 9 (codes "R") (row.title ∷ own.1.shown) (refl, (no_tab row.title (title_has_no_break row.title own.0.title), shown_no_tab own.1.shown row.values shown)) in
    let same : first ∷ title ∷ texts ≡ codes "R" ∷ row.title ∷ own.1.shown = sym parts ∙ is in
    let front : first ≡ codes "R" = cc same in
    let second : title ≡ row.title = cc same in
    let others : own.1.shown ≡ texts = cc same in
    record { begins = front; titled = second; formed = own.0.title; count = own.0.count; values = subst (λ t. AreShown t row.values) others shown }

-- and such fields make a row's line
pub fields_line : (columns : ℕ) (line first title : List ℕ) (texts : List (List ℕ)) (row : GridRow) → parted 9 line ≡ first ∷ title ∷ texts → AreFieldsOf columns row first title texts → IsRowLine columns line row
fields_line columns line first title texts row parts own =
    let back = unpaired Shows CanBeShown row.values texts own.values in
    let same : first ∷ title ∷ texts ≡ codes "R" ∷ row.title ∷ texts = ap (λ t. t ∷ title ∷ texts) own.begins ∙ ap (λ t. codes "R" ∷ t ∷ texts) own.titled in (
      record { title = own.formed; count = own.count; values = back.1 },
      record { shown = texts; each = back.0; is = sym (join_with_byte-slice_split 9 line) ∙ ap (join_with_byte 9) (parts ∙ same) },
    )

-- the fields of a line, as they are split off
pub row_parts : (line : List ℕ) (fields all others texts : List (Bor (List ℕ))) (first title : Bor (List ℕ)) → bytes_of fields ≡ parted 9 line → all ≡ fields → IsFirstAndRest all first others → IsFirstAndRest others title texts → parted 9 line ≡ first.now ∷ title.now ∷ bytes_of texts
row_parts line fields all others texts first title parts same one two =
    sym parts ∙ ap bytes_of (sym same ∙ one.0 ∙ ap (λ t. first ∷ t) two.0)

-- a line whose fields are not those of a row
pub row_refused : (columns : ℕ) (line first title : List ℕ) (texts : List (List ℕ)) → parted 9 line ≡ first ∷ title ∷ texts → ((row : GridRow) → AreFieldsOf columns row first title texts → ⊥) → ReadsAs (IsRowLine columns) line None
row_refused columns line first title texts parts never =
    reads_none (IsRowLine columns) line (λ row own. never row (line_fields columns line first title texts row parts own))

-- the parts that are a row's
same_row : (row : GridRow) (name : List ℕ) (values : List CellValue) → name ≡ row.title → values ≡ row.values → ◌≡◌ {A = Option GridRow} (Some (record { title = name; values = values })) (Some row)
same_row row name values titled valued = rw (titled, valued)

-- a line whose fields are read as those of a row
pub row_read : (columns : ℕ) (line first title : List ℕ) (texts : List (List ℕ)) (t : Option (List ℕ)) (v : Option (List CellValue)) (name : List ℕ) (values : List CellValue) → parted 9 line ≡ first ∷ title ∷ texts → first ≡ codes "R" → length texts ≡ columns → ReadsAs IsTitleAt title t → ReadsAs AreShown texts v → t ≡ Some name → v ≡ Some values → ReadsAs (IsRowLine columns) line (Some (record { title = name; values = values }))
row_read columns line first title texts t v name values parts begins count titles shown named valued row =
    let titled = (titles name).0 named in
    let own = (shown values).0 valued in
    let made : GridRow = record { title = name; values = values } in
    let fields : AreFieldsOf columns made first title texts = record {
      begins = begins;
      titled = sym titled.1;
      formed = rw titled.1 titled.0;
      count = sym (pairs_length IsShown texts values own) ∙ count;
      values = own;
    } in (
      λ e. let same : made ≡ row = cc in subst (λ r. IsRowLine columns line r) same (fields_line columns line first title texts made parts fields),
      λ h.
          let f = line_fields columns line first title texts row parts h in
          same_row row name values (read_one IsTitleAt title t name titles named row.title (rw f.titled f.formed, sym f.titled)) (read_one AreShown texts v values shown valued row.values f.values),
    )

-- what a test for another text tells
pub other_text : (text letter word : List ℕ) (r : Bool) → letter ≡ word → r ≡ not (pointwise eqb text letter) → r ≡ true → text ≡ word → ⊥
other_text text letter word r is told own same =
    let d = slice_eq-Decides Decides-eqb text letter (pointwise eqb text letter) refl in
    let equal : pointwise eqb text letter ≡ true = d.1 (same ∙ sym is) in
    let clash : true ≡ false = sym own ∙ told ∙ ap not equal in
    cc

-- or of the text
pub this_text : (text letter word : List ℕ) (r : Bool) → letter ≡ word → r ≡ not (pointwise eqb text letter) → r ≡ false → text ≡ word
this_text text letter word r is told own =
    let d = slice_eq-Decides Decides-eqb text letter (pointwise eqb text letter) refl in
    d.0 (not-false (pointwise eqb text letter) (sym told ∙ own)) ∙ is
