-- The lines of columns and rows, one after another.
use Rattle.std.proofs.Common.{◌≡◌, ◌∙◌, ◌++◌, ◌+◌, ◌<◌, ℕ, All, List, [], ◌∷◌, length, map, take, get_or, sym, ap, subst, refl, flat_map, codes, append_assoc}
use Rattle.std.specs.List.{join_with_byte}
use Rattle.std.proofs.lemmas.Grind.{flat_map-append}
use Rattle.std.proofs.lemmas.List.Elements.{All-append, All-cons, All-nil}
use Rattle.std.proofs.lemmas.List.{append-nil, map-append, take_more}
use Rattle.olap_meaning.specs.declared.CellValue.{CellValue}
use Rattle.olap_meaning.specs.Texts.{line}
use Rattle.query_meaning.specs.declared.grids.GridRow.{GridRow}
use Rattle.query_meaning.specs.GridForm.{IsRowText, Pairwise, column_text, fields_text}
use Rattle.query_meaning.specs.Titles.{IsTitle}
use Rattle.result_layout.specs.Lines.{AreRowsBehind, AreShownBehind}

-- one item more of a list that is mapped
pub map_at : {A B : Type 0} (f : A → B) (xs : List A) (i : ℕ) (d : A) → i < length xs → map f (take (i + 1) xs) ≡ map f (take i xs) ++ f (get_or xs i d) ∷ []
map_at f xs i d within = ap (map f) (take_more xs i d within) ∙ map-append f (take i xs) (get_or xs i d ∷ [])

pub pairwise_append : {A B : Type 0} (R : A → B → Type 0) (xs xs' : List A) (ys ys' : List B) → Pairwise R xs ys → Pairwise R xs' ys' → Pairwise R (xs ++ xs') (ys ++ ys')
pairwise_append R [] xs' [] ys' a b = b
pairwise_append R [] xs' (y ∷ ys) ys' a b = absurd a
pairwise_append R (x ∷ xs) xs' [] ys' a b = absurd a
pairwise_append R (x ∷ xs) xs' (y ∷ ys) ys' a b = (a.0, pairwise_append R xs xs' ys ys' a.1 b)

-- no shown text yet
pub none_shown : (shows : CellValue → List ℕ → Type 0) (text : List ℕ) → AreShownBehind shows [] text text
none_shown shows text = record { shown = []; each = tt; is = sym (append-nil text) }

-- one shown text more
pub one_shown : (shows : CellValue → List ℕ → Type 0) (values more : List CellValue) (value : CellValue) (before middle text after : List ℕ) → AreShownBehind shows values before middle → shows value text
    → more ≡ values ++ value ∷ [] → after ≡ (middle ++ 9 ∷ []) ++ text → AreShownBehind shows more before after
one_shown shows values more value before middle text after own one are is = record {
  shown = own.shown ++ text ∷ [];
  each = subst (λ vs. Pairwise shows vs (own.shown ++ text ∷ [])) (sym are) (pairwise_append shows values (value ∷ []) own.shown (text ∷ []) own.each (one, tt));
  is = is ∙ append_assoc middle (9 ∷ []) text ∙ ap (λ t. t ++ (9 ∷ text)) own.is ∙ append_assoc before (flat_map (λ t. 9 ∷ t) own.shown) (9 ∷ text)
      ∙ ap (λ t. before ++ (flat_map (λ t. 9 ∷ t) own.shown ++ t)) (sym (append-nil (9 ∷ text)))
      ∙ ap (λ t. before ++ t) (sym (flat_map-append (λ t. 9 ∷ t) own.shown (text ∷ [])));
}

-- no row yet
pub none_laid : (shows : CellValue → List ℕ → Type 0) (text : List ℕ) → AreRowsBehind shows [] text text
none_laid shows text = record { lines = []; each = tt; is = sym (append-nil text) }

-- rows, and others after them
pub rows_laid : (shows : CellValue → List ℕ → Type 0) (rows others all : List GridRow) (before middle after : List ℕ) → AreRowsBehind shows rows before middle → AreRowsBehind shows others middle after → all ≡ rows ++ others → AreRowsBehind shows all before after
rows_laid shows rows others all before middle after own more are = record {
  lines = own.lines ++ more.lines;
  each = subst (λ rs. Pairwise (IsRowText shows) rs (own.lines ++ more.lines)) (sym are) (pairwise_append (IsRowText shows) rows others own.lines more.lines own.each more.each);
  is = more.is ∙ ap (λ t. t ++ flat_map line more.lines) own.is ∙ append_assoc before (flat_map line own.lines) (flat_map line more.lines) ∙ ap (λ t. before ++ t) (sym (flat_map-append line own.lines more.lines));
}

-- fields after a first one, each after a tab
fields_behind : (first : List ℕ) (others : List (List ℕ)) → join_with_byte 9 (first ∷ others) ≡ first ++ flat_map (λ t. 9 ∷ t) others
fields_behind first [] = sym (append-nil first)
fields_behind first (next ∷ others) = ap (λ t. first ++ 9 ∷ t) (fields_behind next others)

-- the line of one row
pub row_laid : (shows : CellValue → List ℕ → Type 0) (row : GridRow) (title before marked titled valued after : List ℕ) → title ≡ row.title → marked ≡ before ++ 82 ∷ 9 ∷ [] → titled ≡ marked ++ title
    → AreShownBehind shows row.values titled valued → after ≡ valued ++ 10 ∷ [] → AreRowsBehind shows (row ∷ []) before after
row_laid shows row title before marked titled valued after own mark named values ended =
    let texts = flat_map (λ t. 9 ∷ t) values.shown in
    let text = fields_text (codes "R" ∷ row.title ∷ values.shown) in
    let whole : text ≡ 82 ∷ 9 ∷ (row.title ++ texts) = ap (λ t. 82 ∷ 9 ∷ t) (fields_behind row.title values.shown) in
    record {
      lines = text ∷ [];
      each = (record { shown = values.shown; each = values.each; is = refl }, tt);
      is = ended ∙ ap (λ t. t ++ 10 ∷ []) (values.is ∙ ap (λ t. t ++ texts) (named ∙ ap (λ t. t ++ title) mark ∙ ap (λ t. (before ++ 82 ∷ 9 ∷ []) ++ t) own ∙ append_assoc before (82 ∷ 9 ∷ []) row.title)
          ∙ append_assoc before (82 ∷ 9 ∷ row.title) texts ∙ ap (λ t. before ++ t) (sym whole)) ∙ append_assoc before text (10 ∷ []) ∙ ap (λ t. before ++ t) (sym (append-nil (line text)));
    }

-- the line of one column more
pub column_laid : (titles more : List (List ℕ)) (title text before middle marked titled after : List ℕ) → middle ≡ before ++ flat_map line (map column_text titles) → more ≡ titles ++ title ∷ [] → text ≡ title
    → marked ≡ middle ++ 67 ∷ 9 ∷ [] → titled ≡ marked ++ text → after ≡ titled ++ 10 ∷ [] → after ≡ before ++ flat_map line (map column_text more)
column_laid titles more title text before middle marked titled after is are own mark named ended =
    let lines = flat_map line (map column_text titles) in
    let last = line (column_text title) in
    let whole : ((middle ++ 67 ∷ 9 ∷ []) ++ title) ++ 10 ∷ [] ≡ middle ++ last =
    ap (λ t. t ++ 10 ∷ []) (append_assoc middle (67 ∷ 9 ∷ []) title) ∙ append_assoc middle (67 ∷ 9 ∷ title) (10 ∷ []) in
    ended ∙ ap (λ t. t ++ 10 ∷ []) (named ∙ ap (λ t. t ++ text) mark ∙ ap (λ t. (middle ++ 67 ∷ 9 ∷ []) ++ t) own) ∙ whole ∙ ap (λ t. t ++ last) is ∙ append_assoc before lines last
    ∙ ap (λ t. before ++ (lines ++ t)) (sym (append-nil last)) ∙ ap (λ t. before ++ t) (sym (flat_map-append line (map column_text titles) (column_text title ∷ [])))
    ∙ ap (λ ts. before ++ flat_map line ts) (sym (map-append column_text titles (title ∷ []))) ∙ ap (λ ts. before ++ flat_map line (map column_text ts)) (sym are)

-- one title more
pub titles_more : (titles more : List (List ℕ)) (title : List ℕ) → more ≡ titles ++ title ∷ [] → All IsTitle titles → IsTitle title → All IsTitle more
titles_more titles more title are own one = subst (All IsTitle) (sym are) (All-append IsTitle titles (title ∷ []) own (All-cons IsTitle title [] one (All-nil IsTitle)))
