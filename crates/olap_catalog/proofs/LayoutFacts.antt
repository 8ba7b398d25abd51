-- The columns of a schema's dimensions, one hierarchy after another.
use Rattle.std.proofs.Common.{min, length-drop, ◌≡◌, ◌∙◌, ◌+◌, ◌<◌, ◌≤◌, ◌++◌, ℕ, suc, List, [], ◌∷◌, refl, sym, ap, drop, length, flat_map, get_or, arith}
use Rattle.std.specs.List.{zip}
use Rattle.std.proofs.lemmas.List.{append-nil, append_assoc, length-append}
use Rattle.olap_meaning.specs.declared.schema.SchemaDimension.{SchemaDimension}
use Rattle.olap_meaning.specs.declared.schema.SchemaHierarchy.{SchemaHierarchy}
use Rattle.olap_meaning.specs.declared.schema.SchemaLevel.{SchemaLevel}
use Rattle.olap_meaning.specs.declared.tables.Column.{Column}
use Rattle.olap_meaning.specs.declared.tables.Hierarchy.{Hierarchy}
use Rattle.olap_meaning.specs.Schema.{columns_from, all_columns, levels_of, hierarchies_from, numbers_from, all_name}
use Rattle.olap_meaning.proofs.Lists.{drop_step}

plus_one : (n : ℕ) → n + 1 ≡ suc n
plus_one n = omega arith

-- what a list's items give, from one on
pub flat_here : {A B : Type 0} (f : A → List B) (xs : List A) (i : ℕ) (x : A) → i < length xs → x ≡ get_or xs i x → flat_map f (drop i xs) ≡ f x ++ flat_map f (drop (i + 1) xs)
flat_here f xs i x within at = ap (flat_map f) (drop_step xs i x within at)

pub flat_length : {A B : Type 0} (f : A → List B) (xs : List A) (i : ℕ) (x : A) → i < length xs → x ≡ get_or xs i x → length (flat_map f (drop i xs)) ≡ length (f x) + length (flat_map f (drop (i + 1) xs))
flat_length f xs i x within at = ap length (flat_here f xs i x within at) ∙ length-append (f x) (flat_map f (drop (i + 1) xs))

pub columns_append : (d field : ℕ) (xs ys : List SchemaLevel) → columns_from d field (xs ++ ys) ≡ columns_from d field xs ++ columns_from d (field + length xs) ys
columns_append d field [] ys = let e : field + 0 ≡ field = omega arith in rw e refl
columns_append d field (x ∷ xs) ys =
    let own : Column = record { name = x.name; dimension = d; field = field } in
    let e : suc field + length xs ≡ field + length (x ∷ xs) = omega arith in
    ap (λ columns. own ∷ columns) (columns_append d (suc field) xs ys ∙ ap (λ n. columns_from d (suc field) xs ++ columns_from d n ys) e)

pub length_columns : (d field : ℕ) (xs : List SchemaLevel) → length (columns_from d field xs) ≡ length xs
length_columns d field [] = refl
length_columns d field (x ∷ xs) = let e = length_columns d (suc field) xs in omega arith

-- one hierarchy of a dimension more
pub dimension_step : (columns after whole : List Column) (d field count : ℕ) (hs : List SchemaHierarchy) (i : ℕ) (h : SchemaHierarchy) → i < length hs → h ≡ get_or hs i h
    → columns ++ columns_from d field (flat_map (λ x. x.levels) (drop i hs)) ≡ whole → after ≡ columns ++ columns_from d field h.levels → count ≡ length h.levels
    → after ++ columns_from d (field + count) (flat_map (λ x. x.levels) (drop (i + 1) hs)) ≡ whole
dimension_step columns after whole d field count hs i h within at rest added counted =
    let levels : SchemaHierarchy → List SchemaLevel = λ x. x.levels in
    let later = flat_map levels (drop (i + 1) hs) in
    ap (λ xs. xs ++ columns_from d (field + count) later) added
    ∙ ap (λ n. (columns ++ columns_from d field h.levels) ++ columns_from d (field + n) later) counted
    ∙ append_assoc columns (columns_from d field h.levels) (columns_from d (field + length h.levels) later)
    ∙ ap (λ xs. columns ++ xs) (sym (columns_append d field h.levels later))
    ∙ ap (λ ls. columns ++ columns_from d field ls) (sym (flat_here levels hs i h within at))
    ∙ rest

-- one dimension more
pub schema_step : (columns after whole : List Column) (ds : List SchemaDimension) (i : ℕ) (d : SchemaDimension) → i < length ds → d ≡ get_or ds i d
    → columns ++ all_columns i (drop i ds) ≡ whole → after ≡ columns ++ columns_from i 0 (levels_of d)
    → after ++ all_columns (i + 1) (drop (i + 1) ds) ≡ whole
schema_step columns after whole ds i d within at rest added =
    ap (λ xs. xs ++ all_columns (i + 1) (drop (i + 1) ds)) added
    ∙ append_assoc columns (columns_from i 0 (levels_of d)) (all_columns (i + 1) (drop (i + 1) ds))
    ∙ ap (λ n. columns ++ (columns_from i 0 (levels_of d) ++ all_columns n (drop (i + 1) ds))) (plus_one i)
    ∙ ap (λ xs. columns ++ all_columns i xs) (sym (drop_step ds i d within at))
    ∙ rest

-- one hierarchy more of those of a dimension
pub hierarchies_step : (built after whole : List Hierarchy) (d column count : ℕ) (hs : List SchemaHierarchy) (i : ℕ) (h : SchemaHierarchy) → i < length hs → h ≡ get_or hs i h
    → built ++ hierarchies_from d column (drop i hs) ≡ whole → after ≡ built ++ (record { name = h.name; dimension = d; all_member = all_name h; levels = numbers_from column h.levels }) ∷ [] → count ≡ length h.levels
    → after ++ hierarchies_from d (column + count) (drop (i + 1) hs) ≡ whole
hierarchies_step built after whole d column count hs i h within at rest added counted =
    let own : Hierarchy = record { name = h.name; dimension = d; all_member = all_name h; levels = numbers_from column h.levels } in
    let later = drop (i + 1) hs in
    ap (λ xs. xs ++ hierarchies_from d (column + count) later) added
    ∙ ap (λ n. (built ++ own ∷ []) ++ hierarchies_from d (column + n) later) counted
    ∙ append_assoc built (own ∷ []) (hierarchies_from d (column + length h.levels) later)
    ∙ ap (λ xs. built ++ hierarchies_from d column xs) (sym (drop_step hs i h within at))
    ∙ rest

-- the room that is left after one item more
pub room_step : {A B : Type 0} (f : A → List B) (xs : List A) (i n count whole : ℕ) (x : A) → i < length xs → x ≡ get_or xs i x → n + length (flat_map f (drop i xs)) ≡ whole → count ≡ length (f x)
    → (n + count) + length (flat_map f (drop (i + 1) xs)) ≡ whole
room_step f xs i n count whole x within at room counted = let e = flat_length f xs i x within at in omega arith

-- one pair more of two lists side by side
pub zip_step : {A B : Type 0} (pairs after : List (A × B)) (whole : List (A × B)) (xs : List A) (ys : List B) (i : ℕ) (x : A) (y : B) → i < length xs → i < length ys → x ≡ get_or xs i x → y ≡ get_or ys i y
    → after ≡ pairs ++ (x, y) ∷ [] → pairs ++ zip (drop i xs) (drop i ys) ≡ whole → after ++ zip (drop (i + 1) xs) (drop (i + 1) ys) ≡ whole
zip_step pairs after whole xs ys i x y in_xs in_ys at_x at_y added rest =
    ap (λ ps. ps ++ zip (drop (i + 1) xs) (drop (i + 1) ys)) added ∙ append_assoc pairs ((x, y) ∷ []) (zip (drop (i + 1) xs) (drop (i + 1) ys))
    ∙ ap (λ zs. pairs ++ zip zs (y ∷ drop (i + 1) ys)) (sym (drop_step xs i x in_xs at_x)) ∙ ap (λ zs. pairs ++ zip (drop i xs) zs) (sym (drop_step ys i y in_ys at_y)) ∙ rest

-- no pair is left past the shorter of them
pub zip_end : {A B : Type 0} (pairs whole : List (A × B)) (xs : List A) (ys : List B) (i : ℕ) → min (length xs) (length ys) ≤ i → pairs ++ zip (drop i xs) (drop i ys) ≡ whole → pairs ≡ whole
zip_end pairs whole xs ys i past rest = sym (append-nil pairs) ∙ ap (λ zs. pairs ++ zs) (sym (ended (drop i xs) (drop i ys) (omega (arith, length-drop i xs, length-drop i ys)))) ∙ rest
  where
    ended : {A B : Type 0} (us : List A) (vs : List B) → min (length us) (length vs) ≤ 0 → zip us vs ≡ []
    ended [] vs h = refl
    ended (u ∷ us) [] h = refl
    ended (u ∷ us) (v ∷ vs) h = absurd (omega arith)
