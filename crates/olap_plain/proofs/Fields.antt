-- One field of some records, record by record.
use Rattle.std.proofs.Common.{◌≡◌, refl, sym, ◌∙◌, ap, ℕ, ◌+◌, ◌<◌, ◌≤◌, List, [], ◌∷◌, ◌++◌, length, take, drop, Bool, true, false, cond, not, ◌||◌, Option, Some, None, bytes_eq, map, filter_map, slice_get, position, get_or, take_all, arith}
use Rattle.std.specs.List.{list_any, cons_option}
use Rattle.std.proofs.lemmas.List.{append-nil, append_assoc, take-append-drop}
use Rattle.std.proofs.lemmas.List.Elements.{filter_map-append}
use Rattle.olap_meaning.specs.declared.tables.Record.{Record}
use Rattle.olap_meaning.specs.declared.tables.Measure.{Measure}
use Rattle.olap_meaning.specs.History.{is_some_and}
use Rattle.olap_meaning.specs.Catalog.{first_appearances, field_texts}
use Rattle.std.proofs.lemmas.List.Folds.{list_any-append}
use Rattle.std.proofs.lemmas.Bool.{or_from}
use Rattle.olap_meaning.proofs.Loads.{some_and}
use Rattle.olap_meaning.proofs.Appearances.{count_push, number_here, number_none}
use Rattle.olap_meaning.proofs.Lists.{take_step}

-- a test of what a function gives, element by element
pub any-filter_map : {A B : Type 0} (test : B → Bool) (h : A → Option B) (xs : List A) → list_any test (filter_map h xs) ≡ list_any (λ x. is_some_and test (h x)) xs
any-filter_map test h [] = refl
any-filter_map {A} {B} test h (x ∷ xs) = by (h x) (any-filter_map test h xs)
  where
    by : (o : Option B) → list_any test (filter_map h xs) ≡ list_any (λ x. is_some_and test (h x)) xs → list_any test (cons_option o (filter_map h xs)) ≡ (is_some_and test o || list_any (λ x. is_some_and test (h x)) xs)
    by None rest = rest
    by (Some y) rest = ap (λ b. test y || b) rest

split_at : {A : Type 0} (xs : List A) (i : ℕ) (x : A) → i < length xs → x ≡ get_or xs i x → xs ≡ take i xs ++ x ∷ drop (i + 1) xs
split_at xs i x l at =
    sym (take-append-drop (i + 1) xs) ∙ ap (λ ys. ys ++ drop (i + 1) xs) (take_step xs i x l at) ∙ append_assoc (take i xs) (x ∷ []) (drop (i + 1) xs)

-- how many different texts there are with one more record
pub count_more : (f : ℕ) (rs : List Record) (r : Record) →
    length (first_appearances (field_texts f (rs ++ r ∷ [])))
    ≡ length (first_appearances (field_texts f rs)) + cond (is_some_and (λ text. not (list_any (bytes_eq text) (field_texts f rs))) (slice_get r.fields f)) 1 0
count_more f rs r = ap (λ texts. length (first_appearances texts)) (filter_map-append (λ x. slice_get x.fields f) rs (r ∷ [])) ∙ by (slice_get r.fields f)
  where
    by : (o : Option (List ℕ)) →
        length (first_appearances (field_texts f rs ++ cons_option o [])) ≡ length (first_appearances (field_texts f rs)) + cond (is_some_and (λ text. not (list_any (bytes_eq text) (field_texts f rs))) o) 1 0
    by None = ap (λ texts. length (first_appearances texts)) (append-nil (field_texts f rs)) ∙ omega arith
    by (Some t) = count_push (field_texts f rs) t

-- the record at a place adds its text, or does not
pub counts_on : (f : ℕ) (rs : List Record) (i : ℕ) (r : Record) (count next : ℕ) (b : Bool) → i < length rs → r ≡ get_or rs i r →
    b ≡ is_some_and (λ text. not (list_any (bytes_eq text) (field_texts f (take i rs)))) (slice_get r.fields f) → next ≡ count + cond b 1 0 → count ≡ length (first_appearances (field_texts f (take i rs)))
    → next ≡ length (first_appearances (field_texts f (take (i + 1) rs)))
counts_on f rs i r count next b l at adds is counted =
    is ∙ ap (λ n. n + cond b 1 0) counted ∙ ap (λ x. length (first_appearances (field_texts f (take i rs))) + cond x 1 0) adds
    ∙ sym (ap (λ xs. length (first_appearances (field_texts f xs))) (take_step rs i r l at) ∙ count_more f (take i rs) r)

-- a text is not among one more record's
none_more : (f : ℕ) (rs : List Record) (r : Record) (text : List ℕ) → list_any (bytes_eq text) (field_texts f rs) ≡ false → is_some_and (bytes_eq text) (slice_get r.fields f) ≡ false → list_any (bytes_eq text) (field_texts f (rs ++ r ∷ [])) ≡ false
none_more f rs r text none misses =
    ap (list_any (bytes_eq text)) (filter_map-append (λ x. slice_get x.fields f) rs (r ∷ []))
    ∙ list_any-append (bytes_eq text) (field_texts f rs) (field_texts f (r ∷ []))
    ∙ or_from _ _ none (any-filter_map (bytes_eq text) (λ x. slice_get x.fields f) (r ∷ []) ∙ or_from _ _ misses refl)

pub none_step : (f : ℕ) (rs : List Record) (i : ℕ) (r : Record) (text : List ℕ) → i < length rs → r ≡ get_or rs i r → list_any (bytes_eq text) (field_texts f (take i rs)) ≡ false → is_some_and (bytes_eq text) (slice_get r.fields f) ≡ false → list_any (bytes_eq text) (field_texts f (take (i + 1) rs)) ≡ false
none_step f rs i r text l at none misses = ap (λ xs. list_any (bytes_eq text) (field_texts f xs)) (take_step rs i r l at) ∙ none_more f (take i rs) r text none misses

-- the number of a text that a record has and none before it has
found_more : (f : ℕ) (rs more : List Record) (r : Record) (text : List ℕ) → list_any (bytes_eq text) (field_texts f rs) ≡ false → is_some_and (bytes_eq text) (slice_get r.fields f) ≡ true
    → position (bytes_eq text) (first_appearances (field_texts f (rs ++ r ∷ more))) ≡ Some (length (first_appearances (field_texts f rs)))
found_more f rs more r text none hits =
    ap (λ texts. position (bytes_eq text) (first_appearances texts)) (filter_map-append (λ x. slice_get x.fields f) rs (r ∷ more) ∙ ap (λ o. field_texts f rs ++ cons_option o (field_texts f more)) has.1)
    ∙ number_here (field_texts f rs) (field_texts f more) has.0 text none has.2
  where
    has : (t : List ℕ) × (slice_get r.fields f ≡ Some t) × (bytes_eq text t ≡ true)
    has = some_and (bytes_eq text) (slice_get r.fields f) hits

pub found_step : (f : ℕ) (rs : List Record) (i : ℕ) (r : Record) (text : List ℕ) → i < length rs → r ≡ get_or rs i r → list_any (bytes_eq text) (field_texts f (take i rs)) ≡ false → is_some_and (bytes_eq text) (slice_get r.fields f) ≡ true
    → position (bytes_eq text) (first_appearances (field_texts f rs)) ≡ Some (length (first_appearances (field_texts f (take i rs))))
found_step f rs i r text l at none hits = ap (λ xs. position (bytes_eq text) (first_appearances (field_texts f xs))) (split_at rs i r l at) ∙ found_more f (take i rs) (drop (i + 1) rs) r text none hits

-- a text that no record has
pub none_in : (f : ℕ) (rs : List Record) (i : ℕ) (text : List ℕ) → length rs ≤ i → list_any (bytes_eq text) (field_texts f (take i rs)) ≡ false → position (bytes_eq text) (first_appearances (field_texts f rs)) ≡ None
none_in f rs i text l none = number_none (field_texts f rs) text (ap (λ xs. list_any (bytes_eq text) (field_texts f xs)) (sym (take_all i rs l)) ∙ none)

columns-push : (ms : List Measure) (m : Measure) → map (λ x. x.column) (ms ++ m ∷ []) ≡ map (λ x. x.column) ms ++ m.column ∷ []
columns-push [] m = refl
columns-push (x ∷ ms) m = ap (λ xs. x.column ∷ xs) (columns-push ms m)

-- the measure at a place adds its fact column, or does not
pub columns_on : (ms : List Measure) (i : ℕ) (m : Measure) (count next : ℕ) (b : Bool) → i < length ms → m ≡ get_or ms i m →
    b ≡ not (list_any (bytes_eq m.column) (map (λ x. x.column) (take i ms))) → next ≡ count + cond b 1 0 → count ≡ length (first_appearances (map (λ x. x.column) (take i ms)))
    → next ≡ length (first_appearances (map (λ x. x.column) (take (i + 1) ms)))
columns_on ms i m count next b l at adds is counted =
    is ∙ ap (λ n. n + cond b 1 0) counted ∙ ap (λ x. length (first_appearances (map (λ y. y.column) (take i ms))) + cond x 1 0) adds
    ∙ sym (ap (λ xs. length (first_appearances (map (λ x. x.column) xs))) (take_step ms i m l at) ∙ ap (λ texts. length (first_appearances texts)) (columns-push (take i ms) m) ∙ count_push (map (λ x. x.column) (take i ms)) m.column)
