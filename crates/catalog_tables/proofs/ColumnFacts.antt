-- The columns of a table, one for each field.
use Rattle.std.proofs.Common.{◌≡◌, ◌∙◌, ◌+◌, ◌-◌, ◌<◌, ℕ, zero, suc, true, false, List, [], ◌∷◌, Option, Some, None, refl, ap, map, filter_map, slice_get, nat_lt, position, bytes_eq, arith, add-one, if◌then◌else◌}
use Rattle.std.specs.List.{cons_option}
use Rattle.std.proofs.lemmas.Bool.Decides.{nat_tests}
use Rattle.olap_meaning.specs.declared.tables.Record.{Record}
use Rattle.catalog_tables.specs.Tables.{texts_at, columns_from, column_of, find_key}
use Rattle.catalog_tables.proofs.SeenFacts.{position-map}

filter_map-map : {A B C : Type 0} (g : B → Option C) (f : A → B) (xs : List A) → filter_map g (map f xs) ≡ filter_map (λ x. g (f x)) xs
filter_map-map g f [] = refl
filter_map-map g f (x ∷ xs) = ap (cons_option (g (f x))) (filter_map-map g f xs)

-- the columns from one field on begin with that field's
pub columns_step : (rows : List (List (List ℕ))) (field levels : ℕ) → field < levels → columns_from rows field (levels - field) ≡ texts_at field rows ∷ columns_from rows (field + 1) (levels - (field + 1))
columns_step rows field levels h =
    let e : levels - field ≡ suc (levels - (field + 1)) = omega arith in
    rw (e, add-one) refl

column_at : (rows : List (List (List ℕ))) (first n f : ℕ) → slice_get (columns_from rows first n) f ≡ (if nat_lt f n then Some (texts_at (first + f) rows) else None)
column_at rows first zero f = rw none refl
  where
    none : nat_lt f 0 ≡ false
    none = grind (arith, nat_tests)
column_at rows first (suc n) zero =
    let here : nat_lt 0 (suc n) ≡ true = grind (arith, nat_tests) in
    let e : first + 0 ≡ first = omega arith in
    rw (here, e) refl
column_at rows first (suc n) (suc f) =
    let e : first + suc f ≡ suc first + f = omega arith in
    let shift : nat_lt (suc f) (suc n) ≡ nat_lt f n = grind (arith, nat_tests) in
    rw (e, shift) (column_at rows (suc first) n f)

-- the column of a field, where there is one
pub column_here : (levels f : ℕ) (records : List Record) → slice_get (columns_from (map (λ r. r.fields) records) 0 levels) f ≡ column_of levels records f
column_here levels f records =
    column_at (map (λ (r : Record). r.fields) records) 0 levels f
    ∙ ap (λ texts. if nat_lt f levels then Some texts else None) (ap (λ n. texts_at n (map (λ (r : Record). r.fields) records)) (omega arith) ∙ filter_map-map (λ row. slice_get row f) (λ (r : Record). r.fields) records)

-- the place of a key among the keys is its record's
pub key_here : (keys : List (List ℕ)) (records : List Record) (key : List ℕ) → keys ≡ map (λ r. r.key) records → position (bytes_eq key) keys ≡ find_key records key
key_here keys records key keyed = ap (position (bytes_eq key)) keyed ∙ position-map (λ (r : Record). r.key) (bytes_eq key) records
