-- Where columns stand in a header, and what stands there in a record.
use Rattle.std.proofs.Common.{◌≡◌, ◌<◌, ◌+◌, ℕ, zero, suc, Bool, true, false, List, [], ◌∷◌, ◌++◌, Some, map, length, slice_get, get_or, refl, ap, arith, bytes_eq, drop, is_some, cond, ◌==◌, inl, inr}
use Rattle.std.proofs.lemmas.Bool.{cases_Bool, eqb-true}
use Rattle.std.specs.List.{list_all, position_from}
use Rattle.std.specs.Option.{option_or}
use Rattle.std.specs.Str.{is_utf8}
use Rattle.olap_meaning.specs.Records.{column_place, field_in, is_csv, missing_column}
use Rattle.olap_meaning.proofs.Lists.{drop_step}

-- what two functions give for each item, they give for one
pub same_at : {A B : Type 0} (f g : A → B) (items : List A) → map f items ≡ map g items → (i : ℕ) (item : A) → i < length items → item ≡ get_or items i item → f item ≡ g item
same_at f g [] same i item h is = absurd (omega arith)
same_at f g (x ∷ xs) same zero item h is = let here : f x ≡ g x = cc in rw is here
same_at f g (x ∷ xs) same (suc i) item h is = let rest : map f xs ≡ map g xs = cc in same_at f g xs rest i item (omega arith) is

-- a place that is found lies in the list
found_within : {A : Type 0} (p : A → Bool) (i : ℕ) (xs : List A) (k : ℕ) → position_from p i xs ≡ Some k → k < i + length xs
found_within p i [] k h = absurd (cc)
found_within p i (x ∷ xs) k h = elim (cases_Bool (p x)) [
  | inl passes ↦ let same : i ≡ k = (let found : Some i ≡ Some k = rw passes at h in cc) in omega arith
  | inr fails ↦ let more = found_within p (i + 1) xs k (rw fails at h) in omega arith
]

-- the place of a column lies in the header
pub place_within : (name : List ℕ) (header : List (List ℕ)) (k : ℕ) → column_place name header ≡ Some k → k < length header
place_within name header k h = let within = found_within (bytes_eq name) 0 header k h in omega arith

-- the field at the place of a column is the field in the column
pub field_there : (header row : List (List ℕ)) (name field : List ℕ) (place : ℕ) → column_place name header ≡ Some place → slice_get row place ≡ Some field → field_in header name row ≡ field
field_there header row name field place found there = rw (found, there) refl

-- a record of a CSV file has as many fields as the header, each of them text
pub csv_parts : (header row : List (List ℕ)) → is_csv header row ≡ true → (length row ≡ length header) × (list_all is_utf8 row ≡ true)
csv_parts header row h = elim (cases_Bool (length row == length header)) [
  | inl same ↦ (eqb-true (length row) (length header) same, rw same at h)
  | inr other ↦ absurd (let none : false ≡ true = rw other at h in cc)
]

-- so the place of a column of the header is one of its fields
pub place_in_row : (header row : List (List ℕ)) (name : List ℕ) (k : ℕ) → is_csv header row ≡ true → column_place name header ≡ Some k → k < length row
place_in_row header row name k csv found =
    let within = place_within name header k found in
    let width = (csv_parts header row csv).0 in
    omega arith

-- what is missing from two lists of columns
pub missing_append : (xs ys header : List (List ℕ)) → missing_column (xs ++ ys) header ≡ option_or (missing_column xs header) (missing_column ys header)
missing_append [] ys header = refl
missing_append (x ∷ xs) ys header = elim (cases_Bool (is_some (column_place x header))) [
  | inl there ↦ rw there (missing_append xs ys header)
  | inr gone ↦ rw gone refl
]

-- what is missing from the column at a place on
pub missing_from : {A : Type 0} (f : A → List ℕ) (items : List A) (header : List (List ℕ)) (i : ℕ) (item : A) → i < length items → item ≡ get_or items i item
    → missing_column (map f (drop i items)) header ≡ cond (is_some (column_place (f item) header)) (missing_column (map f (drop (i + 1) items)) header) (Some (f item))
missing_from f items header i item h is = ap (λ rest. missing_column (map f rest) header) (drop_step items i item h is)
