-- What the rows of a table say.
use Rattle.std.proofs.Common.{◌≡◌, ◌≤◌, ℕ, zero, suc, List, [], ◌∷◌, Some, None, Result, Ok, Err, length, slice_get, refl, arith, length-append, true, false, not, inl, inr, ◌==◌, ◌&&◌, ◌<◌, get_or}
use Rattle.std.specs.List.{flat_map}
use Rattle.std.proofs.lemmas.Bool.{cases_Bool}
use Rattle.csv_records.specs.Files.{file_records}
use Rattle.olap_meaning.specs.declared.schema.SchemaDimension.{SchemaDimension}
use Rattle.olap_meaning.specs.declared.tables.Record.{Record}
use Rattle.dim_tables.specs.declared.fault.TableFault.{TableFault}
use Rattle.dim_tables.specs.declared.fault.TableFault.TheVariants.{NoMember}
use Rattle.dim_tables.specs.TableFiles.{have_all, header_fault, records_with, table_of, with_members}

-- one of some lists is no longer than all of them
pub part_length : {A B : Type 0} (f : A → List B) (xs : List A) (i : ℕ) (x : A) → slice_get xs i ≡ Some x → length (f x) ≤ length (flat_map f xs)
part_length f [] i x h = absurd (cc)
part_length f (y ∷ ys) zero x h = let same : y ≡ x = cc in rw (← same) (omega (arith, length-append (f y) (flat_map f ys)))
part_length f (y ∷ ys) (suc i) x h = let rest = part_length f ys i x h in omega (arith, length-append (f y) (flat_map f ys))

-- what a file says whose header has no fault
pub table_is : (dimension : SchemaDimension) (bytes : List ℕ) (header : List (List ℕ)) (rows : List (List (List ℕ))) (answer : Result (List Record) TableFault)
    → file_records bytes ≡ header ∷ rows → header_fault dimension header ≡ None → records_with dimension header [] rows ≡ answer → table_of dimension bytes ≡ with_members dimension answer
table_is dimension bytes header rows answer file sound is = rw (file, sound, is) refl

pub no_member : (dimension : SchemaDimension) (records : List Record) → ((length records == 0) && not (have_all dimension)) ≡ true → with_members dimension (Ok records) ≡ Err NoMember
no_member dimension [] lacks = elim (cases_Bool (have_all dimension)) [
  | inl all ↦ absurd (let none : false ≡ true = rw all at lacks in cc)
  | inr some ↦ rw some refl
]
no_member dimension (r ∷ rs) lacks = absurd (let some : (length (r ∷ rs) == 0) ≡ false = grind arith in let none : false ≡ true = rw some at lacks in cc)

pub some_member : (dimension : SchemaDimension) (records : List Record) → ((length records == 0) && not (have_all dimension)) ≡ false → with_members dimension (Ok records) ≡ Ok records
some_member dimension [] has = elim (cases_Bool (have_all dimension)) [
  | inl all ↦ rw all refl
  | inr some ↦ absurd (let none : true ≡ false = rw some at has in cc)
]
some_member dimension (r ∷ rs) has = refl

-- the dimension at a place
pub item_at : {A : Type 0} (xs : List A) (i : ℕ) (x : A) → i < length xs → x ≡ get_or xs i x → slice_get xs i ≡ Some x
item_at [] i x below is = absurd (omega arith)
item_at (y ∷ ys) zero x below is = rw is refl
item_at (y ∷ ys) (suc i) x below is = item_at ys i x (omega arith) is
