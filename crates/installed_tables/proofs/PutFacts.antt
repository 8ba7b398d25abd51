-- A table that is put among others, by its place in the list.
use Rattle.std.proofs.Common.{◌≡◌, ◌∙◌, ◌≤◌, ◌+◌, ◌==◌, ℕ, zero, suc, Bool, true, false, List, [], ◌∷◌, Option, None, Some, length, map, cond, not, slice_set, refl, sym, ap, arith, inl, inr}
use Rattle.std.specs.Prelude.{nat_le, nat_lt, option_map, position, slice_get}
use Rattle.std.proofs.lemmas.Option.{slice_get-map}
use Rattle.olap_meaning.specs.History.{is_some_and}
use Rattle.std.specs.List.{insert, position_or_len}
use Rattle.std.proofs.lemmas.List.Sums.{prefix_len-le-length}
use Rattle.std.proofs.lemmas.Bool.{cases_Bool}
use Rattle.std.proofs.lemmas.Bool.Decides.{nat_tests}
use Rattle.agg_tables.specs.Tables.{TableOf}
use Rattle.installed_tables.specs.Installed.{put}

-- a table is no earlier where it is not less
not_less : (a b : ℕ) → nat_lt a b ≡ false → nat_le b a ≡ true
not_less a b h = grind (arith, nat_tests)

less : (a b : ℕ) → nat_lt a b ≡ true → nat_le b a ≡ false
less a b h = grind (arith, nat_tests)

-- the place of a table among others
abbrev pub place_for : ℕ → List TableOf → ℕ
place_for table tables = position_or_len (λ own. nat_le table own.table) tables

-- the place of the first that passes a test, and after all where none does
pub found_place : {A : Type 0} (p : A → Bool) (xs : List A) (n : ℕ) → position p xs ≡ Some n → n ≡ position_or_len p xs
found_place p xs n found = by (nat_lt (position_or_len p xs) (length xs)) refl found
  where
    by : (b : Bool) → nat_lt (position_or_len p xs) (length xs) ≡ b → position p xs ≡ Some n → n ≡ position_or_len p xs
    by true e h = let same : Some (position_or_len p xs) ≡ Some n = rw e at h in cc
    by false e h = absurd (let same : None ≡ Some n = rw e at h in cc)

pub no_place : {A : Type 0} (p : A → Bool) (xs : List A) → position p xs ≡ None → length xs ≡ position_or_len p xs
no_place p xs none = by (nat_lt (position_or_len p xs) (length xs)) refl none
  where
    ge_of : (a b : ℕ) → nat_lt a b ≡ false → b ≤ a
    ge_of a b h = grind (arith, nat_tests)

    by : (b : Bool) → nat_lt (position_or_len p xs) (length xs) ≡ b → position p xs ≡ None → length xs ≡ position_or_len p xs
    by true e h = absurd (let same : Some (position_or_len p xs) ≡ None = rw e at h in cc)
    by false e h = omega (arith, ge_of _ _ e, prefix_len-le-length (λ x. not (p x)) xs)

place_here : (table : ℕ) (own : TableOf) (tables : List TableOf) → nat_lt own.table table ≡ false → place_for table (own ∷ tables) ≡ 0
place_here table own tables h = rw (not_less own.table table h) refl

place_next : (table : ℕ) (own : TableOf) (tables : List TableOf) → nat_lt own.table table ≡ true → place_for table (own ∷ tables) ≡ suc (place_for table tables)
place_next table own tables h = rw (less own.table table h) (omega arith)

-- where a table of its declaration stands there, it gives way
pub put_over : (table own : TableOf) (tables : List TableOf) → slice_get tables (place_for table.table tables) ≡ Some own → (own.table == table.table) ≡ true → put table tables ≡ slice_set tables (place_for table.table tables) table
put_over table own [] at same = absurd (cc)
put_over table own (first ∷ tables) at same = elim (cases_Bool (nat_lt first.table table.table)) [
  | inl before ↦
      let next = place_next table.table first tables before in
      rw (before, next) (ap (λ (ts : List TableOf). first ∷ ts) (put_over table own tables (rw next at at) same))
  | inr here ↦
      let place = place_here table.table first tables here in
      let is : first ≡ own = let found = rw place at at in cc in
      rw (here, place, is, same) refl
]

-- else it is inserted there
pub put_between : (table : TableOf) (tables : List TableOf) → ((own : TableOf) → slice_get tables (place_for table.table tables) ≡ Some own → (own.table == table.table) ≡ false) → put table tables ≡ insert tables (place_for table.table tables) table
put_between table [] other = refl
put_between table (first ∷ tables) other = elim (cases_Bool (nat_lt first.table table.table)) [
  | inl before ↦
      let next = place_next table.table first tables before in
      rw (before, next) (ap (λ (ts : List TableOf). first ∷ ts) (put_between table tables (λ own at. other own (rw next at))))
  | inr here ↦
      let place = place_here table.table first tables here in
      rw (here, other first (rw place refl), place) refl
]

-- the same of what is made of the elements
pub place_map : {X : Type 0} (value : X → TableOf) (table : ℕ) (xs : List X) → position_or_len (λ (x : X). nat_le table (value x).table) xs ≡ place_for table (map value xs)
place_map value table [] = refl
place_map value table (x ∷ xs) = ap (λ (n : ℕ). cond (not (nat_le table (value x).table)) (1 + n) 0) (place_map value table xs)

pub insert_map : {X Y : Type 0} (f : X → Y) (xs : List X) (i : ℕ) (x : X) → map f (insert xs i x) ≡ insert (map f xs) i (f x)
insert_map f [] zero x = refl
insert_map f [] (suc i) x = refl
insert_map f (y ∷ ys) zero x = refl
insert_map {Y = Y} f (y ∷ ys) (suc i) x = ap (λ (zs : List Y). f y ∷ zs) (insert_map f ys i x)

pub set_map : {X Y : Type 0} (f : X → Y) (xs : List X) (i : ℕ) (x : X) → map f (slice_set xs i x) ≡ slice_set (map f xs) i (f x)
set_map f [] i x = refl
set_map f (y ∷ ys) zero x = refl
set_map {Y = Y} f (y ∷ ys) (suc i) x = ap (λ (zs : List Y). f y ∷ zs) (set_map f ys i x)

-- some elements that stand for tables, of which one is put at the place of a table
module _ {X : Type 0} (value : X → TableOf) (xs : List X) (x : X) (place : ℕ) (now : List TableOf) (table : TableOf) (are : map value xs ≡ now) (is : value x ≡ table)
    (place_is : place ≡ position_or_len (λ (own : X). nat_le table.table (value own).table) xs) where
  there : place ≡ place_for table.table now
  there = place_is ∙ place_map value table.table xs ∙ ap (place_for table.table) are

  at_place : (o : Option X) → slice_get xs place ≡ o → slice_get now (place_for table.table now) ≡ option_map value o
  at_place o at = ap (slice_get now) (sym there) ∙ ap (λ (ts : List TableOf). slice_get ts place) (sym are) ∙ slice_get-map value xs place ∙ ap (option_map value) at

  pub put_set : is_some_and (λ (own : X). (value own).table == table.table) (slice_get xs place) ≡ true → map value (slice_set xs place x) ≡ put table now
  put_set same =
      set_map value xs place x ∙ ap (λ (ts : List TableOf). slice_set ts place (value x)) are ∙ ap (slice_set now place) is
      ∙ ap (λ (n : ℕ). slice_set now n table) there ∙ by (slice_get xs place) refl same
    where
      by : (o : Option X) → slice_get xs place ≡ o → is_some_and (λ (own : X). (value own).table == table.table) o ≡ true → slice_set now (place_for table.table now) table ≡ put table now
      by None at h = absurd (cc)
      by (Some own) at h = sym (put_over table (value own) now (at_place (Some own) at) h)

  pub put_insert : is_some_and (λ (own : X). (value own).table == table.table) (slice_get xs place) ≡ false → map value (insert xs place x) ≡ put table now
  put_insert other =
      insert_map value xs place x ∙ ap (λ (ts : List TableOf). insert ts place (value x)) are ∙ ap (insert now place) is
      ∙ ap (λ (n : ℕ). insert now n table) there ∙ sym (put_between table now (by (slice_get xs place) refl other))
    where
      by : (o : Option X) → slice_get xs place ≡ o → is_some_and (λ (own : X). (value own).table == table.table) o ≡ false → (own : TableOf) → slice_get now (place_for table.table now) ≡ Some own → (own.table == table.table) ≡ false
      by None at h own here = absurd (let same : None ≡ Some own = sym (at_place None at) ∙ here in cc)
      by (Some one) at h own here =
          let same : Some (value one) ≡ Some own = sym (at_place (Some one) at) ∙ here in
          let one_is : value one ≡ own = cc in
          ap (λ (t : TableOf). t.table == table.table) (sym one_is) ∙ h
