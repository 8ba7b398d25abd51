-- How many files came, and how many rows are read for them.
use Rattle.std.proofs.Common.{◌≡◌, refl, sym, ap, ◌∙◌, subst, ℕ, zero, suc, ◌+◌, ◌≤◌, List, [], ◌∷◌, ◌++◌, Option, Some, None, Result, Ok, Err, Bool, true, false, arith, append-nil, cond, drop, is_some, length, slice_get}
use Rattle.std.specs.Option.{IsSomeAnd}
use Rattle.std.specs.Prelude.{OnOk}
use Rattle.std.proofs.lemmas.List.{drop_all}
use Rattle.olap_meaning.specs.declared.schema.SchemaAggregate.{SchemaAggregate}
use Rattle.olap_meaning.specs.declared.tables.Catalog.{Catalog}
use Rattle.olap_meaning.specs.declared.tables.Row.{Row}
use Rattle.olap_meaning.proofs.Lists.{drop_at}
use Rattle.outside.specs.Fetched.{Fetched}
use Rattle.outside.specs.Told.{Files}
use Rattle.cache_opening.specs.declared.fault.OpenFault.{OpenFault}
use Rattle.cache_opening.specs.Asking.{Asking, made, Comes, value, found, Leads, bytes_of}
use Rattle.cache_opening.specs.Opening.{base_rows, files_came, rows_come, rows_for, rows_from}
use Rattle.cache_opening.specs.Steps.{FilesCame, ReadsFew, files_for, rows_where}

-- the files of two parts of the answers
pub came_more : (answers more : List Fetched) → files_came (answers ++ more) ≡ files_came answers + files_came more
came_more [] more = omega arith
came_more ((name, Ok bytes) ∷ answers) more = let others = came_more answers more in omega (arith, others)
came_more ((name, Err refusal) ∷ answers) more = came_more answers more

-- nothing more is asked for where a value is made
none_more : {A : Type 0} {x y : A} {answers : List Fetched} → Comes (made x) answers (Ok y) → answers ≡ []
none_more value = refl

one_came : {name bytes : List ℕ} {answers : List Fetched} → Comes (bytes_of name) answers (Ok bytes) → files_came answers ≡ 1
one_came (found {name} {bytes} {rest} {answers} h) = ap (λ (seen : List Fetched). suc (files_came seen)) (none_more h)

-- the file that was asked for came
pub file_came : (files : Option Files) (before after : List Fetched) (name bytes : List ℕ) → Leads files before after (bytes_of name) (Ok bytes) → FilesCame before after 1
file_came files before after name bytes h = record { more = h.answers; behind = h.added; count = one_came h.comes }

-- what holds holds where there is a value
pub where_ok : {A E P : Type 0} (r : Result A E) → P → OnOk r P
where_ok (Ok x) h = h
where_ok (Err fault) h = tt

-- nothing was read, whatever was asked for
pub reads_none : {A : Type 0} (files : Option Files) (before after : List Fetched) (asking : Asking A) (outcome : Result A OpenFault) (rows start : ℕ) → Leads files before after asking outcome → ReadsFew before after rows start start
reads_none files before after asking outcome rows start h = record { more = h.answers; behind = h.added; steps = omega arith }

-- a file came, and its rows were read
pub reads_one : (before after : List Fetched) (rows start later : ℕ) → FilesCame before after 1 → later ≤ start + rows → ReadsFew before after rows start later
reads_one before after rows start later one few = record {
  more = one.more;
  behind = one.behind;
  steps = let P : ℕ → Type 0 = λ n. later ≤ start + rows_where rows n in subst P (sym one.count) few;
}

rows_where_most : (rows came : ℕ) → rows_where rows came ≤ rows
rows_where_most rows zero = omega arith
rows_where_most rows (suc came) = omega arith

-- at most all rows were read
pub reads_most : (before after : List Fetched) (rows start later : ℕ) → ReadsFew before after rows start later → later ≤ start + rows
reads_most before after rows start later h = let most = rows_where_most rows (files_came h.more) in omega (arith, h.steps, most)

-- one aggregate table that has a file
pub some_read : (o : Option SchemaAggregate) (file : List ℕ) (before after : List Fetched) (start later rows : ℕ) → IsSomeAnd o (λ own. Some file ≡ own.file) → ReadsFew before after rows start later → IsSomeAnd o (λ own. ReadsFew before after (cond (is_some own.file) rows 0) start later)
some_read None file before after start later rows is few = absurd is
some_read (Some own) file before after start later rows is few = let P : Option (List ℕ) → Type 0 = λ f. ReadsFew before after (cond (is_some f) rows 0) start later in subst P is few

pub some_came : (o : Option SchemaAggregate) (file : List ℕ) (before after : List Fetched) → IsSomeAnd o (λ own. Some file ≡ own.file) → FilesCame before after 1 → IsSomeAnd o (λ own. FilesCame before after (files_for own))
some_came None file before after is came = absurd is
some_came (Some own) file before after is came = let P : Option (List ℕ) → Type 0 = λ f. FilesCame before after (cond (is_some f) 1 0) in subst P is came

pub some_cost : (o : Option SchemaAggregate) (file : List ℕ) (start later rows : ℕ) → IsSomeAnd o (λ own. Some file ≡ own.file) → later ≡ start + rows → IsSomeAnd o (λ own. later ≡ start + cond (is_some own.file) rows 0)
some_cost None file start later rows is cost = absurd is
some_cost (Some own) file start later rows is cost = let P : Option (List ℕ) → Type 0 = λ f. later ≡ start + cond (is_some f) rows 0 in subst P is cost

-- one that has none
pub none_cost : (o : Option SchemaAggregate) (start rows : ℕ) → IsSomeAnd o (λ own. ◌≡◌ {A = Option (List ℕ)} None own.file) → IsSomeAnd o (λ own. start ≡ start + cond (is_some own.file) rows 0)
none_cost None start rows is = absurd is
none_cost (Some own) start rows is = let P : Option (List ℕ) → Type 0 = λ f. start ≡ start + cond (is_some f) rows 0 in subst P is (omega arith)

pub none_read : (o : Option SchemaAggregate) (now : List Fetched) (start rows : ℕ) → IsSomeAnd o (λ own. ◌≡◌ {A = Option (List ℕ)} None own.file) → IsSomeAnd o (λ own. ReadsFew now now (cond (is_some own.file) rows 0) start start)
none_read None now start rows is = absurd is
none_read (Some own) now start rows is = record { more = []; behind = sym (append-nil now); steps = omega arith }

pub none_came : (o : Option SchemaAggregate) (now : List Fetched) → IsSomeAnd o (λ own. ◌≡◌ {A = Option (List ℕ)} None own.file) → IsSomeAnd o (λ own. FilesCame now now (files_for own))
none_came None now is = absurd is
none_came (Some own) now is =
    let P : Option (List ℕ) → Type 0 = λ f. FilesCame now now (cond (is_some f) 1 0) in
    subst P is (record { more = []; behind = sym (append-nil now); count = refl })

one_more : (has : Bool) (n : ℕ) → cond has (suc n) n ≡ cond has 1 0 + n
one_more true n = omega arith
one_more false n = omega arith

module _ (catalog : Catalog) (batches : List (List Row)) where
  -- without a file no row is read
  pub rows_of_none : (table : ℕ) (owns : List SchemaAggregate) → rows_come catalog batches table owns 0 ≡ 0
  rows_of_none table [] = refl
  rows_of_none table (own ∷ owns) = refl

  -- one table more, of those that are left
  pub rows_turn : (table next : ℕ) (owns : List SchemaAggregate) (steps later whole : ℕ) → next ≡ suc table → steps + rows_from catalog batches table (drop table owns) ≡ whole → IsSomeAnd (slice_get owns table) (λ own. later ≡ steps + rows_for catalog batches table own) → later + rows_from catalog batches next (drop next owns) ≡ whole
  rows_turn table next owns steps later whole is_next so_far one = subst (λ (n : ℕ). later + rows_from catalog batches n (drop n owns) ≡ whole) (sym is_next) (by (slice_get owns table) refl one)
    where
      by : (o : Option SchemaAggregate) → slice_get owns table ≡ o → IsSomeAnd o (λ own. later ≡ steps + rows_for catalog batches table own) → later + rows_from catalog batches (suc table) (drop (suc table) owns) ≡ whole
      by None is one = absurd one
      by (Some own) is one =
          let left : drop table owns ≡ own ∷ drop (suc table) owns = drop_at owns table own is in
          let all : steps + rows_from catalog batches table (own ∷ drop (suc table) owns) ≡ whole = rw left at so_far in
          omega (arith, one, all)

  -- none is left
  pub rows_end : (table : ℕ) (owns : List SchemaAggregate) (steps whole : ℕ) → length owns ≤ table → steps + rows_from catalog batches table (drop table owns) ≡ whole → steps ≡ whole
  rows_end table owns steps whole end so_far =
      let none : steps + rows_from catalog batches table [] ≡ whole = rw (drop_all table owns end) at so_far in
      omega (arith, none)

  module _ (table : ℕ) (own : SchemaAggregate) (owns : List SchemaAggregate) where
    -- the rows of the first one, and of the others
    pub rows_on : (came : ℕ) → rows_for catalog batches table own + rows_come catalog batches (suc table) owns came ≡ rows_come catalog batches table (own ∷ owns) (files_for own + came)
    rows_on came = by (is_some own.file) refl came ∙ ap (rows_come catalog batches table (own ∷ owns)) (one_more (is_some own.file) came)
      where
        by : (has : Bool) → is_some own.file ≡ has → (came : ℕ) → rows_for catalog batches table own + rows_come catalog batches (suc table) owns came ≡ rows_come catalog batches table (own ∷ owns) (cond (is_some own.file) (suc came) came)
        by true e came =
            ap (λ (n : ℕ). rows_for catalog batches table own + rows_come catalog batches (suc table) owns n) (sym (ap (λ (b : Bool). cond b came (suc came)) e))
            ∙ ap (rows_come catalog batches table (own ∷ owns)) (sym (ap (λ (b : Bool). cond b (suc came) came) e))
        by false e zero =
            let none : rows_for catalog batches table own ≡ 0 = ap (λ (b : Bool). cond b (length (base_rows catalog batches table)) 0) e in
            let others = rows_of_none (suc table) owns in
            let both : rows_for catalog batches table own + rows_come catalog batches (suc table) owns 0 ≡ 0 = omega (arith, none, others) in
            both ∙ ap (rows_come catalog batches table (own ∷ owns)) (sym (ap (λ (b : Bool). cond b 1 0) e))
        by false e (suc came) =
            ap (λ (n : ℕ). rows_for catalog batches table own + rows_come catalog batches (suc table) owns n) (sym (ap (λ (b : Bool). cond b came (suc came)) e))
            ∙ ap (rows_come catalog batches table (own ∷ owns)) (sym (ap (λ (b : Bool). cond b (suc (suc came)) (suc came)) e))

    -- where the first one has failed, its rows alone are read, and where its file came
    pub rows_fail : (came : ℕ) → rows_where (rows_for catalog batches table own) came ≤ rows_come catalog batches table (own ∷ owns) came
    rows_fail zero = omega arith
    rows_fail (suc came) = omega arith
