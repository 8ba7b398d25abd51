-- The tables that a history has built, as the history grows, and which they are.
use Rattle.std.proofs.Common.{◌≡◌, ◌∙◌, ◌<◌, ◌≤◌, ◌+◌, ◌==◌, ℕ, zero, suc, true, false, List, [], ◌∷◌, ◌++◌, Option, None, Some, length, map, take, take_all, filter_map, refl, sym, ap, subst, arith, inl, inr, bytes_eq, ◌↔◌}
use Rattle.std.specs.Prelude.{Contains, IsTrue, is_some, nat_lt, option_and_then, position, slice_get}
use Rattle.std.specs.List.{list_all, list_any, range_with_len}
use Rattle.std.specs.Option.{option_or}
use Rattle.std.proofs.lemmas.Bool.{and_from, cases_Bool, eqb-true}
use Rattle.std.proofs.lemmas.Bool.Decides.{nat_tests}
use Rattle.std.proofs.lemmas.Option.{slice_get_within}
use Rattle.olap_meaning.specs.declared.schema.SchemaAggregate.{SchemaAggregate}
use Rattle.olap_meaning.specs.declared.tables.Catalog.{Catalog}
use Rattle.olap_meaning.specs.declared.tables.Setting.{Setting}
use Rattle.olap_meaning.specs.declared.cells.Who.{Who}
use Rattle.olap_meaning.specs.Catalog.{table_cube}
use Rattle.olap_meaning.specs.History.{Entry, Append, Agg, Flush, Start, Done, Drop, Evict, Answer, Saw, rows_of, version}
use Rattle.olap_meaning.specs.Legal.{IsLegalAgg, Legal, rise}
use Rattle.olap_meaning.proofs.Versions.{rows_stay, versions_rise}
use Rattle.olap_meaning.proofs.Lists.{mapped_from}
use Rattle.agg_tables.specs.Declarations.{declared_table}
use Rattle.agg_tables.specs.Tables.{TableOf, built_over, table_over}
use Rattle.agg_tables.proofs.FindFacts.{gone_on}
use Rattle.load_costs.specs.Costs.{builds, last_built, table_built, tables_built, version_built}
use Rattle.load_costs.specs.Laws.{IsBuilt}

-- the last of some and one more
or_again : (a b c : Option ℕ) → option_or (option_or a b) c ≡ option_or a (option_or b c)
or_again None b c = refl
or_again (Some a) b c = refl

or_none : (a : Option ℕ) → option_or a None ≡ a
or_none None = refl
or_none (Some a) = refl

last_behind : (table : ℕ) (before after : List Entry) → last_built table (before ++ after) ≡ option_or (last_built table after) (last_built table before)
last_behind table [] after = sym (or_none (last_built table after))
last_behind table (e ∷ es) after =
    ap (λ (o : Option ℕ). option_or o (version_built table e)) (last_behind table es after)
    ∙ or_again (last_built table after) (last_built table es) (version_built table e)

pub last_more : (table : ℕ) (history : List Entry) (entry : Entry) → last_built table (history ++ entry ∷ []) ≡ option_or (version_built table entry) (last_built table history)
last_more table history entry = last_behind table history (entry ∷ [])

-- where no entry builds a table it was not built
not_built : (table : ℕ) (entries : List Entry) → list_any (λ entry. is_some (version_built table entry)) entries ≡ false → last_built table entries ≡ None
not_built table [] none = refl
not_built table (e ∷ es) none = by (version_built table e) refl (λ rest. not_built table es rest)
  where
    by : (o : Option ℕ) → version_built table e ≡ o → (list_any (λ entry. is_some (version_built table entry)) es ≡ false → last_built table es ≡ None) → option_or (last_built table es) (version_built table e) ≡ None
    by None is earlier = rw (is, earlier (rw is at none)) refl
    by (Some v) is earlier = absurd (let h = rw is at none in cc)

-- a table is built last by an entry after which none builds it
pub last_counts : (table version : ℕ) (who : Who) (before after : List Entry) → list_any (λ entry. is_some (version_built table entry)) after ≡ false → last_built table (before ++ Agg who table version ∷ after) ≡ Some version
last_counts table version who before after none =
    last_behind table before (Agg who table version ∷ after) ∙ rw (not_built table after none, same table) refl
  where
    same : (n : ℕ) → (n == n) ≡ true
    same n = grind (arith, nat_tests)

-- a table that was built last is built by some entry
last_there : (table : ℕ) (history : List Entry) (v : ℕ) → last_built table history ≡ Some v → (b : ℕ) × ((who : Who) × (slice_get history b ≡ Some (Agg who table v)))
last_there table [] v last = absurd (cc)
last_there table (e ∷ es) v last = by (last_built table es) refl last (λ rest. last_there table es v rest)
  where
    here : (entry : Entry) → version_built table entry ≡ Some v → (who : Who) × (entry ≡ Agg who table v)
    here (Append who cube w rows) is = absurd (cc)
    here (Agg who own w) is = elim (cases_Bool (own == table)) [
      | inl same ↦
          let version_is : w ≡ v = let h = rw same at is in cc in
          let table_is : own ≡ table = eqb-true own table same in
          (who, rw (version_is, table_is) refl)
      | inr other ↦ absurd (let h = rw other at is in cc)
    ]
    here (Flush who region) is = absurd (cc)
    here (Start load) is = absurd (cc)
    here (Done who j) is = absurd (cc)
    here (Drop who j) is = absurd (cc)
    here (Evict j) is = absurd (cc)
    here (Answer who cells) is = absurd (cc)
    here (Saw who) is = absurd (cc)

    by : (o : Option ℕ) → last_built table es ≡ o → option_or o (version_built table e) ≡ Some v → (last_built table es ≡ Some v → (b : ℕ) × ((who : Who) × (slice_get es b ≡ Some (Agg who table v))))
        → (b : ℕ) × ((who : Who) × (slice_get (e ∷ es) b ≡ Some (Agg who table v)))
    by None none is later = let found = here e is in (zero, (found.0, ap (λ (x : Entry). Some x) found.1))
    by (Some w) some is later =
        let rest = later (some ∙ is) in
        (suc rest.0, (rest.1.0, rest.1.1))

-- a table was built over a version that its cube had
pub built_reached : (setting : Setting) (history : List Entry) (table v cube : ℕ) → Legal setting history → last_built table history ≡ Some v → table_cube setting.catalog table ≡ Some cube → v ≤ version history cube
built_reached setting history table v cube legal last is =
    let found = last_there table history v last in
    let step : IsLegalAgg setting (take found.0 history) found.1.0 table v = legal found.0 (Agg found.1.0 table v) found.1.1 in
    let same : Some step.cube ≡ Some cube = sym step.known ∙ is in
    let cube_is : step.cube ≡ cube = cc in
    let reached : v ≤ version (take found.0 history) cube = subst (λ (c : ℕ). v ≤ version (take found.0 history) c) cube_is step.reached in
    let within = slice_get_within history found.0 (Agg found.1.0 table v) found.1.1 in
    let rising = versions_rise history cube found.0 (length history) (omega (arith, within)) in
    let whole = ap (λ (entries : List Entry). version entries cube) (take_all (length history) history (omega arith)) in
    omega (arith, reached, rising, whole)

-- a table over the rows of a version of its cube
abbrev pub over_version : Catalog → List Entry → ℕ → ℕ → ℕ → Option TableOf
over_version catalog history table v cube = built_over catalog table v (rows_of history cube v)

-- a table that an entry does not build stays as it was built last
pub table_stays : (setting : Setting) (history : List Entry) (entry : Entry) (table : ℕ) → Legal setting history → version_built table entry ≡ None → table_built setting.catalog (history ++ entry ∷ []) table ≡ table_built setting.catalog history table
table_stays setting history entry table legal none =
    ap (λ (o : Option ℕ). option_and_then (λ v. option_and_then (over_version setting.catalog (history ++ entry ∷ []) table v) (table_cube setting.catalog table)) o) (last_more table history entry ∙ rw none refl)
    ∙ by (last_built table history) (table_cube setting.catalog table) refl refl
  where
    by : (o c : Option ℕ) → last_built table history ≡ o → table_cube setting.catalog table ≡ c
        → option_and_then (λ v. option_and_then (over_version setting.catalog (history ++ entry ∷ []) table v) c) o ≡ option_and_then (λ v. option_and_then (over_version setting.catalog history table v) c) o
    by None c last is = refl
    by (Some v) None last is = refl
    by (Some v) (Some cube) last is = ap (built_over setting.catalog table v) (rows_stay history entry cube v (built_reached setting history table v cube legal last is))

-- an entry that builds no table leaves them as they were
none_of : (entry : Entry) (table : ℕ) → builds entry ≡ false → version_built table entry ≡ None
none_of (Append who cube v rows) table none = refl
none_of (Agg who own v) table none = absurd (cc)
none_of (Flush who region) table none = refl
none_of (Start load) table none = refl
none_of (Done who j) table none = refl
none_of (Drop who j) table none = refl
none_of (Evict j) table none = refl
none_of (Answer who cells) table none = refl
none_of (Saw who) table none = refl

same_map : (f g : ℕ → Option TableOf) (places : List ℕ) → ((i : ℕ) → f i ≡ g i) → filter_map f places ≡ filter_map g places
same_map f g [] same = refl
same_map f g (i ∷ is) same = rw (same i, same_map f g is same) refl

pub tables_stay : (setting : Setting) (history : List Entry) (entry : Entry) → Legal setting history → builds entry ≡ false → tables_built setting.catalog (history ++ entry ∷ []) ≡ tables_built setting.catalog history
tables_stay setting history entry legal none =
    same_map (table_built setting.catalog (history ++ entry ∷ [])) (table_built setting.catalog history) (range_with_len 0 (length setting.catalog.schema.aggregates))
    (λ i. table_stays setting history entry i legal (none_of entry i none))

-- what is built of a table is of its place
pub built_place : (catalog : Catalog) (history : List Entry) (i : ℕ) (table : TableOf) → table_built catalog history i ≡ Some table → table.table ≡ i
built_place catalog history i table is =
    let by_version = gone_on (λ v. option_and_then (over_version catalog history i v) (table_cube catalog i)) (last_built i history) table is in
    let by_cube = gone_on (over_version catalog history i by_version.0) (table_cube catalog i) table by_version.2 in
    let made = mapped_from (table_over catalog i by_version.0 (rows_of history by_cube.0 by_version.0)) (declared_table catalog i) table by_cube.2 in
    ap (λ (t : TableOf). t.table) (sym made.2)

-- a table that is declared and was built is one that the history has built
is_built : (catalog : Catalog) (history : List Entry) (i : ℕ) (table : TableOf) → table_built catalog history i ≡ Some table → IsBuilt catalog history table
is_built catalog history i table is = own (subst (λ (k : ℕ). table_built catalog history k ≡ Some table) (sym (built_place catalog history i table is)) is)
  where
    own : table_built catalog history table.table ≡ Some table → IsBuilt catalog history table
    own here =
        let by_version = gone_on (λ v. option_and_then (over_version catalog history table.table v) (table_cube catalog table.table)) (last_built table.table history) table here in
        let by_cube = gone_on (over_version catalog history table.table by_version.0) (table_cube catalog table.table) table by_version.2 in
        record { version = by_version.0; cube = by_cube.0; last = by_version.1; known = by_cube.1; over = by_cube.2 }

built_is : (catalog : Catalog) (history : List Entry) (table : TableOf) → IsBuilt catalog history table → table_built catalog history table.table ≡ Some table
built_is catalog history table is =
    ap (λ (o : Option ℕ). option_and_then (λ v. option_and_then (over_version catalog history table.table v) (table_cube catalog table.table)) o) is.last
    ∙ ap (λ (o : Option ℕ). option_and_then (over_version catalog history table.table is.version) o) is.known
    ∙ is.over

-- what some function gives for places from one on
module _ (f : ℕ → Option TableOf) where
  there : (a n : ℕ) (table : TableOf) → Contains (filter_map f (range_with_len a n)) table → (i : ℕ) × (f i ≡ Some table)
  there a zero table (k, within, at) = absurd (omega (arith, within))
  there a (suc n) table inside = by (f a) refl inside (λ held. there (a + 1) n table held)
    where
      at_place : (own : TableOf) → f a ≡ Some own → (Contains (filter_map f (range_with_len (a + 1) n)) table → (i : ℕ) × (f i ≡ Some table)) → Contains (own ∷ filter_map f (range_with_len (a + 1) n)) table → (i : ℕ) × (f i ≡ Some table)
      at_place own e later (zero, within, at) = (a, e ∙ ap (λ (t : TableOf). Some t) at)
      at_place own e later (suc k, within, at) = later (k, omega (arith, within), at)

      by : (o : Option TableOf) → f a ≡ o → Contains (filter_map f (range_with_len a (suc n))) table → (Contains (filter_map f (range_with_len (a + 1) n)) table → (i : ℕ) × (f i ≡ Some table)) → (i : ℕ) × (f i ≡ Some table)
      by None e held later = later (rw e at held)
      by (Some own) e held later = at_place own e later (rw e at held)

  back : (a n i : ℕ) (table : TableOf) → a ≤ i → i < a + n → f i ≡ Some table → Contains (filter_map f (range_with_len a n)) table
  back a zero i table from within is = absurd (omega (arith, from, within))
  back a (suc n) i table from within is = elim (cases_Bool (i == a)) [
    | inl same ↦
        let place : i ≡ a = eqb-true i a same in
        let here : f a ≡ Some table = ap f (sym place) ∙ is in
        rw here (zero, omega arith, refl)
    | inr other ↦
        let later = below i a other from in
        behind (f a) refl (back (a + 1) n i table (omega (arith, later)) (omega (arith, within)) is)
  ]
    where
      below : (t b : ℕ) → (t == b) ≡ false → b ≤ t → b < t
      below t b apart l = grind (arith, nat_tests)

      behind : (o : Option TableOf) → f a ≡ o → Contains (filter_map f (range_with_len (a + 1) n)) table → Contains (filter_map f (range_with_len a (suc n))) table
      behind None e held = rw e held
      behind (Some own) e (k, inside, at) = rw e (suc k, omega (arith, inside), at)

  -- they rise, where each is of its place
  module _ (placed : (i : ℕ) (own : TableOf) → f i ≡ Some own → own.table ≡ i) where
    above : (b a n : ℕ) → b < a → list_all (nat_lt b) (map (λ table. table.table) (filter_map f (range_with_len a n))) ≡ true
    above b a zero less = refl
    above b a (suc n) less = by (f a) refl (above b (a + 1) n (omega (arith, less)))
      where
        is_less : (own : ℕ) → own ≡ a → nat_lt b own ≡ true
        is_less own is = grind (arith, nat_tests)

        by : (o : Option TableOf) → f a ≡ o → list_all (nat_lt b) (map (λ table. table.table) (filter_map f (range_with_len (a + 1) n))) ≡ true → list_all (nat_lt b) (map (λ table. table.table) (filter_map f (range_with_len a (suc n)))) ≡ true
        by None e rest = rw e rest
        by (Some own) e rest = rw e (and_from _ _ (is_less own.table (placed a own e)) rest)

    rising : (a n : ℕ) → rise (map (λ table. table.table) (filter_map f (range_with_len a n))) ≡ true
    rising a zero = refl
    rising a (suc n) = by (f a) refl (rising (a + 1) n)
      where
        by : (o : Option TableOf) → f a ≡ o → rise (map (λ table. table.table) (filter_map f (range_with_len (a + 1) n))) ≡ true → rise (map (λ table. table.table) (filter_map f (range_with_len a (suc n)))) ≡ true
        by None e rest = rw e rest
        by (Some own) e rest =
            let place : own.table ≡ a = placed a own e in
            rw e (and_from _ _ (above own.table (a + 1) n (omega (arith, place))) rest)

-- a table that has a cube is declared
pub is_declared : (catalog : Catalog) (table cube : ℕ) → table_cube catalog table ≡ Some cube → table < length catalog.schema.aggregates
is_declared catalog table cube is =
    let found = gone_on (λ (own : SchemaAggregate). position (λ cube. bytes_eq own.cube cube.name) catalog.cubes) (slice_get catalog.schema.aggregates table) cube is in
    slice_get_within catalog.schema.aggregates table found.0 found.1

-- the tables of a history are just those that it has built, and rise
pub tables_are : (catalog : Catalog) (history : List Entry) → ((table : TableOf) → Contains (tables_built catalog history) table ↔ IsBuilt catalog history table) × IsTrue (rise (map (λ table. table.table) (tables_built catalog history)))
tables_are catalog history = (own, rising (table_built catalog history) (built_place catalog history) 0 (length catalog.schema.aggregates))
  where
    own : (table : TableOf) → Contains (tables_built catalog history) table ↔ IsBuilt catalog history table
    own table = (
      (λ held. let found = there (table_built catalog history) 0 (length catalog.schema.aggregates) table held in is_built catalog history found.0 table found.1),
      (λ is. back (table_built catalog history) 0 (length catalog.schema.aggregates) table.table table (omega arith) (omega (arith, is_declared catalog table.table is.cube is.known)) (built_is catalog history table is)),
    )
