-- The tables after an entry that builds one: those before it, and this.
use Rattle.std.proofs.Common.{◌≡◌, ◌∙◌, ◌<◌, ◌≤◌, ◌+◌, ◌==◌, ℕ, zero, suc, true, false, List, [], ◌∷◌, ◌++◌, Option, None, Some, length, filter_map, refl, sym, ap, arith, inl, inr}
use Rattle.std.specs.Prelude.{nat_lt, option_and_then}
use Rattle.std.specs.List.{range_with_len}
use Rattle.std.proofs.lemmas.Bool.{cases_Bool, eqb-true}
use Rattle.std.proofs.lemmas.Bool.Decides.{nat_tests}
use Rattle.olap_meaning.specs.declared.cells.Who.{Who}
use Rattle.olap_meaning.specs.declared.tables.Setting.{Setting}
use Rattle.olap_meaning.specs.Catalog.{table_cube}
use Rattle.olap_meaning.specs.History.{Entry, Agg, version}
use Rattle.olap_meaning.specs.Legal.{Legal}
use Rattle.olap_meaning.proofs.Versions.{rows_stay}
use Rattle.agg_tables.specs.Tables.{TableOf, built_over}
use Rattle.load_costs.specs.Costs.{last_built, table_built, tables_built}
use Rattle.load_costs.proofs.BuiltFacts.{built_place, is_declared, last_more, over_version, table_stays}
use Rattle.installed_tables.specs.Installed.{put}

-- one more table among those that some function gives for places from one on
module _ (f g : ℕ → Option TableOf) (table : TableOf) (new : g table.table ≡ Some table) (others : (i : ℕ) → (table.table == i) ≡ false → g i ≡ f i) (placed : (i : ℕ) (own : TableOf) → f i ≡ Some own → own.table ≡ i) where
  -- after its place they are the same
  behind : (a n : ℕ) → table.table < a → filter_map g (range_with_len a n) ≡ filter_map f (range_with_len a n)
  behind a zero later = refl
  behind a (suc n) later = rw (others a (apart table.table a later), behind (a + 1) n (omega (arith, later))) refl
    where
      apart : (t i : ℕ) → t < i → (t == i) ≡ false
      apart t i l = grind (arith, nat_tests)

  -- and it stands before them
  before : (a n : ℕ) → table.table < a → put table (filter_map f (range_with_len a n)) ≡ table ∷ filter_map f (range_with_len a n)
  before a zero later = refl
  before a (suc n) later = by (f a) refl (before (a + 1) n (omega (arith, later)))
    where
      no_less : (t own : ℕ) → t < own → nat_lt own t ≡ false
      no_less t own l = grind (arith, nat_tests)

      no_same : (t own : ℕ) → t < own → (own == t) ≡ false
      no_same t own l = grind (arith, nat_tests)

      by : (o : Option TableOf) → f a ≡ o → put table (filter_map f (range_with_len (a + 1) n)) ≡ table ∷ filter_map f (range_with_len (a + 1) n) → put table (filter_map f (range_with_len a (suc n))) ≡ table ∷ filter_map f (range_with_len a (suc n))
      by None e rest = rw e rest
      by (Some own) e rest =
          let is : own.table ≡ a = placed a own e in
          rw (e, no_less table.table own.table (omega (arith, is, later)), no_same table.table own.table (omega (arith, is, later))) refl

  pub one_more : (a n : ℕ) → a ≤ table.table → table.table < a + n → filter_map g (range_with_len a n) ≡ put table (filter_map f (range_with_len a n))
  one_more a zero from within = absurd (omega (arith, from, within))
  one_more a (suc n) from within = elim (cases_Bool (table.table == a)) [
    | inl here ↦
        let is : table.table ≡ a = eqb-true table.table a here in
        let there : g a ≡ Some table = ap g (sym is) ∙ new in
        rw (there, behind (a + 1) n (omega (arith, is))) (at_place (f a) refl is)
    | inr other ↦
        let later : a < table.table = below table.table a other from in
        next (f a) refl other later (one_more (a + 1) n (omega (arith, later)) (omega (arith, within)))
  ]
    where
      below : (t i : ℕ) → (t == i) ≡ false → i ≤ t → i < t
      below t i apart l = grind (arith, nat_tests)

      is_less : (own t : ℕ) → own < t → nat_lt own t ≡ true
      is_less own t l = grind (arith, nat_tests)

      not_less : (own t : ℕ) → own ≡ t → nat_lt own t ≡ false
      not_less own t l = grind (arith, nat_tests)

      is_same : (own t : ℕ) → own ≡ t → (own == t) ≡ true
      is_same own t l = grind (arith, nat_tests)

      at_place : (o : Option TableOf) → f a ≡ o → table.table ≡ a → table ∷ filter_map f (range_with_len (a + 1) n) ≡ put table (filter_map f (range_with_len a (suc n)))
      at_place None e is = rw e (sym (before (a + 1) n (omega (arith, is))))
      at_place (Some own) e is =
          let same : own.table ≡ table.table = placed a own e ∙ sym is in
          rw (e, not_less own.table table.table same, is_same own.table table.table same) refl

      next : (o : Option TableOf) → f a ≡ o → (table.table == a) ≡ false → a < table.table → filter_map g (range_with_len (a + 1) n) ≡ put table (filter_map f (range_with_len (a + 1) n))
          → filter_map g (range_with_len a (suc n)) ≡ put table (filter_map f (range_with_len a (suc n)))
      next None e other later rest = rw (others a other, e) rest
      next (Some own) e other later rest =
          let is : own.table ≡ a = placed a own e in
          rw (others a other, e, is_less own.table table.table (omega (arith, is, later))) (ap (λ (ts : List TableOf). own ∷ ts) rest)

-- an entry that builds a table over a version that its cube had
module _ (setting : Setting) (history : List Entry) (who : Who) (table : TableOf) (cube : ℕ) (legal : Legal setting history) (is : table_cube setting.catalog table.table ≡ Some cube) (reached : table.version ≤ version history cube)
    (own : over_version setting.catalog history table.table table.version cube ≡ Some table) where
  abbrev entry : Entry
  entry = Agg who table.table table.version

  abbrev after : List Entry
  after = history ++ entry ∷ []

  same : (n : ℕ) → (n == n) ≡ true
  same n = grind (arith, nat_tests)

  last : last_built table.table after ≡ Some table.version
  last = last_more table.table history entry ∙ rw (same table.table) refl

  -- after it this is the table that was built last
  pub built_last : table_built setting.catalog after table.table ≡ Some table
  built_last =
      ap (λ (o : Option ℕ). option_and_then (λ v. option_and_then (over_version setting.catalog after table.table v) (table_cube setting.catalog table.table)) o) last
      ∙ ap (λ (o : Option ℕ). option_and_then (over_version setting.catalog after table.table table.version) o) is
      ∙ ap (built_over setting.catalog table.table table.version) (rows_stay history entry cube table.version reached) ∙ own

  others : (i : ℕ) → (table.table == i) ≡ false → table_built setting.catalog after i ≡ table_built setting.catalog history i
  others i other = table_stays setting history entry i legal (rw other refl)

  -- and it is put among the tables before
  pub tables_built_more : tables_built setting.catalog after ≡ put table (tables_built setting.catalog history)
  tables_built_more = one_more (table_built setting.catalog history) (table_built setting.catalog after) table built_last others (built_place setting.catalog history) 0 (length setting.catalog.schema.aggregates) (omega arith) (omega (arith, is_declared setting.catalog table.table cube is))
