-- What is known of the loads of a plan.
use Rattle.std.proofs.Common.{◌≡◌, ◌∙◌, ℕ, zero, suc, true, List, [], ◌∷◌, Option, None, Some, map, get_or, refl, ap, arith, inl, inr}
use Rattle.std.specs.Prelude.{◌&&◌, ◌==◌, All, Contains, IsTrue, slice_get}
use Rattle.std.specs.List.{list_all, list_any}
use Rattle.std.proofs.lemmas.Bool.{and_parts, cases_Bool, eqb-true}
use Rattle.std.proofs.lemmas.List.Elements.{All-contains, Contains-get_or}
use Rattle.olap_meaning.specs.declared.Aggregator.{Aggregator}
use Rattle.olap_meaning.specs.declared.cells.Cell.{Cell}
use Rattle.olap_meaning.specs.declared.cells.Header.{Header}
use Rattle.olap_meaning.specs.declared.tables.Catalog.{Catalog}
use Rattle.olap_meaning.specs.declared.tables.Cube.{Cube}
use Rattle.olap_meaning.specs.declared.tables.Row.{Row}
use Rattle.olap_meaning.specs.Covering.{allows, header_covers}
use Rattle.olap_meaning.specs.Legal.{is_column_of, is_row}
use Rattle.olap_meaning.specs.Rolled.{Offer, header_columns}
use Rattle.olap_meaning.proofs.Members.{all_member, in_first, in_rest, member_all, member_map, none_in}
use Rattle.olap_meaning.proofs.Lists.{all_of_map}
use Rattle.fact_reader.specs.BodyRows.{HoldsRows}
use Rattle.cache_flush.specs.Loads.{KeptOf}
use Rattle.rollup_plan.specs.declared.plan.Part.{Part}
use Rattle.rollup_plan.specs.declared.plan.Plan.{Plan}
use Rattle.fact_reader.specs.Laws.{RowsAreValued}
use Rattle.rollup_plan.specs.Plans.{IsRolledBy, kept_at, offer_of, offers_at}
use Rattle.rollup_plan.specs.Rolls.{AreRowsOf, loads_at}
use Rattle.fact_reader.specs.BodyRows.{is_valued}

-- the kept load of a number is one of the loads
kept_member : (loads : List KeptOf) (number : ℕ) (kept : KeptOf) → kept_at loads number ≡ Some kept → Contains loads kept
kept_member [] number kept at = absurd (cc)
kept_member (one ∷ loads) number kept at =
    elim (cases_Bool (one.load == number)) [
      | inl same ↦ let here : Some one ≡ Some kept = rw same at at in let is : one ≡ kept = cc in rw (← is) (in_first one loads)
      | inr other ↦ in_rest one loads kept (kept_member loads number kept (rw other at at))
    ]

-- the loads of parts are some of them
pub planned_member : (loads : List KeptOf) (parts : List Part) (kept : KeptOf) → Contains (loads_at loads parts) kept → Contains loads kept
planned_member loads [] kept held = absurd (none_in kept held)
planned_member loads (part ∷ parts) kept held = by (kept_at loads part.load) refl (planned_member loads parts kept)
  where
    by : (o : Option KeptOf) → kept_at loads part.load ≡ o → (Contains (loads_at loads parts) kept → Contains loads kept) → Contains loads kept
    by None is others = others (rw is at held)
    by (Some one) is others = first one is others (rw is at held)
      where
        first : (one : KeptOf) → kept_at loads part.load ≡ Some one → (Contains (loads_at loads parts) kept → Contains loads kept) → Contains (one ∷ loads_at loads parts) kept → Contains loads kept
        first one is others (zero, inside, here) = let same : one ≡ kept = here in kept_member loads part.load kept (is ∙ ap (λ (k : KeptOf). Some k) same)
        first one is others (suc k, inside, here) = others (k, omega arith, here)

pub planned_all : (P : KeptOf → Type 0) (loads : List KeptOf) (parts : List Part) → All P loads → All P (loads_at loads parts)
planned_all P loads parts all k d inside = All-contains P loads (get_or (loads_at loads parts) k d) all (planned_member loads parts (get_or (loads_at loads parts) k d) (Contains-get_or (loads_at loads parts) k d inside))

-- what the loads of parts offer
pub offers_planned : (loads : List KeptOf) (parts : List Part) → offers_at loads (map (λ (part : Part). part.load) parts) ≡ map offer_of (loads_at loads parts)
offers_planned loads [] = refl
offers_planned loads (part ∷ parts) = by (kept_at loads part.load) refl (offers_planned loads parts)
  where
    by : (o : Option KeptOf) → kept_at loads part.load ≡ o → offers_at loads (map (λ (part : Part). part.load) parts) ≡ map offer_of (loads_at loads parts)
        → offers_at loads (map (λ (part : Part). part.load) (part ∷ parts)) ≡ map offer_of (loads_at loads (part ∷ parts))
    by None is rest = rw is rest
    by (Some one) is rest = rw (is, rest) refl

module _ (aggregator : Aggregator) (size : ℕ → ℕ) (cell : Cell) (loads : List KeptOf) (plan : Plan) (rolls : IsRolledBy aggregator size cell loads plan) where
  offered_all : (P : Offer → Type 0) → All P (offers_at loads (map (λ part. part.load) plan.parts)) → All (λ (kept : KeptOf). P (offer_of kept)) (loads_at loads plan.parts)
  offered_all P all = all_of_map P offer_of (loads_at loads plan.parts) (rw (offers_planned loads plan.parts) at all)

  -- the planned loads are of one version
  pub planned_version : All (λ (kept : KeptOf). kept.version ≡ rolls.rolled.version) (loads_at loads plan.parts)
  planned_version = offered_all (λ offer. offer.version ≡ rolls.rolled.version) rolls.rolled.one_version

  -- they cover the cell
  pub planned_covering : All (λ (kept : KeptOf). IsTrue (header_covers kept.body.header cell)) (loads_at loads plan.parts)
  planned_covering = offered_all (λ offer. IsTrue (header_covers offer.header cell)) rolls.rolled.covering

  -- so they are of its cube
  pub planned_cube : All (λ (kept : KeptOf). kept.body.header.cube ≡ cell.cube) (loads_at loads plan.parts)
  planned_cube k d inside =
      let h : Header = (get_or (loads_at loads plan.parts) k d).body.header in
      let covers = planned_covering k d inside in
      let both = and_parts ((h.cube == cell.cube) && (h.measure == cell.measure)) (list_all (λ pair. list_any (λ own. (own.0 == pair.0) && allows own.1 pair.1) h.columns) cell.at) covers in
      eqb-true h.cube cell.cube (and_parts (h.cube == cell.cube) (h.measure == cell.measure) both.0).0

-- rows of a cube that the bodies of loads hold, each with a value in each of their columns
pub rows_of_parts : (catalog : Catalog) → RowsAreValued catalog → (cube : ℕ) (own : Cube) (loads : List KeptOf) (parts : List Part) (rows : List Row) → slice_get catalog.cubes cube ≡ Some own → list_all (is_row catalog cube) rows ≡ true
    → All (λ (kept : KeptOf). HoldsRows catalog kept.body.header rows kept.body) (loads_at loads parts)
    → All (λ (kept : KeptOf). list_all (λ own'. is_column_of catalog own.dimensions own'.0) kept.body.header.columns ≡ true) (loads_at loads parts)
    → AreRowsOf catalog cube loads parts rows
rows_of_parts catalog valued cube own loads parts rows known are held columns = record {
  held = held;
  valued = λ k d inside.
      let h : Header = (get_or (loads_at loads parts) k d).body.header in
      member_all (λ row. list_all (is_valued catalog cube row) (header_columns h)) rows
      (λ row row_in.
      member_all (is_valued catalog cube row) (header_columns h)
      (λ column column_in.
      let from = member_map (λ own. own.0) h.columns column column_in in
      let of = all_member (λ own'. is_column_of catalog own.dimensions own'.0) h.columns from.0 (columns k d inside) from.1 in
      valued cube own row column known (all_member (is_row catalog cube) rows row are row_in) (rw from.2 at of)));
}
