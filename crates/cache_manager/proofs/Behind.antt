-- The rows of the version of a plan's loads lie after the plan, and what is rolled up is worth what the history says.
use Rattle.std.proofs.Common.{◌≡◌, refl, sym, ◌∙◌, ap, subst, ℕ, suc, ◌<◌, ◌≤◌, List, [], ◌∷◌, length, map, true, ◌&&◌, ◌==◌, bytes_eq, Some, option_and_then, option_map, slice_get, arith, All, Contains}
use Rattle.std.specs.Prelude.{IfOk, IsTrue, Result, Ok, Err}
use Rattle.std.specs.List.{AllZip, list_all}
use Rattle.std.proofs.lemmas.Bool.{and_from, and_parts}
use Rattle.std.proofs.lemmas.List.{length-map}
use Rattle.std.proofs.lemmas.List.Elements.{All-contains}
use Rattle.cell_groups.proofs.Alike.{Alike, alike_self, alike_told}
use Rattle.olap_meaning.specs.declared.cells.Cell.{Cell}
use Rattle.olap_meaning.specs.declared.cells.Header.{Header}
use Rattle.olap_meaning.specs.declared.tables.Row.{Row}
use Rattle.olap_meaning.specs.declared.tables.Setting.{Setting}
use Rattle.olap_meaning.specs.Covering.{among, columns_of, header_covers}
use Rattle.olap_meaning.specs.History.{Entry, Load, load_version, rows_of}
use Rattle.olap_meaning.specs.Legal.{Legal, is_row}
use Rattle.olap_meaning.specs.Rolled.{Offer, header_columns}
use Rattle.olap_meaning.specs.Worth.{answered_version, value, value_over}
use Rattle.olap_meaning.proofs.Loads.{covered_cube}
use Rattle.olap_meaning.proofs.Members.{All-from_member, all_member, filter_map_member, in_first, map_member, member_all, member_filter_map}
use Rattle.history_core.specs.declared.answers.Answered.{Answered}
use Rattle.history_core.specs.Groups.{alike}
use Rattle.measure_folds.specs.Tallied.{Tallied}
use Rattle.segment_body.specs.AllFolds as folds
use Rattle.fact_reader.specs.BodyRows.{HoldsRows}
use Rattle.cache_flush.specs.Loads.{KeptOf}
use Rattle.rollup_plan.specs.Plans.{kept_at, offer_of, offers_at}
use Rattle.fact_reader.specs.Laws.{RowsAreValued}
use Rattle.rollup_plan.specs.Rolls.{IsRolledUp, LieBehind, loads_at}
use Rattle.fact_reader.specs.BodyRows.{is_valued}
use Rattle.rollup_plan.proofs.LawFacts.{plans_roll}
use Rattle.rollup_plan.specs.declared.plan.Part.{Part}
use Rattle.rollup_plan.specs.declared.plan.Plan.{Plan}
use Rattle.cache_manager.specs.Kept.{IsKept}
use Rattle.cache_manager.specs.Rollups.{AreKept, IsPlanFor, IsRollup, IsToldBy, IsWorth, all_alike, candidates_for, planned}
use Rattle.cache_manager.specs.declared.rollups.Rollup.{Rollup}
use Rattle.cache_manager.proofs.Serving.{kept_header}
use Rattle.cache_manager.proofs.Sourcing.{candidate_at}
use Rattle.cache_manager.proofs.Valued.{column_own, rows_few, rows_known}

module _ (setting : Setting) (entries : List Entry) (legal : Legal setting entries) (whole : RowsAreValued setting.catalog) (loads : List KeptOf) (kept : AreKept setting.catalog entries loads) (plan : Plan) (cell : Cell) (is : IsPlanFor setting.catalog loads plan cell) where
  -- a planned load: it is kept, of the plan's version and the cell's cube
  record IsPlannedLoad (j : ℕ) : Type 0 where
    k : KeptOf
    at : kept_at loads j ≡ Some k
    keeps : IsKept setting.catalog entries k
    number : k.load ≡ j
    version : k.version ≡ is.rolls.rolled.version
    cube : k.body.header.cube ≡ cell.cube

  planned_load : (j : ℕ) → Contains (planned plan) j → IsPlannedLoad j
  planned_load j held =
      let found = candidate_at setting.catalog entries cell loads kept j (All-contains (λ i. among (candidates_for loads cell) i ≡ true) (planned plan) j is.known held) in
      let offer : Contains (offers_at loads (planned plan)) (offer_of found.0) = filter_map_member (λ number. option_map offer_of (kept_at loads number)) (planned plan) j (offer_of found.0) held (ap (option_map offer_of) found.1) in
      record {
        k = found.0;
        at = found.1;
        keeps = found.2;
        number = found.3;
        version = All-contains (λ (o : Offer). o.version ≡ is.rolls.rolled.version) (offers_at loads (planned plan)) (offer_of found.0) is.rolls.rolled.one_version offer;
        cube = covered_cube found.0.body.header cell (All-contains (λ (o : Offer). header_covers o.header cell ≡ true) (offers_at loads (planned plan)) (offer_of found.0) is.rolls.rolled.covering offer);
      }

  -- the rows of the version of the loads
  abbrev rows : List Row
  rows = rows_of entries cell.cube is.rolls.rolled.version

  of_part : (k : KeptOf) → Contains (loads_at loads plan.parts) k → (j : ℕ) × Contains (planned plan) j × (kept_at loads j ≡ Some k)
  of_part k held =
      let from : (part : Part) × Contains plan.parts part × (kept_at loads part.load ≡ Some k) = member_filter_map (λ part. kept_at loads part.load) plan.parts k held in
      (from.0.load, map_member (λ (part : Part). part.load) plan.parts from.0 from.1, from.2)

  one_of : (k other : KeptOf) (j : ℕ) → kept_at loads j ≡ Some k → kept_at loads j ≡ Some other → other ≡ k
  one_of k other j at also = let both : Some other ≡ Some k = sym also ∙ at in cc

  holds : (k : KeptOf) → Contains (loads_at loads plan.parts) k → HoldsRows setting.catalog k.body.header rows k.body
  holds k held =
      let from = of_part k held in
      let load = planned_load from.0 from.1 in
      let same : load.k ≡ k = one_of k load.k from.0 from.2 load.at in
      let header : load.keeps.load.header ≡ load.k.body.header = sym (kept_header setting.catalog entries load.k load.keeps) in
      let v : load.keeps.load.version ≡ is.rolls.rolled.version = sym load.keeps.version ∙ load.version in
      subst (λ (o : KeptOf). HoldsRows setting.catalog o.body.header rows o.body) same
      (subst (λ (c : ℕ). HoldsRows setting.catalog load.k.body.header (rows_of entries c is.rolls.rolled.version) load.k.body) load.cube
      (subst (λ (n : ℕ). HoldsRows setting.catalog load.k.body.header (rows_of entries load.k.body.header.cube n) load.k.body) v
      (subst (λ (h : Header). HoldsRows setting.catalog h (rows_of entries h.cube load.keeps.load.version) load.k.body) header load.keeps.holds)))

  valued : (k : KeptOf) → Contains (loads_at loads plan.parts) k → list_all (λ row. list_all (is_valued setting.catalog cell.cube row) (header_columns k.body.header)) rows ≡ true
  valued k held =
      let from = of_part k held in
      let load = planned_load from.0 from.1 in
      let same : load.k ≡ k = one_of k load.k from.0 from.2 load.at in
      let header : load.keeps.load.header ≡ k.body.header = sym (kept_header setting.catalog entries load.k load.keeps) ∙ ap (λ (o : KeptOf). o.body.header) same in
      let cube : load.keeps.load.header.cube ≡ cell.cube = ap (λ (h : Header). h.cube) (sym (kept_header setting.catalog entries load.k load.keeps)) ∙ load.cube in
      member_all (λ row. list_all (is_valued setting.catalog cell.cube row) (header_columns k.body.header)) rows
      (λ row in_rows. member_all (is_valued setting.catalog cell.cube row) (header_columns k.body.header)
      (λ column own.
      subst (λ (c : ℕ). is_valued setting.catalog c row column ≡ true) cube
      (let there = column_own setting entries legal load.k.load load.keeps.load column load.keeps.started (subst (λ (h : Header). Contains (header_columns h) column) (sym header) own) in
      whole load.keeps.load.header.cube there.0 row column there.1
      (subst (λ (c : ℕ). is_row setting.catalog c row ≡ true) (sym cube) (all_member (is_row setting.catalog cell.cube) rows row (rows_known setting entries legal cell.cube is.rolls.rolled.version) in_rows)) there.2)))

  some_part : 0 < length plan.parts
  some_part = by plan.parts is.rolls.rolled.some
    where
      by : (parts : List Part) → 0 < length (offers_at loads (map (λ part. part.load) parts)) → 0 < length parts
      by [] some = some
      by (part ∷ parts) some = omega arith

  pub lie_behind : LieBehind setting.catalog cell loads plan rows
  lie_behind =
      plans_roll setting.catalog cell is.measure loads plan rows is.is_measure is.rolls
      (record {
        held = All-from_member (λ k. HoldsRows setting.catalog k.body.header rows k.body) (loads_at loads plan.parts) holds;
        valued = All-from_member (λ k. IsTrue (list_all (λ row. list_all (is_valued setting.catalog cell.cube row) (header_columns k.body.header)) rows)) (loads_at loads plan.parts) valued;
      })

  -- the first load of the plan tells the version
  pub first_load : (j : ℕ) × (k : KeptOf) × (slice_get (planned plan) 0 ≡ Some j) × (kept_at loads j ≡ Some k) × (k.version ≡ is.rolls.rolled.version) × (load_version entries j ≡ Some k.version)
  first_load = by (planned plan) refl (subst (λ (n : ℕ). 0 < n) (sym (length-map plan.parts (λ (part : Part). part.load))) some_part)
    where
      by : (js : List ℕ) → planned plan ≡ js → 0 < length js → (j : ℕ) × (k : KeptOf) × (slice_get (planned plan) 0 ≡ Some j) × (kept_at loads j ≡ Some k) × (k.version ≡ is.rolls.rolled.version) × (load_version entries j ≡ Some k.version)
      by [] e some = absurd (omega (arith, some))
      by (j ∷ js) e some =
          let load = planned_load j (subst (λ (ns : List ℕ). Contains ns j) (sym e) (in_first j js)) in
          let told : load_version entries j ≡ Some load.k.version =
          ap (load_version entries) (sym load.number) ∙ ap (option_map (λ (l : Load). l.version)) load.keeps.started ∙ ap Some (sym load.keeps.version) in
          (j, load.k, ap (λ (ns : List ℕ). slice_get ns 0) e, load.at, load.version, told)

-- cells that are alike have the same columns
pub alike_columns : (cells : List Cell) → all_alike cells ≡ true → folds.are_alike cells ≡ true
alike_columns [] all = refl
alike_columns (first ∷ cells) all = by cells all
  where
    by : (cs : List Cell) → list_all (alike first) cs ≡ true → list_all (λ other. bytes_eq (columns_of first) (columns_of other)) cs ≡ true
    by [] all = refl
    by (c ∷ cs) all =
        and_from (bytes_eq (columns_of first) (columns_of c)) (list_all (λ other. bytes_eq (columns_of first) (columns_of other)) cs)
        (and_parts ((first.cube == c.cube) && (first.measure == c.measure)) (bytes_eq (columns_of first) (columns_of c)) (and_parts (alike first c) (list_all (alike first) cs) all).0).1 (by cs (and_parts (alike first c) (list_all (alike first) cs) all).1)

like_first : (cells : List Cell) (first cell : Cell) → slice_get cells 0 ≡ Some first → all_alike cells ≡ true → Contains cells cell → alike first cell ≡ true
like_first [] first cell at all held = absurd (cc)
like_first (c ∷ cs) first cell at all held =
    let same : c ≡ first = cc in
    ap (λ (k : Cell). alike k cell) (sym same) ∙ all_member (alike c) (c ∷ cs) cell (and_from (alike c c) (list_all (alike c) cs) (alike_self c) all) held

first_of : (cells : List Cell) → 0 < length cells → (cell : Cell) × (slice_get cells 0 ≡ Some cell) × Contains cells cell
first_of [] some = absurd (omega (arith, some))
first_of (c ∷ cs) some = (c, refl, in_first c cs)

module _ (setting : Setting) (entries : List Entry) (legal : Legal setting entries) (whole : RowsAreValued setting.catalog) (loads : List KeptOf) (kept : AreKept setting.catalog entries loads) (rollup : Rollup) (is : IsRollup setting.catalog entries loads rollup) where
  abbrev pub cells : List Cell
  cells = rollup.cells.items

  pub first : (cell : Cell) × (slice_get cells 0 ≡ Some cell) × Contains cells cell
  first = first_of cells is.some

  pub plan_for : (cell : Cell) → Contains cells cell → IsPlanFor setting.catalog loads rollup.plan cell
  plan_for cell held = All-contains (IsPlanFor setting.catalog loads rollup.plan) cells cell is.planned_for held

  pub shown : (j : ℕ) × (k : KeptOf) × (slice_get (planned rollup.plan) 0 ≡ Some j) × (kept_at loads j ≡ Some k) × (k.version ≡ (plan_for first.0 first.2).rolls.rolled.version) × (load_version entries j ≡ Some k.version)
  shown = first_load setting entries legal whole loads kept rollup.plan first.0 (plan_for first.0 first.2)

  abbrev pub all_rows : List Row
  all_rows = rows_of entries first.0.cube shown.1.version

  same_rows : (cell : Cell) (held : Contains cells cell) → rows_of entries cell.cube (plan_for cell held).rolls.rolled.version ≡ all_rows
  same_rows cell held =
      let own = first_load setting entries legal whole loads kept rollup.plan cell (plan_for cell held) in
      let numbers : Some own.0 ≡ Some shown.0 = sym own.2 ∙ shown.2 in
      let number : own.0 ≡ shown.0 = cc in
      let both : Some own.1 ≡ Some shown.1 = sym own.3 ∙ ap (kept_at loads) number ∙ shown.3 in
      let same : own.1 ≡ shown.1 = cc in
      let like : Alike first.0 cell = alike_told first.0 cell (like_first cells first.0 cell first.1 is.same held) in
      ap (λ (c : ℕ). rows_of entries c (plan_for cell held).rolls.rolled.version) (sym like.cube) ∙ ap (rows_of entries first.0.cube) (sym own.4 ∙ ap (λ (k : KeptOf). k.version) same)

  pub all_behind : All (λ cell. LieBehind setting.catalog cell loads rollup.plan all_rows) cells
  all_behind =
      All-from_member (λ cell. LieBehind setting.catalog cell loads rollup.plan all_rows) cells
      (λ cell held. subst (LieBehind setting.catalog cell loads rollup.plan) (same_rows cell held) (lie_behind setting entries legal whole loads kept rollup.plan cell (plan_for cell held)))

  pub few_rows : length all_rows ≤ setting.row_limit
  few_rows = rows_few setting entries legal first.0.cube shown.1.version

  pub named : slice_get rollup.loads.items 0 ≡ Some shown.0
  named = ap (λ (js : List ℕ). slice_get js 0) is.named ∙ shown.2

  -- a cell that is rolled up from the rows is worth what is told
  one_worth : (cell : Cell) (tally : Tallied) (answered : Answered) → Contains cells cell → IsRolledUp setting.catalog all_rows cell tally → IsToldBy shown.1.version tally answered → IsWorth setting.catalog entries rollup.loads.items cell answered
  one_worth cell tally answered held rolled told =
      let like : Alike first.0 cell = alike_told first.0 cell (like_first cells first.0 cell first.1 is.same held) in
      let version : answered_version entries (record { cell = cell; loads = rollup.loads.items }) ≡ Some shown.1.version = ap (option_and_then (load_version entries)) named ∙ shown.5 in
      let worth_here : value setting.catalog entries cell shown.1.version ≡ answered.value =
      ap (λ (c : ℕ). value_over setting.catalog cell (rows_of entries c shown.1.version)) (sym like.cube) ∙ sym rolled.worth ∙ sym told.value in
      record { value = ap (option_map (value setting.catalog entries cell)) version ∙ ap Some worth_here; version = version ∙ ap Some (sym told.version_is) }

  pub all_worth : (tallies : List Tallied) (answered : List Answered) → AllZip (IsRolledUp setting.catalog all_rows) cells tallies → AllZip (IsToldBy shown.1.version) tallies answered → AllZip (IsWorth setting.catalog entries rollup.loads.items) cells answered
  all_worth tallies answered rolled told = by cells tallies answered (λ cell held. held) rolled told
    where
      by : (cs : List Cell) (ts : List Tallied) (told_all : List Answered) → ((cell : Cell) → Contains cs cell → Contains cells cell) → AllZip (IsRolledUp setting.catalog all_rows) cs ts → AllZip (IsToldBy shown.1.version) ts told_all → AllZip (IsWorth setting.catalog entries rollup.loads.items) cs told_all
      by [] [] [] own rolled told = tt
      by [] [] (a ∷ rest) own rolled told = absurd told
      by [] (t ∷ ts) rest own rolled told = absurd rolled
      by (c ∷ cs) [] rest own rolled told = absurd rolled
      by (c ∷ cs) (t ∷ ts) [] own rolled told = absurd told
      by (c ∷ cs) (t ∷ ts) (a ∷ rest) own rolled told =
          (one_worth c t a (own c (in_first c cs)) rolled.0 told.0, by cs ts rest (λ cell held. own cell (suc held.0, omega (arith, held.1), held.2)) rolled.1 told.1)

  pub ok_worth : {E : Type 0} (tallies : List Tallied) → AllZip (IsRolledUp setting.catalog all_rows) cells tallies → (r : Result (List Answered) E) → IfOk r (AllZip (IsToldBy shown.1.version) tallies) → IfOk r (AllZip (IsWorth setting.catalog entries rollup.loads.items) cells)
  ok_worth tallies rolled (Ok answered) told = all_worth tallies answered rolled told
  ok_worth tallies rolled (Err e) told = tt
