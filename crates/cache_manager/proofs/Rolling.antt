-- What joins a rollup, and which plan is one for more cells.
use Rattle.std.proofs.Common.{◌≡◌, ◌≢◌, refl, sym, ◌∙◌, ap, subst, ℕ, zero, suc, ◌<◌, List, [], ◌∷◌, ◌++◌, length, map, filter, true, not, ◌&&◌, Option, Some, None, option_and_then, slice_get, slice_set, arith, All, Contains, ◌⊎◌, inl, inr}
use Rattle.std.specs.Prelude.{IsTrue}
use Rattle.std.specs.List.{list_all, list_any}
use Rattle.std.proofs.lemmas.Bool.{and_from, and_parts, cases_eq}
use Rattle.std.proofs.lemmas.List.{length_push}
use Rattle.std.proofs.lemmas.List.Elements.{All-cons, All-contains, All-head, All-nil, All-push, All-tail}
use Rattle.std.proofs.lemmas.List.Folds.{list_all-append}
use Rattle.std.proofs.lemmas.Option.{slice_get_within}
use Rattle.segment_body.proofs.CellFacts.{named_among}
use Rattle.cell_groups.proofs.Alike.{Alike, alike_told}
use Rattle.olap_meaning.specs.declared.cells.Allowed.{Allowed}
use Rattle.olap_meaning.specs.declared.cells.Cell.{Cell}
use Rattle.olap_meaning.specs.declared.tables.Catalog.{Catalog}
use Rattle.olap_meaning.specs.declared.tables.Cube.{Cube}
use Rattle.olap_meaning.specs.Covering.{among, header_covers, names_column}
use Rattle.olap_meaning.specs.History.{Entry, exact_source}
use Rattle.olap_meaning.specs.Legal.{is_cell}
use Rattle.olap_meaning.specs.Rolled.{value_count}
use Rattle.olap_meaning.specs.Worth.{measure_of}
use Rattle.olap_meaning.proofs.Loads.{some_and}
use Rattle.olap_meaning.proofs.Members.{All-from_member, all_member, filter_member, map_member, member_map}
use Rattle.olap_meaning.proofs.Positions.{get-append, get_last}
use Rattle.olap_meaning.proofs.Lists.{holds_at}
use Rattle.history_core.specs.Groups.{alike}
use Rattle.cache_flush.specs.Loads.{KeptOf, is_candidate}
use Rattle.cache_flush.specs.Shuts.{is_live}
use Rattle.rollup_plan.specs.Plans.{kept_at}
use Rattle.rollup_plan.specs.Serving.{ServesAlike, is_served, plan_serves}
use Rattle.rollup_plan.specs.declared.plan.Part.{Part}
use Rattle.rollup_plan.specs.declared.plan.Plan.{Plan}
use Rattle.cache_manager.specs.Rollups.{AreKept, GoOn, HasJoined, IsBegun, IsPlanFor, IsRollup, MayJoin, all_alike, candidates_for, cell_at, planned}
use Rattle.cache_manager.specs.declared.rollups.Rollup.{Rollup}
use Rattle.cache_manager.proofs.Sourcing.{candidate_at, contained_among}

module _ (first cell : Cell) (like : Alike first cell) where
  same_names : (column : ℕ) → names_column cell column ≡ names_column first column
  same_names column = named_among cell.at column ∙ ap (λ (cs : List ℕ). among cs column) (sym like.columns) ∙ sym (named_among first.at column)

  same_measure : (catalog : Catalog) → measure_of catalog cell ≡ measure_of catalog first
  same_measure catalog =
      ap (λ (cube : ℕ). option_and_then (λ c. slice_get c.measures cell.measure) (slice_get catalog.cubes cube)) (sym like.cube)
      ∙ ap (λ (measure : ℕ). option_and_then (λ (c : Cube). slice_get c.measures measure) (slice_get catalog.cubes first.cube)) (sym like.measure)

  same_lacks : (columns : List (ℕ × Allowed)) → list_any (λ own. not (names_column cell own.0)) columns ≡ list_any (λ own. not (names_column first own.0)) columns
  same_lacks [] = refl
  same_lacks (own ∷ columns) = rw (same_names own.0, same_lacks columns) refl

-- a planned load is one that serves a cell
part_served : (loads : List KeptOf) (cell : Cell) (parts : List Part) (j : ℕ) → list_all (λ part. is_served loads cell part.load) parts ≡ true → Contains (map (λ part. part.load) parts) j → is_served loads cell j ≡ true
part_served loads cell parts j all held =
    let part : (p : Part) × Contains parts p × (p.load ≡ j) = member_map (λ (p : Part). p.load) parts j held in
    ap (is_served loads cell) (sym part.2) ∙ all_member (λ p. is_served loads cell p.load) parts part.0 all part.1

module _ (catalog : Catalog) (entries : List Entry) (loads : List KeptOf) (kept : AreKept catalog entries loads) (plan : Plan) (first cell : Cell) (like : Alike first cell) (is : IsPlanFor catalog loads plan first) (served : plan_serves loads plan cell ≡ true) where
  -- a planned load is a candidate for the other cell too
  still_candidate : (j : ℕ) → Contains (planned plan) j → among (candidates_for loads cell) j ≡ true
  still_candidate j held =
      let here : (k : KeptOf) × (kept_at loads j ≡ Some k) × ((header_covers k.body.header cell && is_live k.shut cell) ≡ true) = some_and (λ k. header_covers k.body.header cell && is_live k.shut cell) (kept_at loads j) (part_served loads cell plan.parts j served held) in
      let was = candidate_at catalog entries first loads kept j (All-contains (λ i. among (candidates_for loads first) i ≡ true) (planned plan) j is.known held) in
      let both : Some here.0 ≡ Some was.0 = sym here.1 ∙ was.1 in
      let same : here.0 ≡ was.0 = cc in
      let parts = and_parts (header_covers here.0.body.header cell) (is_live here.0.shut cell) here.2 in
      let lacks : list_any (λ column. not (names_column cell column.0)) here.0.body.header.columns ≡ true =
      same_lacks first cell like here.0.body.header.columns ∙ ap (λ (k : KeptOf). list_any (λ column. not (names_column first column.0)) k.body.header.columns) same ∙ was.5 in
      let candidate : is_candidate here.0 cell ≡ true =
      and_from (header_covers here.0.body.header cell && list_any (λ column. not (names_column cell column.0)) here.0.body.header.columns) (is_live here.0.shut cell)
      (and_from (header_covers here.0.body.header cell) (list_any (λ column. not (names_column cell column.0)) here.0.body.header.columns) parts.0 lacks) parts.1 in
      let load : here.0.load ≡ j = ap (λ (k : KeptOf). k.load) same ∙ was.3 in
      subst (λ (i : ℕ). among (candidates_for loads cell) i ≡ true) load
      (contained_among (candidates_for loads cell) here.0.load
      (map_member (λ (k : KeptOf). k.load) (filter (λ k. is_candidate k cell) loads) here.0 (filter_member (λ k. is_candidate k cell) loads here.0 (subst (Contains loads) (sym same) was.6) candidate)))

  -- a plan is one for a cell that is alike and that its loads serve
  pub serves_too : ServesAlike loads plan cell → IsPlanFor catalog loads plan cell
  serves_too rolls = record {
    measure = is.measure;
    is_measure = same_measure first cell like catalog ∙ is.is_measure;
    known = All-from_member (λ j. IsTrue (among (candidates_for loads cell) j)) (planned plan) still_candidate;
    rolls = rolls is.measure.aggregator (value_count catalog) first (record { cube = like.cube; measure = like.measure; columns = like.columns }) is.rolls;
  }

set_at : {A : Type 0} (xs : List A) (i : ℕ) (x : A) → i < length xs → slice_get (slice_set xs i x) i ≡ Some x
set_at [] i x below = absurd (omega (arith, below))
set_at (y ∷ ys) zero x below = refl
set_at (y ∷ ys) (suc i) x below = set_at ys i x (omega (arith, below))

set_other : {A : Type 0} (xs : List A) (i j : ℕ) (x : A) → (j ≡ i → ⊥) → slice_get (slice_set xs i x) j ≡ slice_get xs j
set_other [] i j x other = refl
set_other (y ∷ ys) zero zero x other = absurd (other refl)
set_other (y ∷ ys) zero (suc j) x other = refl
set_other (y ∷ ys) (suc i) zero x other = refl
set_other (y ∷ ys) (suc i) (suc j) x other = set_other ys i j x (λ same. other (ap suc same))

set_all : {A : Type 0} (P : A → Type 0) (xs : List A) (i : ℕ) (x : A) → All P xs → P x → All P (slice_set xs i x)
set_all P [] i x all here = all
set_all P (y ∷ ys) zero x all here = All-cons P x ys here (All-tail P y ys all)
set_all P (y ∷ ys) (suc i) x all here = All-cons P y (slice_set ys i x) (All-head P y ys all) (set_all P ys i x (All-tail P y ys all) here)

alike_more : (cells : List Cell) (first cell : Cell) → slice_get cells 0 ≡ Some first → all_alike cells ≡ true → alike first cell ≡ true → all_alike (cells ++ cell ∷ []) ≡ true
alike_more [] first cell at all like = absurd (cc)
alike_more (c ∷ cs) first cell at all like =
    let same : c ≡ first = cc in
    list_all-append (alike c) cs (cell ∷ []) ∙ and_from (list_all (alike c) cs) (list_all (alike c) (cell ∷ [])) all (and_from (alike c cell) true (ap (λ (k : Cell). alike k cell) same ∙ like) refl)

module _ (before after : List Rollup) (number place : ℕ) (cell : Cell) (joined : HasJoined before after number place cell) where
  -- cells that stood in a rollup do so when one has joined
  pub joined_on : GoOn before after
  joined_on n p c at = by (cases_eq n number)
    where
      was : slice_get before number ≡ Some joined.was
      was = joined.at

      by : (n ≡ number) ⊎ (n ≢ number) → cell_at after n p ≡ Some c
      by (inr other) = ap (option_and_then (λ rollup. slice_get rollup.cells.items p)) (ap (λ (rs : List Rollup). slice_get rs n) joined.changed ∙ set_other before number n joined.joined other) ∙ at
      by (inl same) =
          let here : slice_get joined.was.cells.items p ≡ Some c = sym (ap (option_and_then (λ rollup. slice_get rollup.cells.items p)) (ap (slice_get before) same ∙ was)) ∙ at in
          ap (option_and_then (λ rollup. slice_get rollup.cells.items p)) (ap (λ (rs : List Rollup). slice_get rs n) joined.changed ∙ ap (slice_get (slice_set before number joined.joined)) same ∙ set_at before number joined.joined (slice_get_within before number joined.was was))
          ∙ ap (λ (cells : List Cell). slice_get cells p) joined.cells ∙ get-append joined.was.cells.items (cell ∷ []) p c here

  -- and the cell that has joined stands at its place
  pub joined_at : cell_at after number place ≡ Some cell
  joined_at =
      ap (option_and_then (λ rollup. slice_get rollup.cells.items place)) (ap (λ (rs : List Rollup). slice_get rs number) joined.changed ∙ set_at before number joined.joined (slice_get_within before number joined.was joined.at))
      ∙ ap (λ (cells : List Cell). slice_get cells place) joined.cells ∙ ap (slice_get (joined.was.cells.items ++ cell ∷ [])) joined.place_is ∙ get_last joined.was.cells.items cell

  -- rollups stay what they are
  pub joined_are :
      (catalog : Catalog) (entries : List Entry) (loads : List KeptOf) → AreKept catalog entries loads → is_cell catalog cell ≡ true → exact_source entries cell ≡ None → (rollup : Rollup) → slice_get before number ≡ Some rollup → MayJoin loads rollup cell
      → All (IsRollup catalog entries loads) before → All (IsRollup catalog entries loads) after
  joined_are catalog entries loads kept known none rollup at may all =
      subst (All (IsRollup catalog entries loads)) (sym joined.changed) (set_all (IsRollup catalog entries loads) before number joined.joined all here)
    where
      both : Some rollup ≡ Some joined.was
      both = sym at ∙ joined.at

      same : rollup ≡ joined.was
      same = cc both

      own : IsRollup catalog entries loads joined.was
      own = holds_at (IsRollup catalog entries loads) before number joined.was all joined.at

      may_here : MayJoin loads joined.was cell
      may_here = subst (λ (r : Rollup). MayJoin loads r cell) same may

      like : Alike may_here.first cell
      like = alike_told may_here.first cell may_here.same

      planned_here : IsPlanFor catalog loads joined.was.plan cell
      planned_here =
          serves_too catalog entries loads kept joined.was.plan may_here.first cell like (holds_at (IsPlanFor catalog loads joined.was.plan) joined.was.cells.items 0 may_here.first own.planned_for may_here.is_first)
          may_here.served may_here.rolls

      here : IsRollup catalog entries loads joined.joined
      here = record {
        some = subst (λ (cells : List Cell). 0 < length cells) (sym joined.cells) (let long = length_push joined.was.cells.items cell in omega (arith, long));
        named = joined.loads ∙ own.named ∙ ap planned (sym joined.plan);
        same = ap all_alike joined.cells ∙ alike_more joined.was.cells.items may_here.first cell may_here.is_first own.same may_here.same;
        known = ap (list_all (is_cell catalog)) joined.cells ∙ list_all-append (is_cell catalog) joined.was.cells.items (cell ∷ []) ∙ and_from _ _ own.known (and_from (is_cell catalog cell) true known refl);
        unserved = subst (All (λ c. exact_source entries c ≡ None)) (sym joined.cells) (All-push (λ c. exact_source entries c ≡ None) joined.was.cells.items cell own.unserved none);
        planned_for =
            subst (λ (p : Plan). All (IsPlanFor catalog loads p) joined.joined.cells.items) (sym joined.plan)
            (subst (All (IsPlanFor catalog loads joined.was.plan)) (sym joined.cells) (All-push (IsPlanFor catalog loads joined.was.plan) joined.was.cells.items cell own.planned_for planned_here));
      }

-- a rollup that was begun is one
pub begun_is :
    (catalog : Catalog) (entries : List Entry) (loads : List KeptOf) (plan : Plan) (cell : Cell) (rollup : Rollup) → is_cell catalog cell ≡ true → exact_source entries cell ≡ None → IsPlanFor catalog loads plan cell → IsBegun plan cell rollup
    → IsRollup catalog entries loads rollup
begun_is catalog entries loads plan cell rollup known none is begun = record {
  some = subst (λ (cells : List Cell). 0 < length cells) (sym begun.cells) (omega arith);
  named = begun.loads ∙ ap planned (sym begun.plan_is);
  same = ap all_alike begun.cells;
  known = ap (list_all (is_cell catalog)) begun.cells ∙ and_from (is_cell catalog cell) true known refl;
  unserved = subst (All (λ c. exact_source entries c ≡ None)) (sym begun.cells) (All-cons (λ c. exact_source entries c ≡ None) cell [] none (All-nil _));
  planned_for = subst (λ (p : Plan). All (IsPlanFor catalog loads p) rollup.cells.items) (sym begun.plan_is) (subst (All (IsPlanFor catalog loads plan)) (sym begun.cells) (All-cons (IsPlanFor catalog loads plan) cell [] is (All-nil _)));
}

-- rollups go on where one is begun
pub begun_on : (before after : List Rollup) (rollup : Rollup) → after ≡ before ++ rollup ∷ [] → GoOn before after
begun_on before after rollup grown n p c at = by (slice_get before n) refl at
  where
    by : (o : Option Rollup) → slice_get before n ≡ o → option_and_then (λ r. slice_get r.cells.items p) o ≡ Some c → cell_at after n p ≡ Some c
    by None e h = absurd (cc)
    by (Some r) e h = ap (option_and_then (λ r. slice_get r.cells.items p)) (ap (λ (rs : List Rollup). slice_get rs n) grown ∙ get-append before (rollup ∷ []) n r e) ∙ h

-- and its cell stands first there
pub begun_at : (before after : List Rollup) (plan : Plan) (cell : Cell) (rollup : Rollup) → after ≡ before ++ rollup ∷ [] → IsBegun plan cell rollup → cell_at after (length before) 0 ≡ Some cell
begun_at before after plan cell rollup grown begun =
    ap (option_and_then (λ r. slice_get r.cells.items 0)) (ap (λ (rs : List Rollup). slice_get rs (length before)) grown ∙ get_last before rollup) ∙ ap (λ (cells : List Cell). slice_get cells 0) begun.cells
