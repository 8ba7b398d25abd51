-- The first rollup that serves a cell, and that cells which are equal are taken from the same loads.
use Rattle.std.proofs.Common.{◌≡◌, refl, sym, ◌∙◌, ap, subst, ℕ, suc, ◌<◌, List, [], ◌∷◌, ◌++◌, length, map, Bool, true, false, cond, ◌&&◌, ◌||◌, ◌==◌, Option, Some, None, All, Contains, nat_lt, not, option_map, position, slice_get, slice_set, unwrap_or, arith, ◌+◌, zero}
use Rattle.std.specs.Prelude.{IsTrue}
use Rattle.std.specs.List.{list_all, list_any, position_or_len}
use Rattle.std.proofs.lemmas.Bool.{and_from, and_parts, eqb-true, false_from_ne_true, lt-ltb, ltb-true}
use Rattle.std.proofs.lemmas.List.{length-set, length_push}
use Rattle.std.proofs.lemmas.List.Elements.{All-contains, All-head, All-tail, All-weaker}
use Rattle.std.proofs.lemmas.List.Folds.{position_or_len-set, position_or_len_push}
use Rattle.std.proofs.lemmas.Option.{get_or_from_slice_get}
use Rattle.olap_meaning.specs.declared.cells.Cell.{Cell}
use Rattle.olap_meaning.specs.declared.cells.CellSource.{CellSource}
use Rattle.olap_meaning.specs.declared.tables.Catalog.{Catalog}
use Rattle.olap_meaning.specs.Covering.{among, header_covers, names_column}
use Rattle.olap_meaning.specs.History.{Entry, exact_source, is_some_and}
use Rattle.olap_meaning.proofs.Loads.{some_and}
use Rattle.olap_meaning.proofs.Lists.{holds_at}
use Rattle.olap_meaning.proofs.Members.{member_any, member_map}
use Rattle.cell_groups.proofs.Alike.{alike_self}
use Rattle.olap_meaning.proofs.Appearances.{position_at}
use Rattle.history_core.specs.Groups.{alike}
use Rattle.cache_flush.specs.Loads.{KeptOf, is_candidate}
use Rattle.cache_flush.specs.Shuts.{is_live}
use Rattle.rollup_plan.specs.Plans.{is_candidate_at, kept_at}
use Rattle.rollup_plan.specs.Serving.{is_served, plan_serves}
use Rattle.rollup_plan.specs.declared.plan.Part.{Part}
use Rattle.rollup_plan.specs.declared.plan.Plan.{Plan}
use Rattle.rollup_plan.proofs.ServeFacts.{serves_alike}
use Rattle.cache_manager.proofs.Finding.{rolled_at}
use Rattle.cache_manager.specs.Found.{IsFirst, IsFound, IsHit, is_nothing, loads_found, source_found, wants}
use Rattle.cache_manager.specs.Rollups.{AreKept, HasJoined, IsBegun, IsRollup, KeepFirsts, MayJoin, first_serving, may_join}
use Rattle.cache_manager.specs.declared.findings.Found.{Found}
use Rattle.cache_manager.specs.declared.findings.Found.TheVariants.{Exact, Rolled, Nothing}
use Rattle.cache_manager.specs.declared.findings.Hit.{Hit}
use Rattle.cache_manager.specs.declared.rollups.Rollup.{Rollup}

-- some item passes just where the first place is one of the list
any_within : {A : Type 0} (p : A → Bool) (xs : List A) → list_any p xs ≡ true → position_or_len p xs < length xs
any_within p [] some = absurd (cc)
any_within p (x ∷ xs) some = by (p x) refl some (any_within p xs)
  where
    by : (b : Bool) → p x ≡ b → (p x || list_any p xs) ≡ true → (list_any p xs ≡ true → position_or_len p xs < length xs) → position_or_len p (x ∷ xs) < length (x ∷ xs)
    by true e some rest = rw e (omega arith)
    by false e some rest = rw e (let here = rest (rw e at some) in omega (arith, here))

-- a number that is among some is one of them
among_contained : (numbers : List ℕ) (j : ℕ) → among numbers j ≡ true → Contains numbers j
among_contained numbers j h = let found = member_any (λ v. v == j) numbers h in subst (Contains numbers) (eqb-true found.0 j found.2) found.1

-- a position by its two facts
module _ {A : Type 0} (p : A → Bool) where
  position_parts : (xs : List A) (n : ℕ) → position p xs ≡ Some n → (position_or_len p xs ≡ n) × (n < length xs)
  position_parts xs n h = by (nat_lt (position_or_len p xs) (length xs)) refl h
    where
      by : (b : Bool) → nat_lt (position_or_len p xs) (length xs) ≡ b → cond b (Some (position_or_len p xs)) None ≡ Some n → (position_or_len p xs ≡ n) × (n < length xs)
      by true e g = let same : position_or_len p xs ≡ n = cc in (same, subst (λ m. m < length xs) same (ltb-true (position_or_len p xs) (length xs) e))
      by false e g = absurd (cc)

  position_from : (xs : List A) (n : ℕ) → position_or_len p xs ≡ n → n < length xs → position p xs ≡ Some n
  position_from xs n same within = rw (same, lt-ltb n (length xs) within) refl

  -- one item more after those among which one passes
  pub position_more : (xs : List A) (y : A) (n : ℕ) → position p xs ≡ Some n → position p (xs ++ y ∷ []) ≡ Some n
  position_more xs y n h =
      let parts = position_parts xs n h in
      let apart : (position_or_len p xs == length xs) ≡ false = false_from_ne_true _ (λ e. let same = eqb-true (position_or_len p xs) (length xs) e in omega (arith, same, parts.0, parts.1)) in
      position_from (xs ++ y ∷ []) n (position_or_len_push p xs y ∙ rw apart parts.0) (let long = length_push xs y in omega (arith, long, parts.1))

  -- an item that stands in the place of one that passes as it did
  pub position_set : (xs : List A) (i : ℕ) (x y : A) (n : ℕ) → slice_get xs i ≡ Some x → p y ≡ p x → position p xs ≡ Some n → position p (slice_set xs i y) ≡ Some n
  position_set xs i x y n at same h =
      let parts = position_parts xs n h in
      position_from (slice_set xs i y) n (position_or_len-set p xs i y x (same ∙ ap p (sym (get_or_from_slice_get xs i x x at))) ∙ parts.0) (subst (λ m. n < m) (sym (length-set xs i y)) parts.1)

  -- the last item is the first that passes, where none before it does
  pub position_last : (xs : List A) (y : A) → position p xs ≡ None → p y ≡ true → position p (xs ++ y ∷ []) ≡ Some (length xs)
  position_last xs y none passes = position_at p xs [] y (none_passes xs (none_within none)) passes
    where
      none_within : position p xs ≡ None → position_or_len p xs < length xs → ⊥
      none_within h within = let here : cond true (Some (position_or_len p xs)) None ≡ None = rw (lt-ltb (position_or_len p xs) (length xs) within) at h in cc

      none_passes : (xs : List A) → (position_or_len p xs < length xs → ⊥) → list_any p xs ≡ false
      none_passes xs none = false_from_ne_true _ (λ some. none (any_within p xs some))

  -- the item at the position passes
  pub position_item : (xs : List A) (n : ℕ) → position p xs ≡ Some n → (x : A) × (slice_get xs n ≡ Some x) × (p x ≡ true)
  position_item xs n h = let parts = position_parts xs n h in item xs n parts.0 parts.1
    where
      item : (xs : List A) (n : ℕ) → position_or_len p xs ≡ n → n < length xs → (x : A) × (slice_get xs n ≡ Some x) × (p x ≡ true)
      item [] n same within = absurd (omega (arith, within))
      item (x ∷ xs) n same within = by (p x) n refl same within (item xs)
        where
          by : (b : Bool) (n : ℕ) → p x ≡ b → position_or_len p (x ∷ xs) ≡ n → n < length (x ∷ xs) → ((m : ℕ) → position_or_len p xs ≡ m → m < length xs → (z : A) × (slice_get xs m ≡ Some z) × (p z ≡ true)) → (z : A) × (slice_get (x ∷ xs) n ≡ Some z) × (p z ≡ true)
          by true zero e same within rest = (x, refl, e)
          by true (suc m) e same within rest = let here : 0 ≡ suc m = rw e at same in absurd (cc)
          by false zero e same within rest = let here : 1 + position_or_len p xs ≡ 0 = rw e at same in absurd (omega (arith, here))
          by false (suc m) e same within rest = let here : 1 + position_or_len p xs ≡ suc m = rw e at same in rest m (omega (arith, here)) (omega (arith, within))

-- the rollup by which a cell may be rolled up
pub serving_told : (loads : List KeptOf) (rollups : List Rollup) (cell : Cell) (n : ℕ) → first_serving loads rollups cell ≡ Some n → (rollup : Rollup) × (slice_get rollups n ≡ Some rollup) × MayJoin loads rollup cell
serving_told loads rollups cell n h = let item = position_item (may_join loads cell) rollups n h in (item.0, item.1, told item.0 item.2)
  where
    told : (rollup : Rollup) → may_join loads cell rollup ≡ true → MayJoin loads rollup cell
    told rollup may =
        let parts = and_parts (is_some_and (λ first. alike first cell) (slice_get rollup.cells.items 0)) (plan_serves loads rollup.plan cell) may in
        let first = some_and (λ first. alike first cell) (slice_get rollup.cells.items 0) parts.0 in
        record { first = first.0; is_first = first.1; same = first.2; served = parts.1; rolls = serves_alike loads rollup.plan cell parts.1 }

-- the first cell of a list to which one is added
first_stays : (cells : List Cell) (cell : Cell) → 0 < length cells → slice_get (cells ++ cell ∷ []) 0 ≡ slice_get cells 0
first_stays [] cell some = absurd (omega (arith, some))
first_stays (c ∷ cs) cell some = refl

-- the first rollups that serve cells stay the first where a cell has joined one
pub joined_firsts : (catalog : Catalog) (entries : List Entry) (loads : List KeptOf) (before after : List Rollup) (number place : ℕ) (cell : Cell) → HasJoined before after number place cell → All (IsRollup catalog entries loads) before → KeepFirsts loads before after
joined_firsts catalog entries loads before after number place cell joined are other n h =
    ap (λ (rs : List Rollup). first_serving loads rs other) joined.changed ∙ position_set (may_join loads other) before number joined.was joined.joined n joined.at same h
  where
    own : IsRollup catalog entries loads joined.was
    own = holds_at (IsRollup catalog entries loads) before number joined.was are joined.at

    same : may_join loads other joined.joined ≡ may_join loads other joined.was
    same =
        ap (λ (o : Option Cell). is_some_and (λ first. alike first other) o && plan_serves loads joined.joined.plan other) (ap (λ (cells : List Cell). slice_get cells 0) joined.cells ∙ first_stays joined.was.cells.items cell own.some)
        ∙ ap (λ (plan : Plan). is_some_and (λ first. alike first other) (slice_get joined.was.cells.items 0) && plan_serves loads plan other) joined.plan

pub begun_firsts : (loads : List KeptOf) (before after : List Rollup) (rollup : Rollup) → after ≡ before ++ rollup ∷ [] → KeepFirsts loads before after
begun_firsts loads before after rollup grown other n h = ap (λ (rs : List Rollup). first_serving loads rs other) grown ∙ position_more (may_join loads other) before rollup n h

-- planned loads that are candidates for a cell serve it
pub candidates_served : (loads : List KeptOf) (cell : Cell) (numbers : List ℕ) (parts : List Part) → All (λ number. IsTrue (is_candidate_at loads cell number)) numbers → All (λ part. IsTrue (among numbers part.load)) parts
    → list_all (λ part. is_served loads cell part.load) parts ≡ true
candidates_served loads cell numbers [] are known = refl
candidates_served loads cell numbers (part ∷ parts) are known =
    and_from (is_served loads cell part.load) (list_all (λ part. is_served loads cell part.load) parts) here (candidates_served loads cell numbers parts are (All-tail (λ part. IsTrue (among numbers part.load)) part parts known))
  where
    here : is_served loads cell part.load ≡ true
    here =
        let candidate = All-contains (λ number. IsTrue (is_candidate_at loads cell number)) numbers part.load are (among_contained numbers part.load (All-head (λ part. IsTrue (among numbers part.load)) part parts known)) in
        let kept = some_and (λ kept. is_candidate kept cell) (kept_at loads part.load) candidate in
        let outer = and_parts (header_covers kept.0.body.header cell && list_any (λ column. not (names_column cell column.0)) kept.0.body.header.columns) (is_live kept.0.shut cell) kept.2 in
        let wide = (and_parts (header_covers kept.0.body.header cell) (list_any (λ column. not (names_column cell column.0)) kept.0.body.header.columns) outer.0).0 in
        ap (is_some_and (λ kept. header_covers kept.body.header cell && is_live kept.shut cell)) kept.1 ∙ and_from (header_covers kept.0.body.header cell) (is_live kept.0.shut cell) wide outer.1

-- a rollup that was begun for a cell is the first that serves it, where none did
pub begun_first : (loads : List KeptOf) (before after : List Rollup) (plan : Plan) (cell : Cell) (rollup : Rollup) → after ≡ before ++ rollup ∷ [] → IsBegun plan cell rollup → first_serving loads before cell ≡ None → plan_serves loads plan cell ≡ true
    → first_serving loads after cell ≡ Some (length before)
begun_first loads before after plan cell rollup grown begun none serves = ap (λ (rs : List Rollup). first_serving loads rs cell) grown ∙ position_last (may_join loads cell) before rollup none joins
  where
    joins : may_join loads cell rollup ≡ true
    joins =
        ap (λ (cells : List Cell). is_some_and (λ first. alike first cell) (slice_get cells 0) && plan_serves loads rollup.plan cell) begun.cells
        ∙ ap (λ (p : Plan). alike cell cell && plan_serves loads p cell) begun.plan_is
        ∙ and_from (alike cell cell) (plan_serves loads plan cell) (alike_self cell) serves

-- the first rollup for a cell stays the first
pub first_on : (loads : List KeptOf) (before after : List Rollup) (cell : Cell) (found : Found) → KeepFirsts loads before after → IsFirst loads before cell found → IsFirst loads after cell found
first_on loads before after cell (Exact kept) keep is = is
first_on loads before after cell (Rolled rollup place) keep is = keep cell rollup is
first_on loads before after cell Nothing keep is = is

pub firsts_on : (loads : List KeptOf) (before after : List Rollup) (hits : List Hit) → KeepFirsts loads before after → All (λ hit. IsFirst loads before hit.cell.now hit.found) hits → All (λ hit. IsFirst loads after hit.cell.now hit.found) hits
firsts_on loads before after hits keep all = All-weaker (λ hit. IsFirst loads before hit.cell.now hit.found) (λ hit. IsFirst loads after hit.cell.now hit.found) (λ hit is. first_on loads before after hit.cell.now hit.found keep is) hits all

-- cells that are equal are taken from the same loads
module _ (catalog : Catalog) (entries : List Entry) (loads : List KeptOf) (kept : AreKept catalog entries loads) (rollups : List Rollup) (are : All (IsRollup catalog entries loads) rollups) where
  unserved : (cell : Cell) (number place : ℕ) → IsFound catalog entries rollups cell (Rolled number place) → exact_source entries cell ≡ None
  unserved cell number place is =
      let at = rolled_at catalog entries loads kept rollups are number place cell is in
      holds_at (λ c. exact_source entries c ≡ None) at.0.cells.items place cell at.3.unserved at.2

  same_found : (cell : Cell) (one other : Found) → IsFound catalog entries rollups cell one → IsFound catalog entries rollups cell other → IsFirst loads rollups cell one → IsFirst loads rollups cell other → is_nothing one ≡ false → is_nothing other ≡ false
      → loads_found rollups one ≡ loads_found rollups other
  same_found cell (Exact k) (Exact l) is too first other some more = let same : ◌≡◌ {A = Option ℕ} (Some k.now.load) (Some l.now.load) = sym is.1.source ∙ too.1.source in let one : k.now.load ≡ l.now.load = cc in ap (λ (n : ℕ). n ∷ []) one
  same_found cell (Exact k) (Rolled n q) is too first other some more = let clash : ◌≡◌ {A = Option ℕ} (Some k.now.load) None = sym is.1.source ∙ unserved cell n q too in absurd (cc)
  same_found cell (Exact k) Nothing is too first other some more = absurd (cc)
  same_found cell (Rolled m p) (Exact l) is too first other some more = let clash : ◌≡◌ {A = Option ℕ} (Some l.now.load) None = sym too.1.source ∙ unserved cell m p is in absurd (cc)
  same_found cell (Rolled m p) (Rolled n q) is too first other some more =
      let same : ◌≡◌ {A = Option ℕ} (Some m) (Some n) = sym first ∙ other in
      let one : m ≡ n = cc in
      ap (λ (number : ℕ). unwrap_or (option_map (λ found. found.loads.items) (slice_get rollups number)) []) one
  same_found cell (Rolled m p) Nothing is too first other some more = absurd (cc)
  same_found cell Nothing other is too first second some more = absurd (cc)

  pub same_sources : (hits : List Hit) → All (IsHit catalog entries rollups) hits → All (λ hit. IsFirst loads rollups hit.cell.now hit.found) hits → All (λ hit. wants hit ≡ false) hits
      → (one other : CellSource) → Contains (map (source_found rollups) hits) one → Contains (map (source_found rollups) hits) other → one.cell ≡ other.cell → one.loads ≡ other.loads
  same_sources hits all firsts served one other held too same =
      let first = member_map (source_found rollups) hits one held in
      let second = member_map (source_found rollups) hits other too in
      let cells : first.0.cell.now ≡ second.0.cell.now = ap (λ (s : CellSource). s.cell) first.2 ∙ same ∙ sym (ap (λ (s : CellSource). s.cell) second.2) in
      sym (ap (λ (s : CellSource). s.loads) first.2)
      ∙ same_found second.0.cell.now first.0.found second.0.found
      (subst (λ (c : Cell). IsFound catalog entries rollups c first.0.found) cells (All-contains (IsHit catalog entries rollups) hits first.0 all first.1))
      (All-contains (IsHit catalog entries rollups) hits second.0 all second.1)
      (subst (λ (c : Cell). IsFirst loads rollups c first.0.found) cells (All-contains (λ hit. IsFirst loads rollups hit.cell.now hit.found) hits first.0 firsts first.1))
      (All-contains (λ hit. IsFirst loads rollups hit.cell.now hit.found) hits second.0 firsts second.1)
      (All-contains (λ hit. wants hit ≡ false) hits first.0 served first.1) (All-contains (λ hit. wants hit ≡ false) hits second.0 served second.1)
      ∙ ap (λ (s : CellSource). s.loads) second.2
