-- What was found for cells, and what is made of it.
use Rattle.std.proofs.Common.{◌≡◌, refl, sym, ◌∙◌, ap, subst, ℕ, zero, suc, ◌<◌, List, [], ◌∷◌, ◌++◌, length, map, filter, take, get_or, Bool, true, false, not, Option, Some, None, option_map, option_and_then, unwrap_or, slice_get, arith, All}
use Rattle.std.specs.List.{AllZip, list_all}
use Rattle.std.proofs.Math.Seq.{take-suc}
use Rattle.std.proofs.lemmas.Bool.{and_parts}
use Rattle.std.proofs.lemmas.List.{map_push}
use Rattle.std.proofs.lemmas.List.Elements.{All-cons, All-head, All-nil, All-tail, All-weaker}
use Rattle.olap_meaning.specs.declared.cells.Cell.{Cell}
use Rattle.olap_meaning.specs.declared.tables.Catalog.{Catalog}
use Rattle.olap_meaning.specs.declared.tables.Measure.{Measure}
use Rattle.olap_meaning.specs.History.{Entry, exact_source}
use Rattle.olap_meaning.specs.Legal.{IsSource, has_source, is_cell}
use Rattle.olap_meaning.specs.Worth.{measure_of}
use Rattle.olap_meaning.proofs.Loads.{some_and}
use Rattle.olap_meaning.proofs.RolledSources.{sources_are_decided}
use Rattle.olap_meaning.proofs.Lists.{zip_push}
use Rattle.history_core.specs.declared.answers.Answered.{Answered}
use Rattle.history_core.specs.Groups.{wanting}
use Rattle.cache_flush.specs.Loads.{KeptOf}
use Rattle.cache_manager.specs.Found.{IsFound, IsHit, IsPlaced, cells_of, is_nothing, loads_found, source_found, wants}
use Rattle.cache_manager.specs.Rollups.{AreKept, AreRolledUp, GoOn, IsPlanFor, IsRollup, IsWorth, cell_at, planned}
use Rattle.cache_manager.specs.declared.findings.Found.{Found}
use Rattle.cache_manager.specs.declared.findings.Found.TheVariants.{Exact, Rolled, Nothing}
use Rattle.cache_manager.specs.declared.findings.Hit.{Hit}
use Rattle.cache_manager.specs.declared.rollups.Rollup.{Rollup}
use Rattle.cache_manager.proofs.Sourcing.{plan_source}

module _ {A B : Type 0} (R : A → B → Type 0) where
  -- one pair more
  pub zip_more : (xs : List A) (ys : List B) (i : ℕ) (x : A) (y : B) → i < length xs → x ≡ get_or xs i x → AllZip R (take i xs) ys → R x y → AllZip R (take (suc i) xs) (ys ++ y ∷ [])
  zip_more xs ys i x y below is so_far here = rw (take-suc xs i x below, ← is) (zip_push R (take i xs) ys x y so_far here)

  -- the pair at a place
  pub zip_get : (xs : List A) (ys : List B) (i : ℕ) (x : A) → AllZip R xs ys → slice_get xs i ≡ Some x → (y : B) × (slice_get ys i ≡ Some y) × R x y
  zip_get [] ys i x all at = absurd (cc)
  zip_get (w ∷ xs) [] i x all at = absurd all
  zip_get (w ∷ xs) (z ∷ ys) zero x all at = let same : w ≡ x = cc in (z, refl, subst (λ (v : A). R v z) same all.0)
  zip_get (w ∷ xs) (z ∷ ys) (suc i) x all at = zip_get xs ys i x all.1 at

pub map_more : {A B : Type 0} (f : A → B) (xs : List A) (i : ℕ) (x : A) → i < length xs → x ≡ get_or xs i x → map f (take (suc i) xs) ≡ map f (take i xs) ++ f x ∷ []
map_more f xs i x below is = rw (take-suc xs i x below, ← is) (map_push f (take i xs) x)

pub take_more : {A : Type 0} (xs : List A) (i : ℕ) (x : A) → i < length xs → x ≡ get_or xs i x → take (suc i) xs ≡ take i xs ++ x ∷ []
take_more xs i x below is = rw (take-suc xs i x below, ← is) refl

filter-append : {X : Type 0} (keep : X → Bool) (xs ys : List X) → filter keep (xs ++ ys) ≡ filter keep xs ++ filter keep ys
filter-append keep [] ys = refl
filter-append keep (x ∷ xs) ys = by (keep x) refl (filter-append keep xs ys)
  where
    by : (b : Bool) → keep x ≡ b → filter keep (xs ++ ys) ≡ filter keep xs ++ filter keep ys → filter keep (x ∷ (xs ++ ys)) ≡ filter keep (x ∷ xs) ++ filter keep ys
    by true e rest = rw e (ap (λ (zs : List _). x ∷ zs) rest)
    by false e rest = rw e rest

pub filter_more : {X : Type 0} (keep : X → Bool) (xs : List X) (i : ℕ) (x : X) → i < length xs → x ≡ get_or xs i x → filter keep (take (suc i) xs) ≡ filter keep (take i xs) ++ filter keep (x ∷ [])
filter_more keep xs i x below is = rw (take-suc xs i x below, ← is) (filter-append keep (take i xs) (x ∷ []))

-- an item at a place is among all
pub all_at : {A : Type 0} (P : A → Type 0) (xs : List A) (i : ℕ) (x : A) → All P xs → i < length xs → x ≡ get_or xs i x → P x
all_at P [] i x all below is = absurd (omega (arith, below))
all_at P (y ∷ ys) zero x all below is = subst P (sym is) (All-head P y ys all)
all_at P (y ∷ ys) (suc i) x all below is = all_at P ys i x (All-tail P y ys all) (omega (arith, below)) is

module _ (catalog : Catalog) (entries : List Entry) where
  -- what was found stays so where rollups go on
  pub found_on : (before after : List Rollup) (cell : Cell) (found : Found) → GoOn before after → IsFound catalog entries before cell found → IsFound catalog entries after cell found
  found_on before after cell (Exact kept) on is = is
  found_on before after cell (Rolled rollup place) on is = on rollup place cell is
  found_on before after cell Nothing on is = is

  pub hits_on : (before after : List Rollup) (hits : List Hit) → GoOn before after → All (IsHit catalog entries before) hits → All (IsHit catalog entries after) hits
  hits_on before after hits on all = All-weaker (IsHit catalog entries before) (IsHit catalog entries after) (λ hit is. found_on before after hit.cell.now hit.found on is) hits all

  module _ (loads : List KeptOf) (kept : AreKept catalog entries loads) (rollups : List Rollup) (are : All (IsRollup catalog entries loads) rollups) where
    -- the rollup that was found, with its place
    pub rolled_at : (number place : ℕ) (cell : Cell) → cell_at rollups number place ≡ Some cell → (rollup : Rollup) × (slice_get rollups number ≡ Some rollup) × (slice_get rollup.cells.items place ≡ Some cell) × IsRollup catalog entries loads rollup
    rolled_at number place cell at = by (slice_get rollups number) refl at
      where
        by : (o : Option Rollup) → slice_get rollups number ≡ o → option_and_then (λ rollup. slice_get rollup.cells.items place) o ≡ Some cell → (rollup : Rollup) × (slice_get rollups number ≡ Some rollup) × (slice_get rollup.cells.items place ≡ Some cell) × IsRollup catalog entries loads rollup
        by None e h = absurd (cc)
        by (Some rollup) e h = (rollup, e, h, got rollups number rollup are e)
          where
            got : (xs : List Rollup) (i : ℕ) (x : Rollup) → All (IsRollup catalog entries loads) xs → slice_get xs i ≡ Some x → IsRollup catalog entries loads x
            got [] i x all e = absurd (cc)
            got (y ∷ ys) zero x all e = let same : y ≡ x = cc in subst (IsRollup catalog entries loads) same (All-head (IsRollup catalog entries loads) y ys all)
            got (y ∷ ys) (suc i) x all e = got ys i x (All-tail (IsRollup catalog entries loads) y ys all) e

    -- what was found is a source
    pub source_is : (cell : Cell) (found : Found) → IsFound catalog entries rollups cell found → is_nothing found ≡ false → IsSource catalog entries cell (loads_found rollups found)
    source_is cell (Exact k) is some = rw is.1.source refl
    source_is cell (Rolled number place) is some =
        let at = rolled_at number place cell is in
        let own : IsRollup catalog entries loads at.0 = at.3 in
        let none : exact_source entries cell ≡ None = got (λ c. exact_source entries c ≡ None) at.0.cells.items place cell own.unserved at.2 in
        let named : loads_found rollups (Rolled number place) ≡ planned at.0.plan = ap (λ (o : Option Rollup). unwrap_or (option_map (λ rollup. rollup.loads.items) o) []) at.1 ∙ own.named in
        subst (IsSource catalog entries cell) (sym named) (plan_source catalog entries cell loads kept at.0.plan none (got (IsPlanFor catalog loads at.0.plan) at.0.cells.items place cell own.planned_for at.2))
      where
        got : (P : Cell → Type 0) (xs : List Cell) (i : ℕ) (x : Cell) → All P xs → slice_get xs i ≡ Some x → P x
        got P [] i x all e = absurd (cc)
        got P (y ∷ ys) zero x all e = let same : y ≡ x = cc in subst P same (All-head P y ys all)
        got P (y ∷ ys) (suc i) x all e = got P ys i x (All-tail P y ys all) e
    source_is cell Nothing is some = absurd (cc)

    -- a cell wants a source just where nothing was found
    pub wants_told : (hit : Hit) → IsHit catalog entries rollups hit → not (has_source catalog entries hit.cell.now) ≡ wants hit
    wants_told hit is = by hit.found refl is
      where
        by : (found : Found) → hit.found ≡ found → IsFound catalog entries rollups hit.cell.now found → not (has_source catalog entries hit.cell.now) ≡ is_nothing found
        by Nothing e h = ap not h
        by (Exact k) e h = ap not (sourced (Exact k) h refl)
          where
            sourced : (found : Found) → IsFound catalog entries rollups hit.cell.now found → is_nothing found ≡ false → has_source catalog entries hit.cell.now ≡ true
            sourced found h some = (sources_are_decided.has catalog entries hit.cell.now).1 (loads_found rollups found, source_is hit.cell.now found h some)
        by (Rolled n p) e h = ap not (sourced (Rolled n p) h refl)
          where
            sourced : (found : Found) → IsFound catalog entries rollups hit.cell.now found → is_nothing found ≡ false → has_source catalog entries hit.cell.now ≡ true
            sourced found h some = (sources_are_decided.has catalog entries hit.cell.now).1 (loads_found rollups found, source_is hit.cell.now found h some)

    -- the cells for which nothing was found are those that want a source
    pub wanting_found : (hits : List Hit) → All (IsHit catalog entries rollups) hits → cells_of (filter wants hits) ≡ wanting catalog entries (cells_of hits)
    wanting_found [] all = refl
    wanting_found (hit ∷ hits) all = by (wants hit) refl (wanting_found hits (All-tail (IsHit catalog entries rollups) hit hits all))
      where
        told : not (has_source catalog entries hit.cell.now) ≡ wants hit
        told = wants_told hit (All-head (IsHit catalog entries rollups) hit hits all)

        by : (b : Bool) → wants hit ≡ b → cells_of (filter wants hits) ≡ wanting catalog entries (cells_of hits) → cells_of (filter wants (hit ∷ hits)) ≡ wanting catalog entries (cells_of (hit ∷ hits))
        by true e rest = rw (e, told ∙ e) (ap (λ (cells : List Cell). hit.cell.now ∷ cells) rest)
        by false e rest = rw (e, told ∙ e) rest

    -- where something was found for each, each is taken from a source
    pub sources_found : (hits : List Hit) → All (IsHit catalog entries rollups) hits → All (λ hit. wants hit ≡ false) hits → All (λ source. IsSource catalog entries source.cell source.loads) (map (source_found rollups) hits)
    sources_found [] all some = All-nil _
    sources_found (hit ∷ hits) all some =
        All-cons (λ source. IsSource catalog entries source.cell source.loads) (source_found rollups hit) (map (source_found rollups) hits)
        (source_is hit.cell.now hit.found (All-head (IsHit catalog entries rollups) hit hits all) (All-head (λ h. wants h ≡ false) hit hits some))
        (sources_found hits (All-tail (IsHit catalog entries rollups) hit hits all) (All-tail (λ h. wants h ≡ false) hit hits some))

    -- the rollup that was found is one of those
    pub placed_found : (hits : List Hit) → All (IsHit catalog entries rollups) hits → All (λ hit. IsPlaced rollups hit.found) hits
    placed_found hits all = All-weaker (IsHit catalog entries rollups) (λ hit. IsPlaced rollups hit.found) (λ hit is. by hit.cell.now hit.found is) hits all
      where
        within : (xs : List Rollup) (i : ℕ) (x : Rollup) → slice_get xs i ≡ Some x → i < length xs
        within [] i x e = absurd (cc)
        within (y ∷ ys) zero x e = omega arith
        within (y ∷ ys) (suc i) x e = let l = within ys i x e in omega (arith, l)

        by : (cell : Cell) (found : Found) → IsFound catalog entries rollups cell found → IsPlaced rollups found
        by cell (Exact k) is = tt
        by cell (Rolled n p) is = let at = rolled_at n p cell is in within rollups n at.0 at.1
        by cell Nothing is = tt

-- where no cell wants a source, something was found for each
pub none_wants : (hits : List Hit) → length (filter wants hits) ≡ 0 → All (λ hit. wants hit ≡ false) hits
none_wants [] none = All-nil _
none_wants (hit ∷ hits) none = by (wants hit) refl none (none_wants hits)
  where
    by : (b : Bool) → wants hit ≡ b → length (filter wants (hit ∷ hits)) ≡ 0 → (length (filter wants hits) ≡ 0 → All (λ h. wants h ≡ false) hits) → All (λ h. wants h ≡ false) (hit ∷ hits)
    by true e few rest = let more : length (hit ∷ filter wants hits) ≡ 0 = rw e at few in absurd (omega (arith, more))
    by false e few rest = All-cons (λ h. wants h ≡ false) hit hits e (rest (rw e at few))

-- a known cell has a measure
pub known_measure : (catalog : Catalog) (cell : Cell) → is_cell catalog cell ≡ true → (measure : Measure) × (measure_of catalog cell ≡ Some measure)
known_measure catalog cell known =
    let found = some_and (λ measure. true) (measure_of catalog cell) (and_parts _ _ (and_parts _ _ (and_parts _ _ known).0).0).0 in
    (found.0, found.1)

-- what was rolled up for a cell of a rollup
pub rolled_worth :
    (catalog : Catalog) (entries : List Entry) (rollups : List Rollup) (rolled : List (List Answered)) (number place : ℕ) (cell : Cell) → AreRolledUp catalog entries rollups rolled → cell_at rollups number place ≡ Some cell
    → (each : List Answered) × (one : Answered) × (slice_get rolled number ≡ Some each) × (slice_get each place ≡ Some one) × IsWorth catalog entries (loads_found rollups (Rolled number place)) cell one
rolled_worth catalog entries rollups rolled number place cell all at = by (slice_get rollups number) refl at
  where
    by : (o : Option Rollup) → slice_get rollups number ≡ o → option_and_then (λ rollup. slice_get rollup.cells.items place) o ≡ Some cell
        → (each : List Answered) × (one : Answered) × (slice_get rolled number ≡ Some each) × (slice_get each place ≡ Some one) × IsWorth catalog entries (loads_found rollups (Rolled number place)) cell one
    by None e h = absurd (cc)
    by (Some rollup) e h =
        let each = zip_get (λ r xs. AllZip (IsWorth catalog entries r.loads.items) r.cells.items xs) rollups rolled number rollup all e in
        let one = zip_get (IsWorth catalog entries rollup.loads.items) rollup.cells.items each.0 place cell each.2 h in
        let loads : loads_found rollups (Rolled number place) ≡ rollup.loads.items = ap (λ (o : Option Rollup). unwrap_or (option_map (λ r. r.loads.items) o) []) e in
        (each.0, one.0, each.1, one.1, subst (λ (js : List ℕ). IsWorth catalog entries js cell one.0) (sym loads) one.2)

-- each cell that was looked for is known
pub known_at : (catalog : Catalog) (hits : List Hit) (i : ℕ) (hit : Hit) → list_all (is_cell catalog) (cells_of hits) ≡ true → i < length hits → hit ≡ get_or hits i hit → is_cell catalog hit.cell.now ≡ true
known_at catalog [] i hit known below is = absurd (omega (arith, below))
known_at catalog (h ∷ hits) zero hit known below is = rw is (and_parts _ _ known).0
known_at catalog (h ∷ hits) (suc i) hit known below is = known_at catalog hits i hit (and_parts _ _ known).1 (omega (arith, below)) is
