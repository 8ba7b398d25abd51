-- The cheapest of the facts and some tables, table by table from the last; and that it is the least.
use Rattle.std.proofs.Common.{◌≡◌, ◌∙◌, ◌<◌, ◌≤◌, ◌+◌, ◌-◌, ℕ, zero, suc, Bool, true, false, List, [], ◌∷◌, Option, None, Some, drop, length, map, get_or, refl, sym, ap, subst, arith, All}
use Rattle.std.specs.Prelude.{◌&&◌, nat_le, option_and_then, option_map, slice_get, if◌then◌else◌}
use Rattle.std.proofs.lemmas.Bool.{and_parts, leb-true}
use Rattle.std.proofs.lemmas.List.Elements.{All-head, All-tail}
use Rattle.std.proofs.lemmas.Option.{slice_get-get_or, slice_get-map}
use Rattle.olap_meaning.specs.declared.cells.Header.{Header}
use Rattle.olap_meaning.specs.declared.tables.Catalog.{Catalog}
use Rattle.fact_versions.specs.FactRows.{FactRows}
use Rattle.fact_reader.specs.BodyRows.{rows_in}
use Rattle.agg_tables.specs.Costs.{cheaper, cheapest, is_usable, may_read, read_cost, table_cost}
use Rattle.agg_tables.specs.Tables.{TableOf}
use Rattle.segment_load.specs.Loads.{IsOffered, MayRead}

-- one table more, from the last on
pub cheapest_next : (header : Header) (version rows : ℕ) (tables : List TableOf) (place : ℕ) (table : TableOf) → slice_get tables place ≡ Some table
    → cheapest header version rows (drop place tables) ≡ cheaper header version rows table (cheapest header version rows (drop (suc place) tables))
cheapest_next header version rows [] place table at = absurd (cc)
cheapest_next header version rows (t ∷ ts) zero table at = let same : t ≡ table = cc in ap (λ (x : TableOf). cheaper header version rows x (cheapest header version rows ts)) same
cheapest_next header version rows (t ∷ ts) (suc place) table at = cheapest_next header version rows ts place table at

pub none_left : (header : Header) (version rows : ℕ) (tables : List TableOf) → cheapest header version rows (drop (length tables) tables) ≡ None
none_left header version rows [] = refl
none_left header version rows (t ∷ ts) = none_left header version rows ts

pub all_left : (header : Header) (version rows n : ℕ) (tables : List TableOf) → length tables ≡ n → cheapest header version rows (drop n tables) ≡ None
all_left header version rows n tables is = ap (λ (k : ℕ). cheapest header version rows (drop k tables)) (sym is) ∙ none_left header version rows tables

-- a turn of the search: the table at a place is taken where it wins, and else what was found of those after it stays
module _ {A : Type 0} (items : List A) (value : A → TableOf) (header : Header) (version rows : ℕ) (k : ℕ) (item : A) (best : Option ℕ) (least : ℕ)
    (inside : k < length items) (here : item ≡ get_or items (length items - 1 - k) item)
    (chosen : option_and_then (slice_get (map value items)) best ≡ cheapest header version rows (drop (length items - k) (map value items)))
    (counted : least ≡ read_cost rows (cheapest header version rows (drop (length items - k) (map value items)))) where
  at_place : slice_get (map value items) (length items - 1 - k) ≡ Some (value item)
  at_place =
      slice_get-map value items (length items - 1 - k)
      ∙ ap (λ (o : Option A). option_map value o) (slice_get-get_or items (length items - 1 - k) item (omega (arith, inside)) ∙ ap (λ (x : A). Some x) (sym here))

  next : cheapest header version rows (drop (length items - (k + 1)) (map value items)) ≡ cheaper header version rows (value item) (cheapest header version rows (drop (length items - k) (map value items)))
  next =
      let place : length items - (k + 1) ≡ length items - 1 - k = omega (arith, inside) in
      let behind : suc (length items - 1 - k) ≡ length items - k = omega (arith, inside) in
      ap (λ (n : ℕ). cheapest header version rows (drop n (map value items))) place
      ∙ cheapest_next header version rows (map value items) (length items - 1 - k) (value item) at_place
      ∙ ap (λ (n : ℕ). cheaper header version rows (value item) (cheapest header version rows (drop n (map value items)))) behind

  pub taken : (may_read header version (value item) && nat_le (table_cost rows (value item)) least) ≡ true
      → (option_and_then (slice_get (map value items)) (Some (length items - 1 - k)) ≡ cheapest header version rows (drop (length items - (k + 1)) (map value items)))
      × (table_cost rows (value item) ≡ read_cost rows (cheapest header version rows (drop (length items - (k + 1)) (map value items))))
  taken wins =
      let here : (may_read header version (value item) && nat_le (table_cost rows (value item)) (read_cost rows (cheapest header version rows (drop (length items - k) (map value items))))) ≡ true = subst (λ (n : ℕ). (may_read header version (value item) && nat_le (table_cost rows (value item)) n) ≡ true) counted wins in
      let all : cheapest header version rows (drop (length items - (k + 1)) (map value items)) ≡ Some (value item) = next ∙ ap (λ (b : Bool). if b then Some (value item) else cheapest header version rows (drop (length items - k) (map value items))) here in
      (at_place ∙ sym all, ap (read_cost rows) (sym all))

  pub left : (may_read header version (value item) && nat_le (table_cost rows (value item)) least) ≡ false
      → (option_and_then (slice_get (map value items)) best ≡ cheapest header version rows (drop (length items - (k + 1)) (map value items)))
      × (least ≡ read_cost rows (cheapest header version rows (drop (length items - (k + 1)) (map value items))))
  left loses =
      let here : (may_read header version (value item) && nat_le (table_cost rows (value item)) (read_cost rows (cheapest header version rows (drop (length items - k) (map value items))))) ≡ false = subst (λ (n : ℕ). (may_read header version (value item) && nat_le (table_cost rows (value item)) n) ≡ false) counted loses in
      let all : cheapest header version rows (drop (length items - (k + 1)) (map value items)) ≡ cheapest header version rows (drop (length items - k) (map value items)) = next ∙ ap (λ (b : Bool). if b then Some (value item) else cheapest header version rows (drop (length items - k) (map value items))) here in
      (chosen ∙ sym all, counted ∙ ap (read_cost rows) (sym all))

-- what is read costs no more than the facts, and may be read
pub cheapest_may : (catalog : Catalog) (header : Header) (snapshot : List FactRows) (tables : List TableOf) → All (IsOffered catalog header snapshot) tables
    → MayRead catalog header snapshot (cheapest header (length snapshot) (length (rows_in snapshot)) tables) × (read_cost (length (rows_in snapshot)) (cheapest header (length snapshot) (length (rows_in snapshot)) tables) ≤ length (rows_in snapshot))
cheapest_may catalog header snapshot [] offered = (tt, omega arith)
cheapest_may catalog header snapshot (t ∷ ts) offered =
    by (may_read header (length snapshot) t) (nat_le (table_cost rows t) (read_cost rows rest)) refl refl (cheapest_may catalog header snapshot ts (All-tail (IsOffered catalog header snapshot) t ts offered))
  where
    rows : ℕ
    rows = length (rows_in snapshot)

    rest : Option TableOf
    rest = cheapest header (length snapshot) rows ts

    by : (may less : Bool) → may_read header (length snapshot) t ≡ may → nat_le (table_cost rows t) (read_cost rows rest) ≡ less
        → MayRead catalog header snapshot rest × (read_cost rows rest ≤ rows)
        → MayRead catalog header snapshot (if may && less then Some t else rest) × (read_cost rows (if may && less then Some t else rest) ≤ rows)
    by true true is few (other, bound) =
        let usable = (and_parts (is_usable header t) (nat_le t.version (length snapshot)) is).0 in
        ((usable, All-head (IsOffered catalog header snapshot) t ts offered is), omega (arith, bound, leb-true _ _ few))
    by true false is few other = other
    by false less is few other = other
