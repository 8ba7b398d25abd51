-- The regions that shut off part of a load tell which of its cells were flushed, and how many flushes touch it.
use Rattle.std.proofs.Common.{◌≡◌, refl, sym, ◌∙◌, ap, ℕ, suc, ◌+◌, ◌≤◌, List, [], ◌∷◌, ◌++◌, length, drop, filter, filter_map, Bool, true, false, cond, not, ◌&&◌, ◌||◌, ◌==◌, Option, Some, None, option_and_then, option_to_list, arith}
use Rattle.std.specs.List.{list_any, count_by, sum_by}
use Rattle.std.specs.Option.{option_map_or}
use Rattle.std.proofs.lemmas.Bool.{both_ways, and_parts, and_from, eqb-true, false_from_ne_true}
use Rattle.std.proofs.lemmas.List.{drop-append-le}
use Rattle.std.proofs.lemmas.List.Elements.{filter-append, filter_map-append}
use Rattle.std.proofs.lemmas.List.Sums.{sum_by-cons}
use Rattle.olap_meaning.specs.declared.cells.Cell.{Cell}
use Rattle.olap_meaning.specs.declared.cells.Header.{Header}
use Rattle.olap_meaning.specs.declared.regions.Region.{Region}
use Rattle.olap_meaning.specs.declared.regions.RegionBox.{RegionBox}
use Rattle.olap_meaning.specs.Covering.{header_covers, box_covers, box_touches, of_measure, region_covers, region_concerns, region_touches, concerning, touching}
use Rattle.olap_meaning.specs.History.{Entry, Append, Agg, Flush, Start, Done, Drop, Evict, Answer, Saw, Load, load_at, started, flushes, flushed, regions_after, shutting, delivered, evicts}
use Rattle.olap_meaning.specs.Growth.{RegionsGrow, ShuttingGrows, LoadsStartWhole}
use Rattle.olap_meaning.specs.Laws.{RegionsConcern, RegionsShutOff, TouchingAreCounted, DeliveredAreKept}
use Rattle.olap_meaning.proofs.Positions.{entry_within}
use Rattle.olap_meaning.proofs.Loads.{load_start}
use Rattle.olap_meaning.proofs.Growing.{entry-append-le}
use Rattle.olap_meaning.proofs.ReachUp.{any_weaker}

module _ {A : Type 0} (p q : A → Bool) (w : (x : A) → p x ≡ true → q x ≡ true) where
  fails : (x : A) → q x ≡ false → p x ≡ false
  fails x out = false_from_ne_true (p x) (λ t. both_ways (q x) out (w x t))

  -- what passes a test stands among those that pass a weaker one
  pub any_among : (xs : List A) → list_any p xs ≡ list_any p (filter q xs)
  any_among [] = refl
  any_among (x ∷ xs) = by (q x) refl (any_among xs)
    where
      by : (b : Bool) → q x ≡ b → list_any p xs ≡ list_any p (filter q xs) → (p x || list_any p xs) ≡ list_any p (cond b (x ∷ filter q xs) (filter q xs))
      by true e rest = ap (λ b. p x || b) rest
      by false e rest = ap (λ b. b || list_any p xs) (fails x e) ∙ rest

  -- and so is counted there
  pub count_among : (xs : List A) → count_by p xs ≡ count_by p (filter q xs)
  count_among [] = refl
  count_among (x ∷ xs) = sum_by-cons one x xs ∙ by (q x) refl (count_among xs)
    where
      one : A → ℕ
      one y = cond (p y) 1 0

      by : (b : Bool) → q x ≡ b → sum_by one xs ≡ sum_by one (filter q xs) → one x + sum_by one xs ≡ sum_by one (cond b (x ∷ filter q xs) (filter q xs))
      by true e rest = ap (λ n. one x + n) rest ∙ sym (sum_by-cons one x (filter q xs))
      by false e rest = let none : one x ≡ 0 = ap (λ b. cond b 1 0) (fails x e) in omega (arith, none, rest)

-- a region that covers a cell of a header concerns the header
covering_concerns : (header : Header) (cell : Cell) → header_covers header cell ≡ true → (region : Region) → region_covers region cell ≡ true → region_concerns region header ≡ true
covering_concerns header cell covers region h =
    let own : (((header.cube == cell.cube) && (header.measure == cell.measure)) ≡ true) = (and_parts _ _ covers).0 in
    let same : ((header.cube == cell.cube) ≡ true) × ((header.measure == cell.measure) ≡ true) = and_parts (header.cube == cell.cube) (header.measure == cell.measure) own in
    let parts : ((region.cube == cell.cube) ≡ true) × (list_any (λ box. box_covers box cell) region.boxes ≡ true) = and_parts (region.cube == cell.cube) (list_any (λ box. box_covers box cell) region.boxes) h in
    and_from (region.cube == header.cube) (list_any (λ box. of_measure box.measures header.measure) region.boxes)
    (ap (λ c. region.cube == c) (eqb-true header.cube cell.cube same.0) ∙ parts.0)
    (any_weaker (λ box. box_covers box cell) (λ box. of_measure box.measures header.measure) (λ box b. ap (of_measure box.measures) (eqb-true header.measure cell.measure same.1) ∙ (and_parts _ _ b).0) region.boxes parts.1)

-- a region that touches a header concerns it
touching_concerns : (header : Header) (region : Region) → region_touches region header ≡ true → region_concerns region header ≡ true
touching_concerns header region h =
    let parts : ((region.cube == header.cube) ≡ true) × (list_any (λ box. box_touches box header) region.boxes ≡ true) = and_parts (region.cube == header.cube) (list_any (λ box. box_touches box header) region.boxes) h in
    and_from (region.cube == header.cube) (list_any (λ box. of_measure box.measures header.measure) region.boxes) parts.0
    (any_weaker (λ box. box_touches box header) (λ box. of_measure box.measures header.measure) (λ box b. (and_parts _ _ b).0) region.boxes parts.1)

-- an entry flushes a cell where its region covers it
any_flushed : (cell : Cell) (entries : List Entry) → list_any (flushes cell) entries ≡ list_any (λ region. region_covers region cell) (filter_map flushed entries)
any_flushed cell [] = refl
any_flushed cell (Append w c v r ∷ es) = any_flushed cell es
any_flushed cell (Agg w t v ∷ es) = any_flushed cell es
any_flushed cell (Flush w r ∷ es) = ap (λ b. region_covers r cell || b) (any_flushed cell es)
any_flushed cell (Start l ∷ es) = any_flushed cell es
any_flushed cell (Done w j ∷ es) = any_flushed cell es
any_flushed cell (Drop w j ∷ es) = any_flushed cell es
any_flushed cell (Evict j ∷ es) = any_flushed cell es
any_flushed cell (Answer w cs ∷ es) = any_flushed cell es
any_flushed cell (Saw w ∷ es) = any_flushed cell es

-- the regions that shut off part of a load
pub shutting_of : (history : List Entry) (j : ℕ) (load : Load) → load_at history j ≡ Some load → shutting history j ≡ concerning load.header (regions_after history j)
shutting_of history j load at = ap (λ (o : Option Load). option_map_or (λ (l : Load). concerning l.header (regions_after history j)) o []) at

pub regions_shut_off : RegionsShutOff
regions_shut_off history j load cell at covers =
    any_flushed cell (drop j history)
    ∙ any_among (λ region. region_covers region cell) (λ region. region_concerns region load.header) (covering_concerns load.header cell covers) (regions_after history j)
    ∙ ap (list_any (λ region. region_covers region cell)) (sym (shutting_of history j load at))

pub touching_are_counted : TouchingAreCounted
touching_are_counted history j load at =
    ap (λ (o : Option Load). option_map_or (λ (l : Load). touching l.header (regions_after history j)) o 0) at
    ∙ count_among (λ region. region_touches region load.header) (λ region. region_concerns region load.header) (touching_concerns load.header) (regions_after history j)
    ∙ ap (touching load.header) (sym (shutting_of history j load at))

one_flushed : (entry : Entry) → filter_map flushed (entry ∷ []) ≡ option_to_list (flushed entry)
one_flushed entry = by (flushed entry) refl
  where
    by : (o : Option Region) → flushed entry ≡ o → filter_map flushed (entry ∷ []) ≡ option_to_list o
    by None e = rw e refl
    by (Some r) e = rw e refl

pub regions_grow : RegionsGrow
regions_grow history entry position l =
    ap (filter_map flushed) (drop-append-le position history (entry ∷ []) l) ∙ filter_map-append flushed (drop position history) (entry ∷ [])
    ∙ ap (λ (rs : List Region). regions_after history position ++ rs) (one_flushed entry)

pub shutting_grows : ShuttingGrows
shutting_grows history entry j load at =
    shutting_of (history ++ entry ∷ []) j load (ap (option_and_then started) (entry-append-le history (entry ∷ []) j within) ∙ at)
    ∙ ap (concerning load.header) (regions_grow history entry j within)
    ∙ filter-append (λ region. region_concerns region load.header) (regions_after history j) (option_to_list (flushed entry))
    ∙ ap (λ (rs : List Region). rs ++ concerning load.header (option_to_list (flushed entry))) (sym (shutting_of history j load at))
  where
    within : j ≤ length history
    within = (entry_within history j (Start load) (load_start history j load at)).1

drop_past : (history : List Entry) (entry : Entry) → drop (suc (length history)) (history ++ entry ∷ []) ≡ []
drop_past [] entry = refl
drop_past (e ∷ es) entry = drop_past es entry

pub loads_start_whole : LoadsStartWhole
loads_start_whole history entry =
    ap (λ (es : List Entry). option_map_or (λ (l : Load). concerning l.header (filter_map flushed es)) (load_at (history ++ entry ∷ []) (suc (length history))) []) (drop_past history entry)
    ∙ by (load_at (history ++ entry ∷ []) (suc (length history)))
  where
    by : (o : Option Load) → option_map_or (λ (l : Load). concerning l.header []) o [] ≡ []
    by None = refl
    by (Some l) = refl

pub delivered_are_kept : DeliveredAreKept
delivered_are_kept history j stays = by (delivered history j) (list_any (evicts j) history) stays
  where
    by : (b out : Bool) → out ≡ false → (b && not out) ≡ b
    by true true e = absurd (cc)
    by true false e = refl
    by false out e = refl

-- a test that holds of nothing more than another
any_same : {A : Type 0} (p q : A → Bool) → ((x : A) → p x ≡ q x) → (xs : List A) → list_any p xs ≡ list_any q xs
any_same p q same [] = refl
any_same p q same (x ∷ xs) = ap (λ b. b || list_any p xs) (same x) ∙ ap (λ b. q x || b) (any_same p q same xs)

and_end : (b : Bool) → b ≡ (b && true)
and_end true = refl
and_end false = refl

pub regions_concern : RegionsConcern
regions_concern region header =
    ap (λ b. (region.cube == header.cube) && b)
    (any_same (λ (box : RegionBox). of_measure box.measures header.measure) (λ (box : RegionBox). box_covers box (record { cube = header.cube; measure = header.measure; at = [] })) (λ box. and_end (of_measure box.measures header.measure)) region.boxes)
