-- Of the regions that were flushed, those that concern a header tell all that is asked of its load.
use Rattle.std.proofs.Common.{◌≡◌, sym, ◌∙◌, ap, ℕ, List, [], true, not, ◌&&◌, ◌==◌, Contains, arith}
use Rattle.std.specs.List.{list_any}
use Rattle.std.proofs.lemmas.Bool.{and_from, and_parts, eqb-true}
use Rattle.olap_meaning.specs.declared.cells.Cell.{Cell}
use Rattle.olap_meaning.specs.declared.cells.Header.{Header}
use Rattle.olap_meaning.specs.declared.regions.Region.{Region}
use Rattle.olap_meaning.specs.Covering.{box_touches, concerning, header_covers, of_measure, region_concerns, region_covers, region_touches, touching}
use Rattle.olap_meaning.proofs.ReachUp.{any_weaker, regions_reach_up}
use Rattle.olap_meaning.proofs.Shutting.{any_among, count_among, regions_concern}
use Rattle.cache_flush.specs.Shuts.{is_live}

-- a region that covers a cell of a header concerns the header
covering_concerns : (header : Header) (cell : Cell) → header_covers header cell ≡ true → (region : Region) → region_covers region cell ≡ true → region_concerns region header ≡ true
covering_concerns header cell covers region h =
    let own = (and_parts ((header.cube == cell.cube) && (header.measure == cell.measure)) _ covers).0 in
    let same : ((header.cube == cell.cube) ≡ true) × ((header.measure == cell.measure) ≡ true) = and_parts (header.cube == cell.cube) (header.measure == cell.measure) own in
    regions_concern region header
    ∙ regions_reach_up region (record { cube = header.cube; measure = header.measure; at = [] }) cell
    (record { cube = eqb-true header.cube cell.cube same.0; measure = eqb-true header.measure cell.measure same.1; pairs = λ pair none. absurd (nothing pair none) }) h
  where
    nothing : (pair : ℕ × ℕ) → Contains [] pair → ⊥
    nothing pair (k, inside, here) = omega arith

-- a region that touches a header concerns it
touching_concerns : (header : Header) (region : Region) → region_touches region header ≡ true → region_concerns region header ≡ true
touching_concerns header region h =
    let parts : ((region.cube == header.cube) ≡ true) × (list_any (λ box. box_touches box header) region.boxes ≡ true) = and_parts (region.cube == header.cube) (list_any (λ box. box_touches box header) region.boxes) h in
    and_from (region.cube == header.cube) (list_any (λ box. of_measure box.measures header.measure) region.boxes) parts.0
    (any_weaker (λ box. box_touches box header) (λ box. of_measure box.measures header.measure) (λ box b. (and_parts (of_measure box.measures header.measure) _ b).0) region.boxes parts.1)

-- a cell of a header is live under those that concern the header just where it is under all
pub live_concerning : (header : Header) (cell : Cell) (regions : List Region) → header_covers header cell ≡ true → is_live (concerning header regions) cell ≡ is_live regions cell
live_concerning header cell regions covers =
    ap not (sym (any_among (λ region. region_covers region cell) (λ region. region_concerns region header) (covering_concerns header cell covers) regions))

-- as many of those touch the header as of all
pub touching_concerning : (header : Header) (regions : List Region) → touching header (concerning header regions) ≡ touching header regions
touching_concerning header regions =
    sym (count_among (λ region. region_touches region header) (λ region. region_concerns region header) (touching_concerns header) regions)
