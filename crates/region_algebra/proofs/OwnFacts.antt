-- What a crossjoin and a union of regions have in common with their parts.
use Rattle.std.proofs.Common.{length, ◌&&◌, ◌||◌, ◌↔◌, nat_le, is_none, ◌≡◌, ◌∙◌, ◌⊎◌, inl, inr, ℕ, Bool, true, false, not, List, [], ◌∷◌, Option, None, Some, Ok, All, refl, sym, ap, subst, arith, find, flat_map, option_map}
use Rattle.std.specs.List.{list_all, list_any}
use Rattle.std.proofs.lemmas.Bool.{and_from, and_parts, le-leb, leb-true, not-false, or_left, or_right}
use Rattle.std.proofs.lemmas.List.Elements.{All-append, All-cons, All-head, All-nil, All-tail, All-weaker}
use Rattle.olap_meaning.specs.declared.regions.Region.{Region}
use Rattle.olap_meaning.specs.declared.regions.RegionBox.{RegionBox}
use Rattle.olap_meaning.specs.declared.regions.RegionDim.{RegionDim}
use Rattle.olap_meaning.specs.declared.tables.Catalog.{Catalog}
use Rattle.olap_meaning.specs.Legal.{is_box, is_measures}
use Rattle.olap_meaning.specs.Results.{unless}
use Rattle.olap_meaning.proofs.Lists.{none_found as find_none}
use Rattle.query_meaning.specs.declared.TheConstants.{BOX_LIMIT}
use Rattle.query_meaning.specs.declared.region_text.Joins.{Joins}
use Rattle.query_meaning.specs.declared.region_text.Joins.TheVariants as joins
use Rattle.query_meaning.specs.RegionMeaning.{Mismatch, all_crossed, all_dims, box_counts, common, crossjoin_meant, first_dims, has_dim, joined_meant, many_crossed, many_united, mismatch, same_dims, union_meant, whole_box}
use Rattle.region_algebra.specs.Regions.{IsBounded, IsBoundedOf}
use Rattle.region_algebra.proofs.BoolFacts.{all_flat_map}
use Rattle.region_algebra.proofs.BoxFacts.{NamesNone, HasOwnBoxes, all_crossed_own, crossed_few, crossed_measures, united_few}
use Rattle.region_algebra.proofs.DimFacts.{measures_shared}
use Rattle.region_algebra.proofs.FaultFacts.{unless_ok}

-- the region of a crossjoin, and of a union
abbrev pub crossjoin_of : ℕ → List Region → Region
crossjoin_of cube parts = record { cube = cube; dims = all_dims parts; boxes = all_crossed parts }

abbrev pub union_of : ℕ → List Region → Region
union_of cube parts = record { cube = cube; dims = first_dims parts; boxes = flat_map (λ part. part.boxes) parts }

-- what a crossjoin means says of its parts
pub crossjoin_parts : (cube : ℕ) (parts : List Region) (region : Region) → crossjoin_meant cube parts ≡ Ok region → (common parts ≡ None) × (many_crossed 1 (box_counts parts) ≡ None) × (crossjoin_of cube parts ≡ region)
crossjoin_parts cube parts region is =
    let one = unless_ok (common parts) (unless (many_crossed 1 (box_counts parts)) (Ok (crossjoin_of cube parts))) region is in
    let two = unless_ok (many_crossed 1 (box_counts parts)) (Ok (crossjoin_of cube parts)) region one.1 in
    let same : crossjoin_of cube parts ≡ region = cc two.1 in
    (one.0, two.0, same)

-- and a union
pub union_parts : (cube : ℕ) (parts : List Region) (region : Region) → union_meant cube parts ≡ Ok region → (mismatch parts ≡ None) × (many_united 0 (box_counts parts) ≡ None) × (union_of cube parts ≡ region)
union_parts cube parts region is =
    let one = unless_ok (mismatch parts) (unless (many_united 0 (box_counts parts)) (Ok (union_of cube parts))) region is in
    let two = unless_ok (many_united 0 (box_counts parts)) (Ok (union_of cube parts)) region one.1 in
    let same : union_of cube parts ≡ region = cc two.1 in
    (one.0, two.0, same)

-- a crossjoin of regions is one
crossjoin_core : (cube : ℕ) (parts : List Region) → All IsBounded parts → many_crossed 1 (box_counts parts) ≡ None → IsBounded (crossjoin_of cube parts)
crossjoin_core cube parts all few = record {
  limit = crossed_few parts (whole_box ∷ []) (omega arith) few;
  measures = crossed_measures parts (whole_box ∷ []) all (All-cons NamesNone whole_box [] refl (All-nil NamesNone));
}

pub crossjoin_region : (cube : ℕ) (parts : List Region) (region : Region) → All IsBounded parts → crossjoin_meant cube parts ≡ Ok region → IsBounded region
crossjoin_region cube parts region all is =
    let split = crossjoin_parts cube parts region is in
    subst IsBounded split.2 (crossjoin_core cube parts all split.1)

-- the same of its dimensions and boxes
pub crossjoin_made : (cube : ℕ) (parts : List Region) (dims : List RegionDim) (boxes : List RegionBox) → All IsBounded parts → many_crossed 1 (box_counts parts) ≡ None → dims ≡ all_dims parts → boxes ≡ all_crossed parts → IsBounded (record { cube = cube; dims = dims; boxes = boxes })
crossjoin_made cube parts dims boxes all few is_dims are_boxes =
    subst (λ (d : List RegionDim). IsBounded (record { cube = cube; dims = d; boxes = boxes })) (sym is_dims)
    (subst (λ (b : List RegionBox). IsBounded (record { cube = cube; dims = all_dims parts; boxes = b })) (sym are_boxes) (crossjoin_core cube parts all few))

none_found : (dims : List RegionDim) (o : Option Region) → option_map (λ (part : Region). Mismatch dims part.dims) o ≡ None → o ≡ None
none_found dims None none = refl
none_found dims (Some part) none = absurd (cc none)

-- the boxes of parts of which none has the measures among its dimensions name none
boxes_none : (parts : List Region) → All IsBounded parts → All (λ part. list_any is_measures part.dims ≡ false) parts → All NamesNone (flat_map (λ part. part.boxes) parts)
boxes_none [] all without = All-nil NamesNone
boxes_none (part ∷ parts) all without =
    All-append NamesNone part.boxes (flat_map (λ (p : Region). p.boxes) parts)
    (by (All-head IsBounded part parts all).measures)
    (boxes_none parts (All-tail IsBounded part parts all) (All-tail (λ p. list_any is_measures p.dims ≡ false) part parts without))
  where
    by : (list_any is_measures part.dims ≡ true) ⊎ All NamesNone part.boxes → All NamesNone part.boxes
    by (inl some) = let e : true ≡ false = sym some ∙ All-head (λ (p : Region). list_any is_measures p.dims ≡ false) part parts without in absurd (cc e)
    by (inr none) = none

-- a part of a union has the measures only where the first part has
without : (dims : List RegionDim) (part : Region) → list_any is_measures dims ≡ false → not (same_dims dims part.dims) ≡ false → list_any is_measures part.dims ≡ false
without dims part lacks same = by (list_any is_measures part.dims) refl
  where
    by : (b : Bool) → list_any is_measures part.dims ≡ b → list_any is_measures part.dims ≡ false
    by false is = is
    by true is =
        let all = (and_parts (list_all (has_dim part.dims) dims) (list_all (has_dim dims) part.dims) (not-false (same_dims dims part.dims) same)).1 in
        let e : true ≡ false = sym (measures_shared dims part.dims all is) ∙ lacks in absurd (cc e)

-- a union of regions is one
union_core : (cube : ℕ) (parts : List Region) → All IsBounded parts → mismatch parts ≡ None → many_united 0 (box_counts parts) ≡ None → IsBounded (union_of cube parts)
union_core cube parts all matched few =
    let same = find_none (λ (part : Region). not (same_dims (first_dims parts) part.dims)) parts (none_found (first_dims parts) (find (λ (part : Region). not (same_dims (first_dims parts) part.dims)) parts) matched) in
    record {
      limit = omega (arith, united_few parts 0 (omega arith) few);
      measures = by same (list_any is_measures (first_dims parts)) refl;
    }
  where
    by : All (λ (part : Region). not (same_dims (first_dims parts) part.dims) ≡ false) parts → (b : Bool) → list_any is_measures (first_dims parts) ≡ b
        → (list_any is_measures (first_dims parts) ≡ true) ⊎ All NamesNone (flat_map (λ (part : Region). part.boxes) parts)
    by same true has = inl has
    by same false lacks = inr (boxes_none parts all (All-weaker (λ (part : Region). not (same_dims (first_dims parts) part.dims) ≡ false) (λ part. list_any is_measures part.dims ≡ false) (λ part. without (first_dims parts) part lacks) parts same))

pub union_region : (cube : ℕ) (parts : List Region) (region : Region) → All IsBounded parts → union_meant cube parts ≡ Ok region → IsBounded region
union_region cube parts region all is =
    let split = union_parts cube parts region is in
    subst IsBounded split.2 (union_core cube parts all split.0 split.1)

-- the same of its dimensions and boxes
pub union_made : (cube : ℕ) (parts : List Region) (dims : List RegionDim) (boxes : List RegionBox) → All IsBounded parts → mismatch parts ≡ None → many_united 0 (box_counts parts) ≡ None → dims ≡ first_dims parts → boxes ≡ flat_map (λ part. part.boxes) parts → IsBounded (record { cube = cube; dims = dims; boxes = boxes })
union_made cube parts dims boxes all matched few is_dims are_boxes =
    subst (λ (d : List RegionDim). IsBounded (record { cube = cube; dims = d; boxes = boxes })) (sym is_dims)
    (subst (λ (b : List RegionBox). IsBounded (record { cube = cube; dims = first_dims parts; boxes = b })) (sym are_boxes) (union_core cube parts all matched few))

-- what joins regions of a cube is one of it
pub joined_own : (catalog : Catalog) (cube : ℕ) (how : Joins) (parts : List Region) (region : Region) → All (IsBoundedOf catalog cube) parts → joined_meant how cube parts ≡ Ok region → IsBoundedOf catalog cube region
joined_own catalog cube joins.Crossjoin parts region all is = record {
  of_cube = sym (ap (λ (r : Region). r.cube) (crossjoin_parts cube parts region is).2);
  bounded = crossjoin_region cube parts region (All-weaker (IsBoundedOf catalog cube) IsBounded (λ part own. own.bounded) parts all) is;
  boxes =
      sym (ap (λ (r : Region). list_all (is_box catalog) r.boxes) (crossjoin_parts cube parts region is).2)
      ∙ all_crossed_own catalog parts (whole_box ∷ []) (All-weaker (IsBoundedOf catalog cube) (HasOwnBoxes catalog) (λ part own. own.boxes) parts all) refl;
}
joined_own catalog cube joins.Union parts region all is = record {
  of_cube = sym (ap (λ (r : Region). r.cube) (union_parts cube parts region is).2);
  bounded = union_region cube parts region (All-weaker (IsBoundedOf catalog cube) IsBounded (λ part own. own.bounded) parts all) is;
  boxes =
      sym (ap (λ (r : Region). list_all (is_box catalog) r.boxes) (union_parts cube parts region is).2)
      ∙ all_flat_map (is_box catalog) (λ (part : Region). part.boxes) parts (All-weaker (IsBoundedOf catalog cube) (HasOwnBoxes catalog) (λ part own. own.boxes) parts all);
}

all_none : (boxes : List RegionBox) → list_all (λ box. is_none box.measures) boxes ≡ true → All NamesNone boxes
all_none [] all = All-nil NamesNone
all_none (box ∷ boxes) all =
    let parts = and_parts (is_none box.measures) (list_all (λ b. is_none b.measures) boxes) all in
    All-cons NamesNone box boxes (by box.measures parts.0) (all_none boxes parts.1)
  where
    by : (o : Option (List ℕ)) → is_none o ≡ true → o ≡ None
    by None is = refl
    by (Some measures) is = absurd (cc is)

none_all : (boxes : List RegionBox) → All NamesNone boxes → list_all (λ box. is_none box.measures) boxes ≡ true
none_all [] all = refl
none_all (box ∷ boxes) all = and_from _ _ (ap is_none (All-head NamesNone box boxes all)) (none_all boxes (All-tail NamesNone box boxes all))

-- the test of what bounded regions are
pub bounded_test : (region : Region) (result : Bool) → result ≡ (nat_le (length region.boxes) BOX_LIMIT && (list_any is_measures region.dims || list_all (λ box. is_none box.measures) region.boxes)) → (result ≡ true) ↔ IsBounded region
bounded_test region result is = (to, from)
  where
    either : (b : Bool) → list_any is_measures region.dims ≡ b → (b || list_all (λ box. is_none box.measures) region.boxes) ≡ true → (list_any is_measures region.dims ≡ true) ⊎ All NamesNone region.boxes
    either true has named = inl has
    either false lacks named = inr (all_none region.boxes named)

    to : result ≡ true → IsBounded region
    to holds =
        let parts = and_parts (nat_le (length region.boxes) BOX_LIMIT) (list_any is_measures region.dims || list_all (λ box. is_none box.measures) region.boxes) (sym is ∙ holds) in
        record { limit = leb-true (length region.boxes) BOX_LIMIT parts.0; measures = either (list_any is_measures region.dims) refl parts.1 }

    named : (list_any is_measures region.dims ≡ true) ⊎ All NamesNone region.boxes → (list_any is_measures region.dims || list_all (λ box. is_none box.measures) region.boxes) ≡ true
    named (inl has) = or_left (list_any is_measures region.dims) (list_all (λ box. is_none box.measures) region.boxes) has
    named (inr none) = or_right (list_any is_measures region.dims) (list_all (λ box. is_none box.measures) region.boxes) (none_all region.boxes none)

    from : IsBounded region → result ≡ true
    from bounded = is ∙ and_from _ _ (le-leb (length region.boxes) BOX_LIMIT bounded.limit) (named bounded.measures)
