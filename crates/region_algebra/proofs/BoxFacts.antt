-- Boxes put together: how many there are, which measures they name, and whose columns and values.
use Rattle.std.proofs.Common.{◌≡◌, ◌∙◌, ◌+◌, ◌*◌, ◌<◌, ◌≤◌, ◌++◌, ◌⊎◌, inl, inr, ℕ, suc, Bool, true, false, ◌&&◌, ◌||◌, List, [], ◌∷◌, None, All, refl, sym, ap, subst, arith, flat_map, get_or, length, map, nat_le, nat_lt, take, if◌then◌else◌}
use Rattle.std.specs.List.{fold, list_all, list_any}
use Rattle.std.specs.Option.{option_or}
use Rattle.std.proofs.lemmas.Bool.{and_from, and_parts, leb-false, leb-true, or_left, or_right}
use Rattle.std.proofs.lemmas.Grind.{flat_map-append}
use Rattle.std.proofs.lemmas.List.{append-nil, length-append, length-map, map-append, take_more}
use Rattle.std.proofs.lemmas.List.Elements.{All-append, All-head, All-map, All-nil, All-tail, All-weaker}
use Rattle.std.proofs.lemmas.List.Folds.{list_all-append, list_any-append}
use Rattle.std.proofs.lemmas.List.Sums.{fold-append}
use Rattle.olap_meaning.specs.declared.regions.Region.{Region}
use Rattle.olap_meaning.specs.declared.regions.RegionBox.{RegionBox}
use Rattle.olap_meaning.specs.declared.tables.Catalog.{Catalog}
use Rattle.olap_meaning.specs.Legal.{is_box, is_measures, is_value}
use Rattle.query_meaning.specs.declared.TheConstants.{BOX_LIMIT}
use Rattle.query_meaning.specs.RegionMeaning.{all_crossed, all_dims, box_counts, crossed_boxes, many_crossed, many_united, together, too_many_boxes, whole_box}
use Rattle.region_algebra.specs.Regions.{IsBounded}
use Rattle.region_algebra.proofs.Counts.{many}

-- the boxes of one more
pub crossed_more : (firsts seconds : List RegionBox) (i : ℕ) (first : RegionBox) → i < length firsts → first ≡ get_or firsts i first → crossed_boxes (take (i + 1) firsts) seconds ≡ crossed_boxes (take i firsts) seconds ++ map (together first) seconds
crossed_more firsts seconds i first within is =
    ap (λ fs. crossed_boxes fs seconds) (take_more firsts i first within ∙ ap (λ f. take i firsts ++ f ∷ []) (sym is))
    ∙ flat_map-append (λ (f : RegionBox). map (together f) seconds) (take i firsts) (first ∷ [])
    ∙ ap (λ bs. crossed_boxes (take i firsts) seconds ++ bs) (append-nil (map (together first) seconds))

-- the boxes of one more part
pub all_crossed_more : (parts : List Region) (part : Region) → all_crossed (parts ++ part ∷ []) ≡ crossed_boxes (all_crossed parts) part.boxes
all_crossed_more parts part =
    ap (fold crossed_boxes (whole_box ∷ [])) (map-append (λ (p : Region). p.boxes) parts (part ∷ []))
    ∙ fold-append crossed_boxes (whole_box ∷ []) (map (λ (p : Region). p.boxes) parts) (part.boxes ∷ [])

-- the boxes of one box with others
pub one_first : (firsts seconds : List RegionBox) (first : RegionBox) → length firsts ≡ 1 → first ≡ get_or firsts 0 first → crossed_boxes firsts seconds ≡ map (together first) seconds
one_first [] seconds first one is = absurd (omega (arith, one))
one_first (a ∷ []) seconds first one is = append-nil (map (together a) seconds) ∙ ap (λ f. map (together f) seconds) (sym is)
one_first (a ∷ b ∷ firsts) seconds first one is = absurd (omega (arith, one))

-- the boxes of some with one box
pub one_second : (firsts seconds : List RegionBox) (second : RegionBox) → length seconds ≡ 1 → second ≡ get_or seconds 0 second → crossed_boxes firsts seconds ≡ map (λ first. together first second) firsts
one_second firsts [] second one is = absurd (omega (arith, one))
one_second firsts (a ∷ []) second one is = each firsts ∙ ap (λ s. map (λ first. together first s) firsts) (sym is)
  where
    each : (fs : List RegionBox) → crossed_boxes fs (a ∷ []) ≡ map (λ first. together first a) fs
    each [] = refl
    each (f ∷ fs) = ap (λ bs. together f a ∷ bs) (each fs)
one_second firsts (a ∷ b ∷ seconds) second one is = absurd (omega (arith, one))

-- as many boxes as the product
length_crossed : (firsts seconds : List RegionBox) → length (crossed_boxes firsts seconds) ≡ length firsts * length seconds
length_crossed [] seconds = omega arith
length_crossed (first ∷ firsts) seconds =
    length-append (map (together first) seconds) (crossed_boxes firsts seconds)
    ∙ ap (λ n. n + length (crossed_boxes firsts seconds)) (length-map seconds (together first))
    ∙ ap (λ n. length seconds + n) (length_crossed firsts seconds)
    ∙ grow (length firsts) (length seconds)
  where
    grow : (n m : ℕ) → m + n * m ≡ suc n * m
    grow n m = omega arith

abbrev boxes_in : List Region → List (List RegionBox)
boxes_in parts = map (λ part. part.boxes) parts

none_many : (n : ℕ) → BOX_LIMIT < n → too_many_boxes n ≡ None → ⊥
none_many n over none = let e = sym (many n over) ∙ none in cc e

-- a crossjoin has not too many boxes where no product is too many
pub crossed_few : (parts : List Region) (boxes : List RegionBox) → length boxes ≤ BOX_LIMIT → many_crossed (length boxes) (box_counts parts) ≡ None → length (fold crossed_boxes boxes (boxes_in parts)) ≤ BOX_LIMIT
crossed_few [] boxes few none = few
crossed_few (part ∷ parts) boxes few none = by (crossed_few parts (crossed_boxes boxes part.boxes)) (nat_le (length boxes * length part.boxes) BOX_LIMIT) refl none
  where
    by : (length (crossed_boxes boxes part.boxes) ≤ BOX_LIMIT → many_crossed (length (crossed_boxes boxes part.boxes)) (box_counts parts) ≡ None → length (fold crossed_boxes (crossed_boxes boxes part.boxes) (boxes_in parts)) ≤ BOX_LIMIT)
        → (b : Bool) → nat_le (length boxes * length part.boxes) BOX_LIMIT ≡ b
        → (if b then many_crossed (length boxes * length part.boxes) (box_counts parts) else too_many_boxes (length boxes * length part.boxes)) ≡ None
        → length (fold crossed_boxes (crossed_boxes boxes part.boxes) (boxes_in parts)) ≤ BOX_LIMIT
    by rest true is later =
        rest (subst (λ n. n ≤ BOX_LIMIT) (sym (length_crossed boxes part.boxes)) (leb-true _ _ is))
        (ap (λ n. many_crossed n (box_counts parts)) (length_crossed boxes part.boxes) ∙ later)
    by rest false is past = absurd (none_many (length boxes * length part.boxes) (leb-false _ _ is) past)

-- the same of a union and sums
pub united_few : (parts : List Region) (sum : ℕ) → sum ≤ BOX_LIMIT → many_united sum (box_counts parts) ≡ None → sum + length (flat_map (λ part. part.boxes) parts) ≤ BOX_LIMIT
united_few [] sum few none = omega arith
united_few (part ∷ parts) sum few none = by (united_few parts (sum + length part.boxes)) (nat_le (sum + length part.boxes) BOX_LIMIT) refl none
  where
    by : (sum + length part.boxes ≤ BOX_LIMIT → many_united (sum + length part.boxes) (box_counts parts) ≡ None → (sum + length part.boxes) + length (flat_map (λ (p : Region). p.boxes) parts) ≤ BOX_LIMIT)
        → (b : Bool) → nat_le (sum + length part.boxes) BOX_LIMIT ≡ b
        → (if b then many_united (sum + length part.boxes) (box_counts parts) else too_many_boxes (sum + length part.boxes)) ≡ None
        → sum + length (part.boxes ++ flat_map (λ (p : Region). p.boxes) parts) ≤ BOX_LIMIT
    by rest true is later = omega (arith, length-append part.boxes (flat_map (λ (p : Region). p.boxes) parts), rest (leb-true _ _ is) later)
    by rest false is past = absurd (none_many (sum + length part.boxes) (leb-false _ _ is) past)

-- a box names no measures
abbrev pub NamesNone : RegionBox → Type 0
NamesNone box = box.measures ≡ None

-- boxes that name no measures name none together
pub crossed_none : (firsts seconds : List RegionBox) → All NamesNone firsts → All NamesNone seconds → All NamesNone (crossed_boxes firsts seconds)
crossed_none [] seconds one other = All-nil NamesNone
crossed_none (first ∷ firsts) seconds one other =
    let head : first.measures ≡ None = All-head NamesNone first firsts one in
    All-append NamesNone (map (together first) seconds) (crossed_boxes firsts seconds)
    (All-map NamesNone (together first) seconds (All-weaker NamesNone (λ second. NamesNone (together first second)) (λ second is. ap (λ o. option_or o second.measures) head ∙ is) seconds other))
    (crossed_none firsts seconds (All-tail NamesNone first firsts one) other)

-- a crossjoin names measures only where some part has them among its dimensions
pub crossed_measures : (parts : List Region) (boxes : List RegionBox) → All IsBounded parts → All NamesNone boxes → (list_any is_measures (all_dims parts) ≡ true) ⊎ All NamesNone (fold crossed_boxes boxes (boxes_in parts))
crossed_measures [] boxes all none = inr none
crossed_measures (part ∷ parts) boxes all none = by (λ more. crossed_measures parts (crossed_boxes boxes part.boxes) (All-tail IsBounded part parts all) (crossed_none boxes part.boxes none more)) (All-head IsBounded part parts all).measures
  where
    split : list_any is_measures (part.dims ++ all_dims parts) ≡ (list_any is_measures part.dims || list_any is_measures (all_dims parts))
    split = list_any-append is_measures part.dims (all_dims parts)

    later : (list_any is_measures (all_dims parts) ≡ true) ⊎ All NamesNone (fold crossed_boxes (crossed_boxes boxes part.boxes) (boxes_in parts)) → (list_any is_measures (part.dims ++ all_dims parts) ≡ true) ⊎ All NamesNone (fold crossed_boxes (crossed_boxes boxes part.boxes) (boxes_in parts))
    later (inl some) = inl (split ∙ or_right (list_any is_measures part.dims) (list_any is_measures (all_dims parts)) some)
    later (inr more) = inr more

    by : (All NamesNone part.boxes → (list_any is_measures (all_dims parts) ≡ true) ⊎ All NamesNone (fold crossed_boxes (crossed_boxes boxes part.boxes) (boxes_in parts)))
        → (list_any is_measures part.dims ≡ true) ⊎ All NamesNone part.boxes
        → (list_any is_measures (part.dims ++ all_dims parts) ≡ true) ⊎ All NamesNone (fold crossed_boxes (crossed_boxes boxes part.boxes) (boxes_in parts))
    by rest (inl some) = inl (split ∙ or_left (list_any is_measures part.dims) (list_any is_measures (all_dims parts)) some)
    by rest (inr more) = later (rest more)

module _ (catalog : Catalog) where
  together_box : (first second : RegionBox) → is_box catalog first ≡ true → is_box catalog second ≡ true → is_box catalog (together first second) ≡ true
  together_box first second one other =
      list_all-append (λ column. nat_lt column.0 (length catalog.columns) && list_all (is_value catalog column.0) column.1) first.columns second.columns
      ∙ and_from _ _ one other

  each_together : (first : RegionBox) (seconds : List RegionBox) → is_box catalog first ≡ true → list_all (is_box catalog) seconds ≡ true → list_all (is_box catalog) (map (together first) seconds) ≡ true
  each_together first [] one others = refl
  each_together first (second ∷ seconds) one others =
      let parts = and_parts (is_box catalog second) (list_all (is_box catalog) seconds) others in
      and_from _ _ (together_box first second one parts.0) (each_together first seconds one parts.1)

  crossed_own : (firsts seconds : List RegionBox) → list_all (is_box catalog) firsts ≡ true → list_all (is_box catalog) seconds ≡ true → list_all (is_box catalog) (crossed_boxes firsts seconds) ≡ true
  crossed_own [] seconds one other = refl
  crossed_own (first ∷ firsts) seconds one other =
      let parts = and_parts (is_box catalog first) (list_all (is_box catalog) firsts) one in
      list_all-append (is_box catalog) (map (together first) seconds) (crossed_boxes firsts seconds)
      ∙ and_from _ _ (each_together first seconds parts.0 other) (crossed_own firsts seconds parts.1 other)

  -- a region's boxes are the catalog's
  abbrev pub HasOwnBoxes : Region → Type 0
  HasOwnBoxes part = list_all (is_box catalog) part.boxes ≡ true

  -- the boxes of a crossjoin are the catalog's where those of its parts are
  pub all_crossed_own : (parts : List Region) (boxes : List RegionBox) → All HasOwnBoxes parts → list_all (is_box catalog) boxes ≡ true → list_all (is_box catalog) (fold crossed_boxes boxes (boxes_in parts)) ≡ true
  all_crossed_own [] boxes all own = own
  all_crossed_own (part ∷ parts) boxes all own = all_crossed_own parts (crossed_boxes boxes part.boxes) (All-tail HasOwnBoxes part parts all) (crossed_own boxes part.boxes own (All-head HasOwnBoxes part parts all))
