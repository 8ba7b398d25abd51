-- Which cells ranges, crossjoins and unions cover.
use Rattle.std.proofs.Common.{◌≡◌, ◌∙◌, ◌<◌, ◌++◌, ◌⊎◌, inl, inr, ℕ, Bool, true, false, ◌&&◌, ◌||◌, ◌==◌, not, List, [], ◌∷◌, Option, None, Some, Ok, All, refl, sym, ap, arith, length, map, option_map}
use Rattle.std.proofs.Math.Bool.{and-false, or-false}
use Rattle.std.specs.List.{fold, list_all, list_any}
use Rattle.std.specs.Option.{option_or}
use Rattle.std.proofs.lemmas.List.Elements.{All-cons, All-head, All-nil, All-tail, All-weaker}
use Rattle.std.proofs.lemmas.List.Folds.{list_all-append, list_any-append}
use Rattle.std.proofs.lemmas.Bool.{or_left, or_right}
use Rattle.olap_meaning.specs.declared.cells.Cell.{Cell}
use Rattle.olap_meaning.specs.declared.cells.Member.{Member}
use Rattle.olap_meaning.specs.declared.regions.Region.{Region}
use Rattle.olap_meaning.specs.declared.regions.RegionBox.{RegionBox}
use Rattle.olap_meaning.specs.declared.regions.RegionDim.{RegionDim}
use Rattle.olap_meaning.specs.declared.tables.Catalog.{Catalog}
use Rattle.olap_meaning.specs.Covering.{among, box_covers, of_measure, region_covers}
use Rattle.olap_meaning.specs.Legal.{is_measures}
use Rattle.olap_meaning.specs.Results.{unless}
use Rattle.olap_meaning.proofs.Lists.{any_map, or_first}
use Rattle.query_meaning.specs.RegionMeaning.{CommonDimension, all_dims, crossed_boxes, crossjoin_meant, dim_again, dim_of, member_box, member_region, members_from, members_region, range_meant, together, too_many_boxes, two_levels, union_meant, whole_box}
use Rattle.region_algebra.specs.Regions.{IsBounded}
use Rattle.region_algebra.proofs.BoolFacts.{all_agree, and_or, and_swap, any_agree, any_flat_map, everywhere, or_and, spread_all, spread_any, true_all}
use Rattle.region_algebra.proofs.BoxFacts.{NamesNone, crossed_none}
use Rattle.region_algebra.proofs.DimFacts.{goes_on, no_measures}
use Rattle.region_algebra.proofs.FaultFacts.{unless_ok}
use Rattle.region_algebra.proofs.OwnFacts.{crossjoin_parts, union_parts}

module _ (cell : Cell) where
  -- one of some boxes covers the cell
  abbrev some_covers : List RegionBox → Bool
  some_covers boxes = list_any (λ box. box_covers box cell) boxes

  -- some columns have the value of a pair in each column that they share with it
  abbrev agrees : List (ℕ × List ℕ) → ℕ × ℕ → Bool
  agrees columns pair = list_all (λ column. not (column.0 == pair.0) || among column.1 pair.1) columns

  columns_split : (firsts seconds : List (ℕ × List ℕ)) (at : List (ℕ × ℕ)) → list_all (agrees (firsts ++ seconds)) at ≡ (list_all (agrees firsts) at && list_all (agrees seconds) at)
  columns_split firsts seconds [] = refl
  columns_split firsts seconds (pair ∷ at) =
      ap (λ b. b && list_all (agrees (firsts ++ seconds)) at) (list_all-append (λ column. not (column.0 == pair.0) || among column.1 pair.1) firsts seconds)
      ∙ ap (λ b. (agrees firsts pair && agrees seconds pair) && b) (columns_split firsts seconds at)
      ∙ and_swap (agrees firsts pair) (agrees seconds pair) (list_all (agrees firsts) at) (list_all (agrees seconds) at)

  measures_split : (first second : Option (List ℕ)) → (first ≡ None) ⊎ (second ≡ None) → of_measure (option_or first second) cell.measure ≡ (of_measure first cell.measure && of_measure second cell.measure)
  measures_split None second free = refl
  measures_split (Some measures) None free = true_after (among measures cell.measure)
    where
      true_after : (b : Bool) → b ≡ (b && true)
      true_after true = refl
      true_after false = refl
  measures_split (Some measures) (Some others) (inl free) = absurd (cc free)
  measures_split (Some measures) (Some others) (inr free) = absurd (cc free)

  -- two boxes together cover the cell where both do, if one of them names no measures
  together_covers : (first second : RegionBox) → NamesNone first ⊎ NamesNone second → box_covers (together first second) cell ≡ (box_covers first cell && box_covers second cell)
  together_covers first second free =
      ap (λ b. b && list_all (agrees (first.columns ++ second.columns)) cell.at) (measures_split first.measures second.measures free)
      ∙ ap (λ b. (of_measure first.measures cell.measure && of_measure second.measures cell.measure) && b) (columns_split first.columns second.columns cell.at)
      ∙ and_swap (of_measure first.measures cell.measure) (of_measure second.measures cell.measure) (list_all (agrees first.columns) cell.at) (list_all (agrees second.columns) cell.at)

  row_covers : (first : RegionBox) (seconds : List RegionBox) → NamesNone first ⊎ All NamesNone seconds → some_covers (map (together first) seconds) ≡ (box_covers first cell && some_covers seconds)
  row_covers first [] free = sym (and-false (box_covers first cell))
  row_covers first (second ∷ seconds) free =
      ap (λ b. b || some_covers (map (together first) seconds)) (together_covers first second (head free))
      ∙ ap (λ b. (box_covers first cell && box_covers second cell) || b) (row_covers first seconds (tail free))
      ∙ and_or (box_covers first cell) (box_covers second cell) (some_covers seconds)
    where
      head : NamesNone first ⊎ All NamesNone (second ∷ seconds) → NamesNone first ⊎ NamesNone second
      head (inl one) = inl one
      head (inr others) = inr (All-head NamesNone second seconds others)

      tail : NamesNone first ⊎ All NamesNone (second ∷ seconds) → NamesNone first ⊎ All NamesNone seconds
      tail (inl one) = inl one
      tail (inr others) = inr (All-tail NamesNone second seconds others)

  -- boxes put together cover the cell where some of both do
  crossed_covers : (firsts seconds : List RegionBox) → All NamesNone firsts ⊎ All NamesNone seconds → some_covers (crossed_boxes firsts seconds) ≡ (some_covers firsts && some_covers seconds)
  crossed_covers [] seconds free = refl
  crossed_covers (first ∷ firsts) seconds free =
      list_any-append (λ box. box_covers box cell) (map (together first) seconds) (crossed_boxes firsts seconds)
      ∙ ap (λ b. b || some_covers (crossed_boxes firsts seconds)) (row_covers first seconds (head free))
      ∙ ap (λ b. (box_covers first cell && some_covers seconds) || b) (crossed_covers firsts seconds (tail free))
      ∙ or_and (box_covers first cell) (some_covers firsts) (some_covers seconds)
    where
      head : All NamesNone (first ∷ firsts) ⊎ All NamesNone seconds → NamesNone first ⊎ All NamesNone seconds
      head (inl ones) = inl (All-head NamesNone first firsts ones)
      head (inr others) = inr others

      tail : All NamesNone (first ∷ firsts) ⊎ All NamesNone seconds → All NamesNone firsts ⊎ All NamesNone seconds
      tail (inl ones) = inl (All-tail NamesNone first firsts ones)
      tail (inr others) = inr others

  and_assoc : (a b c : Bool) → ((a && b) && c) ≡ (a && (b && c))
  and_assoc true b c = refl
  and_assoc false b c = refl

  -- some boxes, and then the parts of a crossjoin in turn
  fold_covers : (parts : List Region) (before : List RegionDim) (boxes : List RegionBox) → dim_again before (all_dims parts) ≡ None → All NamesNone boxes ⊎ (list_any is_measures before ≡ true) → All IsBounded parts
      → some_covers (fold crossed_boxes boxes (map (λ part. part.boxes) parts)) ≡ (some_covers boxes && list_all (λ part. some_covers part.boxes) parts)
  fold_covers [] before boxes once free all = true_after (some_covers boxes)
    where
      true_after : (b : Bool) → b ≡ (b && true)
      true_after true = refl
      true_after false = refl
  fold_covers (part ∷ parts) before boxes once free all =
      fold_covers parts after.0 (crossed_boxes boxes part.boxes) after.1 (next free (All-head IsBounded part parts all).measures) (All-tail IsBounded part parts all)
      ∙ ap (λ b. b && list_all (λ (p : Region). some_covers p.boxes) parts) (crossed_covers boxes part.boxes (apart free (All-head IsBounded part parts all).measures))
      ∙ and_assoc (some_covers boxes) (some_covers part.boxes) (list_all (λ (p : Region). some_covers p.boxes) parts)
    where
      after : (dims : List RegionDim) × (dim_again dims (all_dims parts) ≡ None) × (list_any is_measures dims ≡ (list_any is_measures part.dims || list_any is_measures before))
      after = goes_on before part.dims (all_dims parts) once

      -- the part names no measures where those before have them
      lone : list_any is_measures before ≡ true → list_any is_measures part.dims ≡ true → ⊥
      lone some own =
          let none : list_any is_measures part.dims ≡ false = or_first (list_any is_measures part.dims) (list_any is_measures (all_dims parts)) (sym (list_any-append is_measures part.dims (all_dims parts)) ∙ no_measures before (part.dims ++ all_dims parts) once some) in
          let e : true ≡ false = sym own ∙ none in cc e

      apart : All NamesNone boxes ⊎ (list_any is_measures before ≡ true) → (list_any is_measures part.dims ≡ true) ⊎ All NamesNone part.boxes → All NamesNone boxes ⊎ All NamesNone part.boxes
      apart (inl none) own = inl none
      apart (inr some) (inl own) = absurd (lone some own)
      apart (inr some) (inr none) = inr none

      next : All NamesNone boxes ⊎ (list_any is_measures before ≡ true) → (list_any is_measures part.dims ≡ true) ⊎ All NamesNone part.boxes → All NamesNone (crossed_boxes boxes part.boxes) ⊎ (list_any is_measures after.0 ≡ true)
      next (inl none) (inl own) = inr (after.2 ∙ or_left (list_any is_measures part.dims) (list_any is_measures before) own)
      next (inl none) (inr more) = inl (crossed_none boxes part.boxes none more)
      next (inr some) own = inr (after.2 ∙ or_right (list_any is_measures part.dims) (list_any is_measures before) some)

  whole_covers : some_covers (whole_box ∷ []) ≡ true
  whole_covers = or-false (box_covers whole_box cell) ∙ true_all cell.at

  none_common : (o : Option RegionDim) → option_map CommonDimension o ≡ None → o ≡ None
  none_common None none = refl
  none_common (Some one) none = absurd (cc none)

  -- one cube, and a test of each part
  in_cube : (cube : ℕ) (part : Region) → part.cube ≡ cube → ((cube == cell.cube) && some_covers part.boxes) ≡ region_covers part cell
  in_cube cube part is = ap (λ n. (n == cell.cube) && some_covers part.boxes) (sym is)

  -- a crossjoin
  pub crossjoin_covers : (cube : ℕ) (parts : List Region) (region : Region) → 0 < length parts → All (λ part. part.cube ≡ cube) parts → All IsBounded parts → crossjoin_meant cube parts ≡ Ok region
      → region_covers region cell ≡ list_all (λ part. region_covers part cell) parts
  crossjoin_covers cube [] region some of_cube all is = absurd (omega (arith, some))
  crossjoin_covers cube (part ∷ parts) region some of_cube all is =
      let split = crossjoin_parts cube (part ∷ parts) region is in
      sym (ap (λ (r : Region). region_covers r cell) split.2)
      ∙ ap (λ b. (cube == cell.cube) && b)
      (fold_covers (part ∷ parts) [] (whole_box ∷ []) (none_common (dim_again [] (all_dims (part ∷ parts))) split.0) (inl (All-cons NamesNone whole_box [] refl (All-nil NamesNone))) all
      ∙ ap (λ b. b && list_all (λ (p : Region). some_covers p.boxes) (part ∷ parts)) whole_covers)
      ∙ spread_all (cube == cell.cube) (λ (p : Region). some_covers p.boxes) part parts
      ∙ all_agree (λ (p : Region). (cube == cell.cube) && some_covers p.boxes) (λ p. region_covers p cell) (part ∷ parts) (All-weaker (λ (p : Region). p.cube ≡ cube) (λ p. ((cube == cell.cube) && some_covers p.boxes) ≡ region_covers p cell) (in_cube cube) (part ∷ parts) of_cube)

  -- a union
  pub union_covers : (cube : ℕ) (parts : List Region) (region : Region) → All (λ part. part.cube ≡ cube) parts → union_meant cube parts ≡ Ok region → region_covers region cell ≡ list_any (λ part. region_covers part cell) parts
  union_covers cube parts region of_cube is =
      let split = union_parts cube parts region is in
      sym (ap (λ (r : Region). region_covers r cell) split.2)
      ∙ ap (λ b. (cube == cell.cube) && b) (any_flat_map (λ box. box_covers box cell) (λ (p : Region). p.boxes) parts)
      ∙ spread_any (cube == cell.cube) (λ (p : Region). some_covers p.boxes) parts
      ∙ any_agree (λ (p : Region). (cube == cell.cube) && some_covers p.boxes) (λ p. region_covers p cell) parts (All-weaker (λ (p : Region). p.cube ≡ cube) (λ p. ((cube == cell.cube) && some_covers p.boxes) ≡ region_covers p cell) (in_cube cube) parts of_cube)

  -- a range
  pub range_covers : (catalog : Catalog) (cube : ℕ) (first last : Member) (region : Region) → range_meant catalog cube first last ≡ Ok region → region_covers region cell ≡ list_any (λ one. region_covers (member_region catalog cube one) cell) (members_from catalog cube first last)
  range_covers catalog cube first last region is =
      let members = members_from catalog cube first last in
      let one = unless_ok (two_levels first last) (unless (too_many_boxes (length members)) (Ok (members_region catalog cube (dim_of catalog first) members))) region is in
      let two = unless_ok (too_many_boxes (length members)) (Ok (members_region catalog cube (dim_of catalog first) members)) region one.1 in
      let same : members_region catalog cube (dim_of catalog first) members ≡ region = cc two.1 in
      sym (ap (λ (r : Region). region_covers r cell) same)
      ∙ ap (λ b. (cube == cell.cube) && b) (any_map (λ box. box_covers box cell) (member_box catalog) members)
      ∙ spread_any (cube == cell.cube) (λ m. box_covers (member_box catalog m) cell) members
      ∙ any_agree (λ m. (cube == cell.cube) && box_covers (member_box catalog m) cell) (λ m. region_covers (member_region catalog cube m) cell) members
      (everywhere (λ m. ((cube == cell.cube) && box_covers (member_box catalog m) cell) ≡ region_covers (member_region catalog cube m) cell) (λ m. ap (λ b. (cube == cell.cube) && b) (sym (or-false (box_covers (member_box catalog m) cell)))) members)
