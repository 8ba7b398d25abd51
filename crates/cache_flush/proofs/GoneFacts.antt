-- Flushed regions that span a header shut off each of its cells, and what that tells of a kept load.
use Rattle.std.proofs.Common.{◌≡◌, ◌∙◌, sym, ap, subst, refl, ◌<◌, ◌≤◌, ◌+◌, ◌==◌, ◌&&◌, ◌||◌, ℕ, zero, suc, Bool, true, false, not, List, [], ◌∷◌, Option, None, Some, inl, inr, arith, cond, fold, length, map, nat_le, nat_lt}
use Rattle.std.specs.Prelude.{Contains}
use Rattle.std.specs.List.{list_all, list_any, range_with_len}
use Rattle.std.proofs.lemmas.Bool.{and_from, and_left, and_parts, and_right, both_ways, cases_Bool, cases_lt, eq-eqb, eqb-true, leb-true, ltb-true, not-false, or_cases, or_left, or_right}
use Rattle.std.proofs.lemmas.List.Folds.{list_any-append}
use Rattle.olap_meaning.specs.declared.cells.Allowed.{Allowed}
use Rattle.olap_meaning.specs.declared.cells.Allowed.TheVariants.{Any, Set}
use Rattle.olap_meaning.specs.declared.cells.Cell.{Cell}
use Rattle.olap_meaning.specs.declared.cells.Header.{Header}
use Rattle.olap_meaning.specs.declared.regions.Region.{Region}
use Rattle.olap_meaning.specs.declared.regions.RegionBox.{RegionBox}
use Rattle.olap_meaning.specs.Covering.{allows, among, box_covers, columns_of, concerning, header_covers, names_column, of_measure, region_covers}
use Rattle.olap_meaning.specs.Legal.{rise}
use Rattle.olap_meaning.proofs.Lists.{all_weaker}
use Rattle.olap_meaning.proofs.Members.{all_member, any_member, first_or_rest, in_first, in_rest, map_member, member_all, member_any, none_in}
use Rattle.olap_meaning.proofs.Orders.{above_of, among_held}
use Rattle.olap_meaning.proofs.ReachUp.{any_weaker}
use Rattle.segment_header.specs.Headers.{is_header, is_set}
use Rattle.cache_flush.specs.Formed.{is_formed, values_of}
use Rattle.cache_flush.specs.Gone.{NoneIsLive, box_spans, column_holds, column_spans, has_all, holds_along, is_along, reached, records_span, region_names, region_spans, spans_after, spans_along}
use Rattle.cache_flush.specs.Loads.{IsGone, KeptOf, is_candidate, serves, shut_off}
use Rattle.cache_flush.specs.Records.{LedgerOf, is_after}
use Rattle.cache_flush.proofs.AnchorFacts.{any_positions}
use Rattle.cache_flush.specs.Shuts.{is_live}
use Rattle.cache_flush.specs.declared.gone.TheConstants.{FEW_VALUES}

-- ---- lists

module _ {X : Type 0} where
  later_above : (f : X → ℕ) (x : X) (xs : List X) (y : X) → list_all (nat_lt (f x)) (map f xs) ≡ true → Contains xs y → f x < f y
  later_above f x xs y above held =
      above_of (f x) (map f xs) (f y) above (any_member (λ v. v == f y) (map f xs) (f y) (map_member f xs y held) (eq-eqb (f y) (f y) refl))

  -- where their numbers rise, no two have the same number
  only_one : (f : X → ℕ) (xs : List X) (x y : X) → rise (map f xs) ≡ true → Contains xs x → Contains xs y → f x ≡ f y → x ≡ y
  only_one f [] x y up hx hy same = absurd (none_in x hx)
  only_one f (z ∷ zs) x y up hx hy same =
      let parts = and_parts (list_all (nat_lt (f z)) (map f zs)) (rise (map f zs)) up in
      elim (first_or_rest z zs x hx) [
        | inl here ↦
            elim (first_or_rest z zs y hy) [
              | inl there ↦ sym here ∙ there
              | inr later ↦
                  let less : f z < f y = later_above f z zs y parts.0 later in
                  let e : f z ≡ f x = ap f here in
                  absurd (omega (arith, less, e, same))
            ]
        | inr later ↦
            elim (first_or_rest z zs y hy) [
              | inl there ↦
                  let less : f z < f x = later_above f z zs x parts.0 later in
                  let e : f z ≡ f y = ap f there in
                  absurd (omega (arith, less, e, same))
              | inr also ↦ only_one f zs x y parts.1 later also same
            ]
      ]

-- ---- a box that spans a header covers its cells

-- a cell has the value to which a header is narrowed, where it names the column
abbrev IsWithin : Option (ℕ × ℕ) → Cell → Type 0
IsWithin None cell = Unit {0}
IsWithin (Some along) cell =
    (pair : ℕ × ℕ) → Contains cell.at pair → pair.0 ≡ along.0 → pair.1 ≡ along.1

-- the numbers from the first one up to where it comes stand among values
passed_over : (values : List ℕ) (first value : ℕ) → first ≤ value → value < fold (λ next value. cond (value == next) (suc next) next) first values → among values value ≡ true
passed_over [] first value from below = absurd (omega (arith, from, below))
passed_over (v ∷ vs) first value from below =
    elim (cases_Bool (v == first)) [
      | inl same ↦
          let is : v ≡ first = eqb-true v first same in
          elim (cases_Bool (v == value)) [
            | inl here ↦ or_left (v == value) (among vs value) here
            | inr other ↦
                or_right (v == value) (among vs value)
                (passed_over vs (suc first) value (above is other) (rw same at below))
          ]
      | inr other ↦ or_right (v == value) (among vs value) (passed_over vs first value from (rw other at below))
    ]
  where
    above : v ≡ first → (v == value) ≡ false → suc first ≤ value
    above is other =
        elim (cases_lt first value) [
          | inl less ↦ omega (arith, less)
          | inr most ↦ let same : v ≡ value = omega (arith, is, from, most) in absurd (both_ways (v == value) other (eq-eqb v value same))
        ]

-- values that have all that a column allows have each of its values that it allows
has_one : (size : ℕ) (values : List ℕ) (allowed : Allowed) (value : ℕ) → has_all size values allowed ≡ true → allows allowed value ≡ true → value < size → among values value ≡ true
has_one size values Any value has is below =
    let all : size ≤ reached values = leb-true size (reached values) has in
    passed_over values 0 value (omega arith) (omega (arith, below, all))
has_one size values (Set wanted) value has is below =
    all_member (among values) wanted value (and_parts (nat_le (length wanted) (length values)) (list_all (among values) wanted) has).1 (among_held wanted value is)

-- a number of a range is one of its numbers
in_range : (first count value : ℕ) → first ≤ value → value < first + count → Contains (range_with_len first count) value
in_range first zero value from below = absurd (omega (arith, from, below))
in_range first (suc count) value from below =
    elim (cases_lt first value) [
      | inl less ↦ in_rest first (range_with_len (first + 1) count) value (in_range (first + 1) count value (omega (arith, less)) (omega (arith, below)))
      | inr most ↦
          let same : first ≡ value = omega (arith, from, most) in
          subst (Contains (range_with_len first (suc count))) same (in_first first (range_with_len (first + 1) count))
    ]

-- a column's value that is allowed is one of the values that the column allows
allowed_there : (size : ℕ) (allowed : Allowed) (value : ℕ) → allows allowed value ≡ true → value < size → Contains (values_of size allowed) value
allowed_there size Any value is below = in_range 0 size value (omega arith) (omega (arith, below))
allowed_there size (Set values) value is below = among_held values value is

along_holds : (along : Option (ℕ × ℕ)) (cell : Cell) (columns : List (ℕ × List ℕ)) (pair : ℕ × ℕ) → IsWithin along cell → holds_along along columns ≡ true → Contains cell.at pair → is_along along pair.0 ≡ true
    → column_holds columns pair.0 pair.1 ≡ true
along_holds None cell columns pair within holds held is = absurd (cc)
along_holds (Some along) cell columns pair within holds held is =
    let column : along.0 ≡ pair.0 = eqb-true along.0 pair.0 is in
    let value : pair.1 ≡ along.1 = within pair held (sym column) in
    subst (λ (v : ℕ). column_holds columns pair.0 v ≡ true) (sym value) (subst (λ (c : ℕ). column_holds columns c along.1 ≡ true) column holds)

spans_hold : (size : ℕ) (columns : List (ℕ × List ℕ)) (own : ℕ × Allowed) (pair : ℕ × ℕ) → own.0 ≡ pair.0 → allows own.1 pair.1 ≡ true → pair.1 < size → column_spans size columns own.0 own.1 ≡ true → column_holds columns pair.0 pair.1 ≡ true
spans_hold size columns own pair same allowed below spans =
    subst (λ (c : ℕ). column_holds columns c pair.1 ≡ true) same
    (all_weaker (λ (column : ℕ × List ℕ). not (column.0 == own.0) || has_all size column.1 own.1) (λ (column : ℕ × List ℕ). not (column.0 == own.0) || among column.1 pair.1) columns (λ column h. one column h) spans)
  where
    one : (column : ℕ × List ℕ) → (not (column.0 == own.0) || has_all size column.1 own.1) ≡ true → (not (column.0 == own.0) || among column.1 pair.1) ≡ true
    one column h =
        elim (or_cases (not (column.0 == own.0)) (has_all size column.1 own.1) h) [
          | inl other ↦ or_left (not (column.0 == own.0)) (among column.1 pair.1) other
          | inr has ↦ or_right (not (column.0 == own.0)) (among column.1 pair.1) (has_one size column.1 own.1 pair.1 has allowed below)
        ]

-- the column of a header that covers a pair of a cell
covering_column : (header : Header) (cell : Cell) → header_covers header cell ≡ true → (pair : ℕ × ℕ) → Contains cell.at pair → (own : ℕ × Allowed) × Contains header.columns own × (own.0 ≡ pair.0) × (allows own.1 pair.1 ≡ true)
covering_column header cell covers pair held =
    let pairs : list_all (λ pair. list_any (λ column. (column.0 == pair.0) && allows column.1 pair.1) header.columns) cell.at ≡ true = (and_parts ((header.cube == cell.cube) && (header.measure == cell.measure)) _ covers).1 in
    let one = all_member (λ (pair : ℕ × ℕ). list_any (λ column. (column.0 == pair.0) && allows column.1 pair.1) header.columns) cell.at pair pairs held in
    let found = member_any (λ (column : ℕ × Allowed). (column.0 == pair.0) && allows column.1 pair.1) header.columns one in
    let parts = and_parts (found.0.0 == pair.0) (allows found.0.1 pair.1) found.2 in
    (found.0, found.1, eqb-true found.0.0 pair.0 parts.0, parts.1)

-- each value of a well-formed cell is one of its column's
value_below : (sizes : ℕ → ℕ) (cell : Cell) → is_formed sizes cell ≡ true → (pair : ℕ × ℕ) → Contains cell.at pair → pair.1 < sizes pair.0
value_below sizes cell formed pair held =
    let below = (and_parts (rise (columns_of cell)) (list_all (λ pair. nat_lt pair.1 (sizes pair.0)) cell.at) formed).1 in
    ltb-true pair.1 (sizes pair.0) (all_member (λ (pair : ℕ × ℕ). nat_lt pair.1 (sizes pair.0)) cell.at pair below held)

module _ (sizes : ℕ → ℕ) (header : Header) (cell : Cell) (formed : is_formed sizes cell ≡ true) (covers : header_covers header cell ≡ true) (along : Option (ℕ × ℕ)) (within : IsWithin along cell) where
  same : (header.cube ≡ cell.cube) × (header.measure ≡ cell.measure)
  same =
      let own = and_parts ((header.cube == cell.cube) && (header.measure == cell.measure)) _ covers in
      let parts = and_parts (header.cube == cell.cube) (header.measure == cell.measure) own.0 in
      (eqb-true header.cube cell.cube parts.0, eqb-true header.measure cell.measure parts.1)

  pair_held : (columns : List (ℕ × List ℕ)) → holds_along along columns ≡ true → list_all (λ own. is_along along own.0 || column_spans (sizes own.0) columns own.0 own.1) header.columns ≡ true
      → (pair : ℕ × ℕ) → Contains cell.at pair → column_holds columns pair.0 pair.1 ≡ true
  pair_held columns holds spans pair held =
      let (own, inside, named, allowed) = covering_column header cell covers pair held in
      let one = all_member (λ (own : ℕ × Allowed). is_along along own.0 || column_spans (sizes own.0) columns own.0 own.1) header.columns own spans inside in
      elim (or_cases (is_along along own.0) (column_spans (sizes own.0) columns own.0 own.1) one) [
        | inl narrowed ↦ along_holds along cell columns pair within holds held (subst (λ (c : ℕ). is_along along c ≡ true) named narrowed)
        | inr spanned ↦
            let below : pair.1 < sizes pair.0 = value_below sizes cell formed pair held in
            spans_hold (sizes own.0) columns own pair named allowed (subst (λ (c : ℕ). pair.1 < sizes c) (sym named) below) spanned
      ]

  box_shuts : (box : RegionBox) → box_spans sizes along header box ≡ true → box_covers box cell ≡ true
  box_shuts box spans =
      let parts = and_parts (of_measure box.measures header.measure && holds_along along box.columns) (list_all (λ own. is_along along own.0 || column_spans (sizes own.0) box.columns own.0 own.1) header.columns) spans in
      let first = and_parts (of_measure box.measures header.measure) (holds_along along box.columns) parts.0 in
      and_from (of_measure box.measures cell.measure) (list_all (λ pair. column_holds box.columns pair.0 pair.1) cell.at)
      (ap (of_measure box.measures) (sym same.1) ∙ first.0)
      (member_all (λ (pair : ℕ × ℕ). column_holds box.columns pair.0 pair.1) cell.at (pair_held box.columns first.1 parts.1))

  -- a region that spans a header covers its cells
  region_shuts : (region : Region) → region_spans sizes along header region ≡ true → region_covers region cell ≡ true
  region_shuts region spans =
      let parts = and_parts (region.cube == header.cube) (list_any (box_spans sizes along header) region.boxes) spans in
      and_from (region.cube == cell.cube) (list_any (λ box. box_covers box cell) region.boxes)
      (ap (λ (c : ℕ). region.cube == c) (sym same.0) ∙ parts.0)
      (any_weaker (box_spans sizes along header) (λ box. box_covers box cell) box_shuts region.boxes parts.1)

  -- where one of some regions spans a header, its cells are not live under them
  none_live : (regions : List Region) → list_any (region_spans sizes along header) regions ≡ true → is_live regions cell ≡ false
  none_live regions some =
      ap not (any_weaker (region_spans sizes along header) (λ region. region_covers region cell) region_shuts regions some)

-- ---- regions that shut off a header as a whole

pub spanned_whole : (sizes : ℕ → ℕ) (regions : List Region) (header : Header) (region : Region) → Contains regions region → region_spans sizes None header region ≡ true → NoneIsLive sizes regions header
spanned_whole sizes regions header region held spans cell up covers =
    none_live sizes header cell up covers None tt regions (any_member (region_spans sizes None header) regions region held spans)

module _ (sizes : ℕ → ℕ) (regions : List Region) (ledger : LedgerOf) (place : ℕ) (header : Header) (region : Region)
    (told : (test : Region → Bool) → list_any (λ item. list_any (is_after place) item.flushes && test item.region) ledger.records ≡ true → list_any test regions ≡ true)
    (formed : is_header header ≡ true) (held : Contains regions region) where
  rising : rise (map (λ (column : ℕ × Allowed). column.0) header.columns) ≡ true
  rising = (and_parts (rise (map (λ column. column.0) header.columns)) (list_all (λ column. is_set column.1) header.columns) formed).0

  rises : (cell : Cell) → is_formed sizes cell ≡ true → rise (columns_of cell) ≡ true
  rises cell up = (and_parts (rise (columns_of cell)) (list_all (λ pair. nat_lt pair.1 (sizes pair.0)) cell.at) up).0

  one_spans : (along : Option (ℕ × ℕ)) → (region_spans sizes along header region || records_span sizes ledger place along header) ≡ true → list_any (region_spans sizes along header) regions ≡ true
  one_spans along h =
      elim (or_cases (region_spans sizes along header region) (records_span sizes ledger place along header) h) [
        | inl own ↦ any_member (region_spans sizes along header) regions region held own
        | inr others ↦ told (region_spans sizes along header) (any_positions (spans_after sizes place along header) ledger.records ledger.recent others)
      ]

  column_shuts : (own : ℕ) (allowed : Allowed) → Contains header.columns (own, allowed) → spans_along sizes ledger place header region own allowed ≡ true → NoneIsLive sizes regions header
  column_shuts own allowed inside h cell up covers =
      let values = values_of (sizes own) allowed in
      let some = λ (value : ℕ). region_spans sizes (Some (own, value)) header region in
      let each = λ (value : ℕ). region_spans sizes (Some (own, value)) header region || records_span sizes ledger place (Some (own, value)) header in
      let parts = and_parts (region_names region own && nat_le (length values) FEW_VALUES && list_any some values) (list_all each values) h in
      let first = and_parts (region_names region own && nat_le (length values) FEW_VALUES) (list_any some values) parts.0 in
      elim (cases_Bool (names_column cell own)) [
        | inl named ↦
            let (pair, there, at) = member_any (λ (pair : ℕ × ℕ). pair.0 == own) cell.at named in
            let here : pair.0 ≡ own = eqb-true pair.0 own at in
            let (mine, mine_inside, mine_here, is_allowed) = covering_column header cell covers pair there in
            let is : mine ≡ (own, allowed) = only_one (λ (column : ℕ × Allowed). column.0) header.columns mine (own, allowed) rising mine_inside inside (mine_here ∙ here) in
            let has : allows allowed pair.1 ≡ true = subst (λ (column : ℕ × Allowed). allows column.1 pair.1 ≡ true) is is_allowed in
            let below : pair.1 < sizes own = subst (λ (c : ℕ). pair.1 < sizes c) here (value_below sizes cell up pair there) in
            let spanned = one_spans (Some (own, pair.1)) (all_member each values pair.1 parts.1 (allowed_there (sizes own) allowed pair.1 has below)) in
            none_live sizes header cell up covers (Some (own, pair.1))
            (λ other other_there other_here. ap (λ (p : ℕ × ℕ). p.1) (only_one (λ (p : ℕ × ℕ). p.0) cell.at other pair (rises cell up) other_there there (other_here ∙ sym here)))
            regions spanned
        | inr unnamed ↦
            let (value, inside_values, spans) = member_any some values first.1 in
            none_live sizes header cell up covers (Some (own, value))
            (λ other there here. absurd (both_ways (names_column cell own) unnamed (any_member (λ (pair : ℕ × ℕ). pair.0 == own) cell.at other there (eq-eqb other.0 own here))))
            regions (any_member (region_spans sizes (Some (own, value)) header) regions region held spans)
      ]

  pub spanned_along : list_any (λ own. spans_along sizes ledger place header region own.0 own.1) header.columns ≡ true → NoneIsLive sizes regions header
  spanned_along h =
      let found = member_any (λ (own : ℕ × Allowed). spans_along sizes ledger place header region own.0 own.1) header.columns h in
      column_shuts found.0.0 found.0.1 found.1 found.2

-- ---- a load that is gone

-- it stays so when a region more is flushed
pub gone_more : (sizes : ℕ → ℕ) (region : Region) (kept : KeptOf) → IsGone sizes kept → IsGone sizes (shut_off region kept)
gone_more sizes region kept gone cell up covers =
    let some = not-false (list_any (λ region. region_covers region cell) kept.shut) (gone cell up covers) in
    ap not (list_any-append (λ region. region_covers region cell) kept.shut (concerning kept.body.header (region ∷ [])) ∙ or_left (list_any (λ region. region_covers region cell) kept.shut) _ some)

-- a well-formed cell that it covers is not live for it
not_live : (sizes : ℕ → ℕ) (kept : KeptOf) (cell : Cell) (also : Bool) → IsGone sizes kept → is_formed sizes cell ≡ true → ((header_covers kept.body.header cell && also) && is_live kept.shut cell) ≡ false
not_live sizes kept cell also gone up =
    elim (cases_Bool (header_covers kept.body.header cell)) [
      | inl covers ↦ and_right (header_covers kept.body.header cell && also) (is_live kept.shut cell) (gone cell up covers)
      | inr out ↦ and_left (header_covers kept.body.header cell && also) (is_live kept.shut cell) (and_left (header_covers kept.body.header cell) also out)
    ]

-- it serves no well-formed cell
pub gone_serves : (sizes : ℕ → ℕ) (kept : KeptOf) (cell : Cell) → IsGone sizes kept → is_formed sizes cell ≡ true → serves kept cell ≡ false
gone_serves sizes kept cell gone up = not_live sizes kept cell (list_all (λ column. names_column cell column.0) kept.body.header.columns) gone up

-- it is a candidate for no well-formed cell
pub gone_candidate : (sizes : ℕ → ℕ) (kept : KeptOf) (cell : Cell) → IsGone sizes kept → is_formed sizes cell ≡ true → is_candidate kept cell ≡ false
gone_candidate sizes kept cell gone up = not_live sizes kept cell (list_any (λ column. not (names_column cell column.0)) kept.body.header.columns) gone up
