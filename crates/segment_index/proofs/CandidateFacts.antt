-- Which loads are found for a cell, and which are candidates for it, among those that are listed.
use Rattle.std.proofs.Common.{◌≡◌, ◌∙◌, ◌++◌, ◌||◌, ◌&&◌, ℕ, Bool, true, false, not, List, [], ◌∷◌, Option, Some, None, filter, refl, sym, ap, inl, inr, true≢false, nat_eq, Contains, reverse}
use Rattle.std.specs.Prelude.{◌==◌, All, Err, IfOk, Ok, Result}
use Rattle.std.specs.List.{dedup, list_any}
use Rattle.std.specs.List.Sorted.{IsPermutation}
use Rattle.std.proofs.lemmas.Bool.{and_parts, cases_Bool, eq-eqb, eqb-true, or_right}
use Rattle.std.proofs.lemmas.List.Elements.{All-contains}
use Rattle.std.proofs.lemmas.List.Sorted.{list_any-IsPermutation}
use Rattle.std.proofs.lemmas.Map.Views.{any-filter_same}
use Rattle.olap_meaning.specs.declared.cells.Cell.{Cell}
use Rattle.olap_meaning.specs.Covering.{among, header_covers, just_covers, names_column}
use Rattle.olap_meaning.proofs.Lists.{same_bool}
use Rattle.olap_meaning.proofs.Members.{filter_member, in_first, in_rest}
use Rattle.olap_meaning.proofs.Orders.{among_once}
use Rattle.segment_header.specs.Headers.{is_header}
use Rattle.cache_flush.specs.Formed.{is_formed}
use Rattle.cache_flush.specs.Shuts.{is_live}
use Rattle.cache_flush.specs.Loads as loads
use Rattle.cache_flush.specs.Loads.{IsGreatest, KeptOf, are_different, numbers_of, serves}
use Rattle.cache_flush.proofs.GoneFacts.{gone_candidate, gone_serves}
use Rattle.segment_index.specs.Grouping.{is_above, loads_above, loads_at, loads_where_above}
use Rattle.segment_index.specs.Index.{in_key, in_mask}
use Rattle.segment_index.specs.Keeping.{AreListed}
use Rattle.segment_index.specs.Keys.{cell_columns_key, cell_key}
use Rattle.segment_index.specs.Masks.{cell_list_mask, header_list_mask}
use Rattle.segment_index.specs.Search.{has_candidate, is_candidate, latest_serving, load_of}
use Rattle.segment_index.proofs.KeyFacts.{served_key}
use Rattle.segment_index.proofs.ListedFacts.{Stands}
use Rattle.segment_index.proofs.MaskFacts.{candidate_above}
use Rattle.segment_index.proofs.SearchFacts.{among_reversed, greatest_found, latest_more, load_found, load_there, number_there}

pub if_ok : {A E : Type 0} {P Q : A → Type 0} (r : Result A E) → ((x : A) → P x → Q x) → IfOk r P → IfOk r Q
if_ok (Ok x) f p = f x p
if_ok (Err e) f p = p

-- ---- the numbers under the masks that stand above another

pub among_append : (xs ys : List ℕ) (n : ℕ) → among (xs ++ ys) n ≡ (among xs n || among ys n)
among_append [] ys n = refl
among_append (x ∷ xs) ys n = by (x == n) (among (xs ++ ys) n) (among xs n) (among ys n) (among_append xs ys n)
  where
    by : (b l r s : Bool) → l ≡ (r || s) → (b || l) ≡ ((b || r) || s)
    by true l r s e = refl
    by false l r s e = e

above_here : (es : List (ℕ × (List ℕ × ℕ))) (q m n : ℕ) → is_above m q ≡ true → among (loads_at es q) n ≡ true → among (loads_above es m) n ≡ true
above_here [] q m n within h = h
above_here (e ∷ es) q m n within h =
    elim (cases_Bool (nat_eq q e.0)) [
      | inl same ↦
          let is : q ≡ e.0 = eqb-true q e.0 same in
          let bits : is_above m e.0 ≡ true = ap (is_above m) (sym is) ∙ within in
          let here : among e.1.0 n ≡ true = rw same at h in
          among_append (loads_where_above m e) (loads_above es m) n ∙ rw (bits, here) refl
      | inr other ↦
          among_append (loads_where_above m e) (loads_above es m) n ∙ or_right (among (loads_where_above m e) n) (among (loads_above es m) n) (above_here es q m n within (rw other at h))
    ]

-- ---- candidates

candidate_there : (kept : List KeptOf) (cell : Cell) (n : ℕ) (r : Option KeptOf) → load_of kept n ≡ r → is_candidate cell r ≡ true → (other : KeptOf) × (load_of kept n ≡ Some other) × (loads.is_candidate other cell ≡ true)
candidate_there kept cell n None at h = absurd (true≢false (sym h))
candidate_there kept cell n (Some other) at h = (other, at, h)

-- what stands among those that pass a test passes it, and is one of all
from_filter : (p : KeptOf → Bool) (kept : List KeptOf) (n : ℕ) → among (numbers_of (filter p kept)) n ≡ true → (other : KeptOf) × Contains kept other × ((other.load == n) ≡ true) × (p other ≡ true)
from_filter p [] n h = absurd (true≢false (sym h))
from_filter p (x ∷ xs) n h =
    elim (cases_Bool (p x)) [
      | inl passes ↦
          let there : among (x.load ∷ numbers_of (filter p xs)) n ≡ true = rw passes at h in
          elim (cases_Bool (x.load == n)) [
            | inl same ↦ (x, in_first x xs, same, passes)
            | inr other ↦ later (from_filter p xs n (rw other at there))
          ]
      | inr fails ↦ later (from_filter p xs n (rw fails at h))
    ]
  where
    later : ((other : KeptOf) × Contains xs other × ((other.load == n) ≡ true) × (p other ≡ true)) → (other : KeptOf) × Contains (x ∷ xs) other × ((other.load == n) ≡ true) × (p other ≡ true)
    later (other, held, same, passes) = (other, in_rest x xs other held, same, passes)

-- a candidate stands under its mask, which stands above the cell's
pub candidate_listed :
    (sizes : ℕ → ℕ) (masks : List (ℕ × (List ℕ × ℕ))) (kept_loads : List KeptOf) (cell : Cell) → AreListed sizes in_mask masks kept_loads → is_formed sizes cell ≡ true
    → (kept : KeptOf) → Contains kept_loads kept → loads.is_candidate kept cell ≡ true → among (loads_above masks (cell_list_mask cell)) kept.load ≡ true
candidate_listed sizes masks kept_loads cell listed up kept held passes = by (All-contains (Stands sizes in_mask masks) kept_loads kept listed.whole held)
  where
    by : Stands sizes in_mask masks kept → among (loads_above masks (cell_list_mask cell)) kept.load ≡ true
    by (inl gone) = absurd (true≢false (sym passes ∙ gone_candidate sizes kept cell gone up))
    by (inr stands) =
        let m = header_list_mask kept.body.header in
        let (covers, drops) = and_parts (header_covers kept.body.header cell) (list_any (λ column. not (names_column cell column.0)) kept.body.header.columns) (and_parts (header_covers kept.body.header cell && list_any (λ column. not (names_column cell column.0)) kept.body.header.columns) (is_live kept.shut cell) passes).0 in
        above_here masks m (cell_list_mask cell) kept.load (candidate_above kept.body.header cell covers drops) (stands m (rw (eq-eqb m m refl) refl))

module _ (kept : List KeptOf) (cell : Cell) (searched : List ℕ) (differ : are_different (numbers_of kept) ≡ true)
    (each : (other : KeptOf) → Contains kept other → loads.is_candidate other cell ≡ true → among searched other.load ≡ true) where
  abbrev is : KeptOf → Bool
  is other = loads.is_candidate other cell

  passing : (n : ℕ) → (has_candidate kept cell n && among searched n) ≡ among (numbers_of (filter is kept)) n
  passing n =
      same_bool (has_candidate kept cell n && among searched n) (among (numbers_of (filter is kept)) n)
      (λ h.
      let (other, at, passes) = candidate_there kept cell n (load_of kept n) refl ((and_parts (has_candidate kept cell n) (among searched n) h).0) in
      let (held, same) = load_there kept n other at in
      rw (eqb-true other.load n same) at (number_there (filter is kept) other (filter_member is kept other held passes)))
      (λ h.
      let (other, held, same, passes) = from_filter is kept n h in
      let e : other.load ≡ n = eqb-true other.load n same in
      let found : load_of kept n ≡ Some other = rw e at (load_found kept other differ held) in
      let there : among searched n ≡ true = rw e at (each other held passes) in
      rw (found, passes) there)

  -- the numbers of the candidates, whatever their order and however often each stands
  pub candidates_found : (found sorted once : List ℕ) → found ≡ filter (has_candidate kept cell) searched → IsPermutation found sorted → once ≡ dedup nat_eq sorted → (n : ℕ) → among once n ≡ among (numbers_of (filter is kept)) n
  candidates_found found sorted once are moved left n =
      ap (λ (ns : List ℕ). among ns n) left ∙ among_once sorted n ∙ sym (list_any-IsPermutation (λ v. v == n) found sorted moved) ∙ ap (λ (ns : List ℕ). among ns n) are
      ∙ any-filter_same (λ v. v == n) (has_candidate kept cell) (has_candidate kept cell n) (λ k same. ap (has_candidate kept cell) (eqb-true k n same)) searched
      ∙ passing n

-- ---- the load that serves a cell

-- a load that serves a cell stands under the cell's key, or under that of its columns
serving_listed :
    (sizes : ℕ → ℕ) (cells : List (ℕ × (List ℕ × ℕ))) (kept_loads : List KeptOf) (cell : Cell) → AreListed sizes (in_key sizes) cells kept_loads → All (λ kept. is_header kept.body.header ≡ true) kept_loads → is_formed sizes cell ≡ true
    → (kept : KeptOf) → Contains kept_loads kept → serves kept cell ≡ true → (among (loads_at cells (cell_key cell)) kept.load || among (loads_at cells (cell_columns_key cell)) kept.load) ≡ true
serving_listed sizes cells kept_loads cell listed formed up kept held served = by (All-contains (Stands sizes (in_key sizes) cells) kept_loads kept listed.whole held)
  where
    by : Stands sizes (in_key sizes) cells kept → (among (loads_at cells (cell_key cell)) kept.load || among (loads_at cells (cell_columns_key cell)) kept.load) ≡ true
    by (inl gone) = absurd (true≢false (sym served ∙ gone_serves sizes kept cell gone up))
    by (inr stands) =
        let just = (and_parts (just_covers kept.body.header cell) (is_live kept.shut cell) served).0 in
        elim (served_key sizes kept.body.header cell (All-contains (λ (k : KeptOf). is_header k.body.header ≡ true) kept_loads kept formed held) up just) [
          | inl narrow ↦ rw (stands (cell_key cell) narrow) refl
          | inr wide ↦ or_right (among (loads_at cells (cell_key cell)) kept.load) (among (loads_at cells (cell_columns_key cell)) kept.load) (stands (cell_columns_key cell) wide)
        ]

-- the search in the list of the cell's key and in that of its columns finds the greatest that serves the cell
pub greatest_listed :
    (sizes : ℕ → ℕ) (cells : List (ℕ × (List ℕ × ℕ))) (kept_loads : List KeptOf) (cell : Cell) → AreListed sizes (in_key sizes) cells kept_loads → All (λ kept. is_header kept.body.header ≡ true) kept_loads → is_formed sizes cell ≡ true → are_different (numbers_of kept_loads) ≡ true
    → IsGreatest kept_loads cell (latest_serving kept_loads cell (latest_serving kept_loads cell None (reverse (loads_at cells (cell_key cell)))) (reverse (loads_at cells (cell_columns_key cell))))
greatest_listed sizes cells kept_loads cell listed formed up differ =
    let narrow = loads_at cells (cell_key cell) in
    let wide = loads_at cells (cell_columns_key cell) in
    rw (← latest_more kept_loads cell None (reverse narrow) (reverse wide))
    (greatest_found kept_loads cell (reverse narrow ++ reverse wide) differ (λ kept held served.
    among_append (reverse narrow) (reverse wide) kept.load ∙ rw (among_reversed narrow kept.load, among_reversed wide kept.load) (serving_listed sizes cells kept_loads cell listed formed up kept held served)))

-- the search among all numbers does
pub greatest_of_all :
    (kept_loads : List KeptOf) (cell : Cell) (numbers : List ℕ) → ((n : ℕ) → among numbers n ≡ among (numbers_of kept_loads) n) → are_different (numbers_of kept_loads) ≡ true
    → IsGreatest kept_loads cell (latest_serving kept_loads cell None (reverse numbers))
greatest_of_all kept_loads cell numbers all differ =
    greatest_found kept_loads cell (reverse numbers) differ (λ kept held served. among_reversed numbers kept.load ∙ all kept.load ∙ number_there kept_loads kept held)
