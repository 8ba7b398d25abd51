-- A roll takes each row of a cell once.
use Rattle.std.proofs.Common.{◌≡◌, ◌∙◌, ◌<◌, ◌≤◌, ℕ, zero, suc, ◌+◌, ℤ, Bool, true, false, not, List, [], ◌∷◌, ◌++◌, Option, None, Some, Result, Ok, Err, length, map, take, drop, filter, flat_map, get_or, append_assoc, append-nil, length-append, take-append-drop, refl, sym, ap, subst, arith, inl, inr}
use Rattle.std.specs.Prelude.{◌&&◌, All, Contains, IfOk, IsTrue, is_some, nat_lt, option_map, slice_get}
use Rattle.std.specs.List.{AllZip, list_any, list_all}
use Rattle.std.specs.List.Sorted.{IsPermutation}
use Rattle.std.proofs.lemmas.Bool.{cases_Bool, ltb-true}
use Rattle.std.proofs.lemmas.List.{length-map, take_more}
use Rattle.std.proofs.lemmas.List.Concat.{flat_map-append}
use Rattle.std.proofs.lemmas.List.Elements.{All-contains, All-map, All-same, filter_map-append}
use Rattle.std.proofs.lemmas.List.Filters.{length-filter_both}
use Rattle.std.proofs.lemmas.List.Folds.{list_any_none}
use Rattle.std.proofs.lemmas.List.Sorted.{IsPermutation-append, IsPermutation-map, IsPermutation-trans, length_permutation}
use Rattle.olap_meaning.specs.declared.Aggregator.{Aggregator}
use Rattle.olap_meaning.specs.declared.OutOfMemory.{OutOfMemory}
use Rattle.olap_meaning.specs.declared.TheConstants.{ROW_LIMIT}
use Rattle.olap_meaning.specs.declared.cells.Allowed.{Allowed}
use Rattle.olap_meaning.specs.declared.cells.Allowed.TheVariants.{Any}
use Rattle.olap_meaning.specs.declared.cells.Cell.{Cell}
use Rattle.olap_meaning.specs.declared.tables.Catalog.{Catalog}
use Rattle.olap_meaning.specs.declared.tables.Measure.{Measure}
use Rattle.olap_meaning.specs.declared.tables.Row.{Row}
use Rattle.olap_meaning.specs.Covering.{allows, header_covers}
use Rattle.olap_meaning.specs.Rolled.{allows_in, header_columns, is_open_but, value_count}
use Rattle.olap_meaning.specs.Worth.{fact, measure_of, row_in, row_value}
use Rattle.olap_meaning.proofs.Members.{all_member, member_all}
use Rattle.olap_meaning.proofs.Lists.{all_of_map, map-flat_map}
use Rattle.list_orders.proofs.Aggregates.{aggregate_permutes}
use Rattle.segment_header.specs.Headers.{is_header, is_set}
use Rattle.measure_folds.specs.Tallied.{Tallied}
use Rattle.segment_body.specs.BodyOf.{BodyOf}
use Rattle.segment_body.specs.AllFolds.{AreFolded, FoldOf, TalliesOf, fold_numbers, fold_of, folded_numbers}
use Rattle.segment_body.proofs.TableFacts.{zip_weaker}
use Rattle.fact_reader.specs.BodyRows.{HoldsRows}
use Rattle.cache_flush.specs.Loads.{KeptOf}
use Rattle.rollup_plan.specs.declared.plan.Part.{Part}
use Rattle.rollup_plan.specs.declared.plan.Plan.{Plan}
use Rattle.rollup_plan.specs.Plans.{AreApart, MakeCell, Share, kept_at, shares_of}
use Rattle.rollup_plan.specs.Rolls.{IsRolledUp, LieBehind, cell_numbers, folds_at, loads_at}
use Rattle.fact_reader.specs.BodyRows.{is_valued}
use Rattle.rollup_plan.proofs.OnceFacts.{Exclusive, each_permutes, filter_agree_in, owned_once}
use Rattle.rollup_plan.proofs.FoldFacts.{Serves, aggregator_same, fold_permutes, is_owned, some_passes}

-- ---- parts, their shares and folds

-- the share of a fold
abbrev pub share_of : FoldOf → Share
share_of fold = record { header = fold.body.header; own = fold.own }

module _ (loads : List KeptOf) (split : ℕ) where
  -- the shares of parts are those of their folds
  pub shares_are : (parts : List Part) → shares_of loads parts ≡ map share_of (folds_at loads split parts)
  shares_are [] = refl
  shares_are (part ∷ parts) = by (kept_at loads part.load) refl (shares_are parts)
    where
      by : (kept : Option KeptOf) → kept_at loads part.load ≡ kept → shares_of loads parts ≡ map share_of (folds_at loads split parts) → shares_of loads (part ∷ parts) ≡ map share_of (folds_at loads split (part ∷ parts))
      by None is rest = rw is rest
      by (Some kept) is rest = rw (is, rest) refl

  -- the bodies of the kept loads are those of the folds
  pub bodies_are : (parts : List Part) → map (λ (kept : KeptOf). kept.body) (loads_at loads parts) ≡ map (λ (fold : FoldOf). fold.body) (folds_at loads split parts)
  bodies_are [] = refl
  bodies_are (part ∷ parts) = by (kept_at loads part.load) refl (bodies_are parts)
    where
      by : (kept : Option KeptOf) → kept_at loads part.load ≡ kept → map (λ (kept : KeptOf). kept.body) (loads_at loads parts) ≡ map (λ (fold : FoldOf). fold.body) (folds_at loads split parts)
          → map (λ (kept : KeptOf). kept.body) (loads_at loads (part ∷ parts)) ≡ map (λ (fold : FoldOf). fold.body) (folds_at loads split (part ∷ parts))
      by None is rest = rw is rest
      by (Some kept) is rest = rw (is, rest) refl

  few : (parts : List Part) → length (folds_at loads split parts) ≤ length parts
  few [] = omega arith
  few (part ∷ parts) = by (kept_at loads part.load) refl (few parts)
    where
      by : (kept : Option KeptOf) → kept_at loads part.load ≡ kept → length (folds_at loads split parts) ≤ length parts → length (folds_at loads split (part ∷ parts)) ≤ length (part ∷ parts)
      by None is rest = rw is (omega arith)
      by (Some kept) is rest = rw is (omega arith)

  -- where there are as many folds as parts, each part is that of a kept load
  pub all_kept : (parts : List Part) → length (folds_at loads split parts) ≡ length parts → All (λ part. is_some (kept_at loads part.load) ≡ true) parts
  all_kept [] count = λ k d inside. absurd (omega arith)
  all_kept (part ∷ parts) count = by (kept_at loads part.load) refl (all_kept parts)
    where
      by : (kept : Option KeptOf) → kept_at loads part.load ≡ kept → (length (folds_at loads split parts) ≡ length parts → All (λ part. is_some (kept_at loads part.load) ≡ true) parts) → All (λ part. is_some (kept_at loads part.load) ≡ true) (part ∷ parts)
      by None is others zero d inside = let fewer = rw is at count in absurd (omega (arith, few parts, fewer))
      by None is others (suc k) d inside = let fewer = rw is at count in absurd (omega (arith, few parts, fewer))
      by (Some kept) is others zero d inside = rw is refl
      by (Some kept) is others (suc k) d inside = let rest = rw is at count in others (omega (arith, rest)) k d (omega arith)

  -- and what holds of each fold's own holds of each part's
  pub all_own : (P : Allowed → Type 0) (parts : List Part) → length (folds_at loads split parts) ≡ length parts → All (λ (fold : FoldOf). P fold.own) (folds_at loads split parts) → All (λ (part : Part). P part.own) parts
  all_own P [] count all = λ k d inside. absurd (omega arith)
  all_own P (part ∷ parts) count all = by (kept_at loads part.load) refl (all_own P parts)
    where
      by : (kept : Option KeptOf) → kept_at loads part.load ≡ kept
          → (length (folds_at loads split parts) ≡ length parts → All (λ (fold : FoldOf). P fold.own) (folds_at loads split parts) → All (λ (part : Part). P part.own) parts)
          → All (λ (part : Part). P part.own) (part ∷ parts)
      by None is others zero d inside = let fewer = rw is at count in absurd (omega (arith, few parts, fewer))
      by None is others (suc k) d inside = let fewer = rw is at count in absurd (omega (arith, few parts, fewer))
      by (Some kept) is others zero d inside = let first = (rw is at all) 0 (fold_of kept.body split part.own) (omega arith) in first
      by (Some kept) is others (suc k) d inside =
          let rest = rw is at count in
          others (omega (arith, rest)) (λ j e within. (rw is at all) (suc j) e (omega arith)) k d (omega arith)

  -- the folds of one part more
  pub folds_more : (parts : List Part) (i : ℕ) (part : Part) (kept : KeptOf) → i < length parts → part ≡ get_or parts i part → kept_at loads part.load ≡ Some kept
      → folds_at loads split (take (i + 1) parts) ≡ folds_at loads split (take i parts) ++ fold_of kept.body split part.own ∷ []
  folds_more parts i part kept inside here is =
      rw (take_more parts i part inside, ← here, filter_map-append (λ (p : Part). option_map (λ (k : KeptOf). fold_of k.body split p.own) (kept_at loads p.load)) (take i parts) (part ∷ []), is) refl

  pub folds_split : (parts : List Part) (i : ℕ) → folds_at loads split parts ≡ folds_at loads split (take i parts) ++ folds_at loads split (drop i parts)
  folds_split parts i = ap (folds_at loads split) (sym (take-append-drop i parts)) ∙ filter_map-append (λ (p : Part). option_map (λ (k : KeptOf). fold_of k.body split p.own) (kept_at loads p.load)) (take i parts) (drop i parts)

  -- what holds of each fold holds of the next
  pub next_fold : (P : FoldOf → Type 0) (parts : List Part) (i : ℕ) (part : Part) (kept : KeptOf) → i < length parts → part ≡ get_or parts i part → kept_at loads part.load ≡ Some kept → All P (folds_at loads split parts) → P (fold_of kept.body split part.own)
  next_fold P [] i part kept inside here is all = absurd (omega arith)
  next_fold P (p ∷ ps) zero part kept inside here is all =
      let same : part ≡ p = here in
      let known : kept_at loads p.load ≡ Some kept = rw (← same) is in
      let first = (rw known at all) 0 (fold_of kept.body split p.own) (omega arith) in
      rw same first
  next_fold P (p ∷ ps) (suc i) part kept inside here is all = by (kept_at loads p.load) refl (next_fold P ps i part kept (omega arith) here is)
    where
      by : (o : Option KeptOf) → kept_at loads p.load ≡ o → (All P (folds_at loads split ps) → P (fold_of kept.body split part.own)) → P (fold_of kept.body split part.own)
      by None none later = later (rw none at all)
      by (Some other) some later = later (λ j e within. (rw some at all) (suc j) e (omega arith))

  -- each fold is along the split
  pub along_split : (parts : List Part) → All (λ (fold : FoldOf). fold.column ≡ split) (folds_at loads split parts)
  along_split [] = λ k d inside. absurd (omega arith)
  along_split (part ∷ parts) = by (kept_at loads part.load) refl (along_split parts)
    where
      by : (o : Option KeptOf) → kept_at loads part.load ≡ o → All (λ (fold : FoldOf). fold.column ≡ split) (folds_at loads split parts) → All (λ (fold : FoldOf). fold.column ≡ split) (folds_at loads split (part ∷ parts))
      by None is rest = rw is rest
      by (Some kept) is rest = rw is (λ k d inside. first kept rest k d inside)
        where
          first : (kept : KeptOf) → All (λ (fold : FoldOf). fold.column ≡ split) (folds_at loads split parts) → All (λ (fold : FoldOf). fold.column ≡ split) (fold_of kept.body split part.own ∷ folds_at loads split parts)
          first kept rest zero d inside = refl
          first kept rest (suc k) d inside = rest k d (omega arith)

-- the numbers of folds, one after another
pub numbers_append : (cell : Cell) (xs ys : List FoldOf) → folded_numbers cell (xs ++ ys) ≡ folded_numbers cell xs ++ folded_numbers cell ys
numbers_append cell xs ys = flat_map-append (fold_numbers cell) xs ys

pub numbers_more : (cell : Cell) (xs : List FoldOf) (x : FoldOf) → folded_numbers cell (xs ++ x ∷ []) ≡ folded_numbers cell xs ++ fold_numbers cell x
numbers_more cell xs x = numbers_append cell xs (x ∷ []) ∙ ap (λ (ns : List (Option ℤ)). folded_numbers cell xs ++ ns) (append-nil (fold_numbers cell x))

-- ---- each row once

module _ (catalog : Catalog) (cell : Cell) (split : ℕ) (rows : List Row) (measure : Measure) (is_measure : measure_of catalog cell ≡ Some measure) where
  abbrev size : ℕ
  size = value_count catalog split

  abbrev number : Row → Option ℤ
  number = fact catalog cell.cube measure.column

  -- a fold has a row whose value is its own
  abbrev owns : FoldOf → Row → Bool
  owns fold row = is_owned catalog cell.cube split fold.own row

  -- a row has a value of the split
  abbrev HasValue : Row → Type 0
  HasValue row = (v : ℕ) × (v < size) × (row_value catalog cell.cube row split ≡ Some v)

  -- no value is of two shares, so no row is of two folds
  exclusive : (folds : List FoldOf) (row : Row) → HasValue row → AreApart size (map share_of folds) → Exclusive (row_in catalog cell) owns folds row
  exclusive [] row has apart = tt
  exclusive (fold ∷ folds) row has apart = (alone, exclusive folds row has (λ i j one other lt at at'. apart (suc i) (suc j) one other (omega arith) at at'))
    where
      alone : owns fold row ≡ true → list_any (λ g. owns g row) folds ≡ false
      alone own =
          let mine : allows fold.own has.0 ≡ true = rw has.2 at own in
          list_any_none (λ g. owns g row) folds
          (λ k d inside.
          let other : FoldOf = get_or folds k d in
          let at : slice_get (map share_of folds) k ≡ Some (share_of other) = share_at folds k d inside in
          let not_his : allows other.own has.0 ≡ false = apart 0 (suc k) (share_of fold) (share_of other) (omega arith) refl at has.0 has.1 mine in
          rw has.2 not_his)
        where
          share_at : (fs : List FoldOf) (k : ℕ) (d : FoldOf) → k < length fs → slice_get (map share_of fs) k ≡ Some (share_of (get_or fs k d))
          share_at [] k d inside = absurd (omega arith)
          share_at (f ∷ fs) zero d inside = refl
          share_at (f ∷ fs) (suc k) d inside = share_at fs k d (omega arith)

  some_owns : (folds : List FoldOf) (row : Row) (v : ℕ) → row_value catalog cell.cube row split ≡ Some v → list_any (λ (share : Share). allows share.own v) (map share_of folds) ≡ true → list_any (λ g. owns g row) folds ≡ true
  some_owns [] row v has found = absurd (cc)
  some_owns (fold ∷ folds) row v has found =
      elim (cases_Bool (allows fold.own v)) [
        | inl own ↦ rw (has, own) refl
        | inr other ↦ rw (has, other) (some_owns folds row v has (rw other at found))
      ]

  -- the numbers of the folds are those of the rows in the cell, each once
  pub cell_once : (folds : List FoldOf) → All (Serves catalog cell split rows) folds → ((row : Row) → Contains rows row → HasValue row) → AreApart size (map share_of folds)
      → ((value : ℕ) → value < size → list_any (λ (share : Share). allows share.own value) (map share_of folds) ≡ true)
      → IsPermutation (map number (filter (row_in catalog cell) rows)) (folded_numbers cell folds)
  cell_once folds serve has apart every =
      let once = owned_once (row_in catalog cell) owns folds rows (λ row held. exclusive folds row (has row held) apart) in
      let all : filter (λ row. row_in catalog cell row && list_any (λ g. owns g row) folds) rows ≡ filter (row_in catalog cell) rows =
      filter_agree_in (λ row. row_in catalog cell row && list_any (λ g. owns g row) folds) (row_in catalog cell) rows
      (λ row held. let v = has row held in rw (some_owns folds row v.0 v.2 (every v.0 v.1)) (and_true (row_in catalog cell row))) in
      let numbers = IsPermutation-map number _ _ (rw all at once) in
      let parts : map number (flat_map (λ fold. filter (λ row. row_in catalog cell row && owns fold row) rows) folds) ≡ flat_map (λ fold. map number (filter (λ row. row_in catalog cell row && owns fold row) rows)) folds = map-flat_map number (λ fold. filter (λ row. row_in catalog cell row && owns fold row) rows) folds in
      IsPermutation-trans _ _ _ (rw parts at numbers)
      (each_permutes (λ fold. map number (filter (λ row. row_in catalog cell row && owns fold row) rows)) (fold_numbers cell) folds
      (λ k d inside. fold_permutes catalog cell split rows (get_or folds k d) (serve k d inside) measure is_measure))
    where
      and_true : (b : Bool) → (b && true) ≡ b
      and_true true = refl
      and_true false = refl

-- ---- rows after a plan

module _ (catalog : Catalog) (cell : Cell) (loads : List KeptOf) (plan : Plan) (rows : List Row) (behind : LieBehind catalog cell loads plan rows) where
  abbrev folds : List FoldOf
  folds = folds_at loads plan.split plan.parts

  abbrev shares : List Share
  shares = map share_of folds

  made : MakeCell (value_count catalog) cell plan.split shares
  made = subst (MakeCell (value_count catalog) cell plan.split) (shares_are loads plan.split plan.parts) behind.made

  pub count : length folds ≡ length plan.parts
  count = sym (length-map folds share_of) ∙ sym (ap length (shares_are loads plan.split plan.parts)) ∙ behind.kept

  -- what holds of the body of each kept load
  of_bodies : (P : BodyOf → Type 0) → All (λ (kept : KeptOf). P kept.body) (loads_at loads plan.parts) → All (λ (fold : FoldOf). P fold.body) folds
  of_bodies P all =
      all_of_map P (λ (fold : FoldOf). fold.body) folds
      (All-same P (map (λ (fold : FoldOf). fold.body) folds) (map (λ (kept : KeptOf). kept.body) (loads_at loads plan.parts)) (sym (bodies_are loads plan.split plan.parts)) (All-map P (λ (kept : KeptOf). kept.body) (loads_at loads plan.parts) all))

  pub serve : All (Serves catalog cell plan.split rows) folds
  serve k d inside = record {
    formed = all_of_map (λ (share : Share). IsTrue (is_header share.header)) share_of folds made.formed k d inside;
    covering = all_of_map (λ (share : Share). IsTrue (header_covers share.header cell)) share_of folds made.covering k d inside;
    having = all_of_map (λ (share : Share). Contains (header_columns share.header) plan.split) share_of folds made.having k d inside;
    opened = all_of_map (λ (share : Share). IsTrue (is_open_but cell plan.split share.header)) share_of folds made.opened k d inside;
    within = all_of_map (λ (share : Share). (value : ℕ) → IsTrue (allows share.own value) → IsTrue (allows_in share.header plan.split value)) share_of folds made.within k d inside;
    holds = of_bodies (λ body. HoldsRows catalog body.header rows body) behind.behind.held k d inside;
    valued = of_bodies (λ body. IsTrue (list_all (λ row. list_all (is_valued catalog cell.cube row) (header_columns body.header)) rows)) behind.behind.valued k d inside;
    along = along_split loads plan.split plan.parts k d inside;
  }

  pub sets : All (λ (part : Part). IsTrue (is_set part.own)) plan.parts
  sets = all_own loads plan.split (λ own. IsTrue (is_set own)) plan.parts count (all_of_map (λ (share : Share). IsTrue (is_set share.own)) share_of folds made.sets)

  pub known : All (λ part. is_some (kept_at loads part.load) ≡ true) plan.parts
  known = all_kept loads plan.split plan.parts count

  pub alike : All (λ (fold : FoldOf). fold.body.aggregator ≡ behind.measure.aggregator) folds
  alike k d inside = aggregator_same catalog cell plan.split rows (get_or folds k d) (serve k d inside) behind.measure behind.is_measure

  -- so is that of the first part
  pub first_alike : (part : Part) (kept : KeptOf) → part ≡ get_or plan.parts 0 part → kept_at loads part.load ≡ Some kept → kept.body.aggregator ≡ behind.measure.aggregator
  first_alike part kept here is = next_fold loads plan.split (λ (fold : FoldOf). fold.body.aggregator ≡ behind.measure.aggregator) plan.parts 0 part kept behind.some here is alike

  -- each row has a value of the split
  has_value : (row : Row) → Contains rows row → HasValue catalog cell plan.split rows behind.measure behind.is_measure row
  has_value row held =
      let d : FoldOf = fold_of (record { header = record { cube = 0; measure = 0; columns = [] }; aggregator = behind.measure.aggregator; rows = [] }) 0 Any in
      let first = serve 0 d (omega (arith, count, behind.some)) in
      let one = all_member (λ r. list_all (is_valued catalog cell.cube r) (header_columns (get_or folds 0 d).body.header)) rows row first.valued held in
      let valued = all_member (is_valued catalog cell.cube row) (header_columns (get_or folds 0 d).body.header) plan.split one first.having in
      let v = some_passes (λ value. nat_lt value (value_count catalog plan.split)) (row_value catalog cell.cube row plan.split) valued in
      (v.0, ltb-true v.0 (value_count catalog plan.split) v.2, v.1)

  pub rows_once : IsPermutation (map (fact catalog cell.cube behind.measure.column) (filter (row_in catalog cell) rows)) (folded_numbers cell folds)
  rows_once = cell_once catalog cell plan.split rows behind.measure behind.is_measure folds serve has_value made.apart made.every

  -- there is room for all
  pub cell_room : length rows ≤ ROW_LIMIT → length (folded_numbers cell folds) ≤ ROW_LIMIT
  cell_room few =
      let count = length_permutation _ _ rows_once in
      let kept = length-filter_both (row_in catalog cell) (λ row. not (row_in catalog cell row)) (λ row. refl) rows in
      omega (arith, count, kept, length-map (filter (row_in catalog cell) rows) (fact catalog cell.cube behind.measure.column))

  -- a tally of what is folded is that of the cell
  pub rolled_up : (tally : Tallied) → tally.aggregator ≡ behind.measure.aggregator → IsPermutation (folded_numbers cell folds) tally.values → IsRolledUp catalog rows cell tally
  rolled_up tally alike folded =
      let all = IsPermutation-trans _ _ _ rows_once folded in
      let numbers : cell_numbers catalog cell rows ≡ map (fact catalog cell.cube behind.measure.column) (filter (row_in catalog cell) rows) = rw behind.is_measure refl in
      record {
        aggregator = rw (behind.is_measure, alike) refl;
        rows_once = rw numbers all;
        worth = rw (behind.is_measure, alike) (sym (aggregate_permutes behind.measure.aggregator _ _ all));
      }

-- ---- the folds of parts, one after another

module _ (cell : Cell) (loads : List KeptOf) (split : ℕ) (parts : List Part) (i : ℕ) (part : Part) (kept : KeptOf) (inside : i < length parts) (here : part ≡ get_or parts i part) (is : kept_at loads part.load ≡ Some kept) where
  -- the numbers of one part more
  numbers_next : (before : List FoldOf) → folded_numbers cell (before ++ folds_at loads split (take (i + 1) parts)) ≡ folded_numbers cell (before ++ folds_at loads split (take i parts)) ++ fold_numbers cell (fold_of kept.body split part.own)
  numbers_next before =
      rw (folds_more loads split parts i part kept inside here is, ← append_assoc before (folds_at loads split (take i parts)) (fold_of kept.body split part.own ∷ []))
      (numbers_more cell (before ++ folds_at loads split (take i parts)) (fold_of kept.body split part.own))

  -- they are no more than those of all
  pub numbers_fit : (before : List FoldOf) → length (folded_numbers cell (before ++ folds_at loads split (take (i + 1) parts))) ≤ length (folded_numbers cell (before ++ folds_at loads split parts))
  numbers_fit before =
      let all : folded_numbers cell (before ++ folds_at loads split parts) ≡ folded_numbers cell (before ++ folds_at loads split (take (i + 1) parts)) ++ folded_numbers cell (folds_at loads split (drop (i + 1) parts)) =
      ap (λ l. folded_numbers cell (before ++ l)) (folds_split loads split parts (i + 1)) ∙ ap (folded_numbers cell) (sym (append_assoc before (folds_at loads split (take (i + 1) parts)) (folds_at loads split (drop (i + 1) parts)))) ∙ numbers_append cell (before ++ folds_at loads split (take (i + 1) parts)) (folds_at loads split (drop (i + 1) parts)) in
      omega (arith, ap length all, length-append (folded_numbers cell (before ++ folds_at loads split (take (i + 1) parts))) (folded_numbers cell (folds_at loads split (drop (i + 1) parts))))

  -- a part more is merged
  pub merged : (old part' new : List (Option ℤ)) → IsPermutation (folded_numbers cell (folds_at loads split (take i parts))) old → IsPermutation (fold_numbers cell (fold_of kept.body split part.own)) part' → new ≡ old ++ part'
      → IsPermutation (folded_numbers cell (folds_at loads split (take (i + 1) parts))) new
  merged old part' new was one all = rw (all, numbers_next []) (IsPermutation-append _ _ _ _ was one)

  pub merge_room : (old part' : List (Option ℤ)) → IsPermutation (folded_numbers cell (folds_at loads split (take i parts))) old → IsPermutation (fold_numbers cell (fold_of kept.body split part.own)) part'
      → length (folded_numbers cell (folds_at loads split parts)) ≤ ROW_LIMIT → length old + length part' ≤ ROW_LIMIT
  merge_room old part' was one room =
      let count = length_permutation _ _ (merged old part' (old ++ part') was one refl) in
      omega (arith, count, length-append old part', numbers_fit [])

-- tallies that have taken the parts so far take one part more
module _ (loads : List KeptOf) (split : ℕ) (parts : List Part) (i : ℕ) (part : Part) (kept : KeptOf) (inside : i < length parts) (here : part ≡ get_or parts i part) (is : kept_at loads part.load ≡ Some kept) where
  abbrev fold_here : FoldOf
  fold_here = fold_of kept.body split part.own

  taken_next : (before : List FoldOf) → (before ++ folds_at loads split (take i parts)) ++ fold_here ∷ [] ≡ before ++ folds_at loads split (take (i + 1) parts)
  taken_next before = append_assoc before (folds_at loads split (take i parts)) (fold_here ∷ []) ∙ ap (λ l. before ++ l) (sym (folds_more loads split parts i part kept inside here is))

  pub next_room : (before : List FoldOf) (cells : List Cell) → All (λ cell. length (folded_numbers cell (before ++ folds_at loads split parts)) ≤ ROW_LIMIT) cells
      → All (λ cell. length (folded_numbers cell ((before ++ folds_at loads split (take i parts)) ++ fold_here ∷ [])) ≤ ROW_LIMIT) cells
  next_room before cells room k d within =
      let cell : Cell = get_or cells k d in
      let fits = numbers_fit cell loads split parts i part kept inside here is before in
      let all = room k d within in
      rw (taken_next before) (omega (arith, fits, all))

  pub taken_more : (first old new : TalliesOf) → old ≡ record first { folds = first.folds ++ folds_at loads split (take i parts) } → new ≡ record old { folds = old.folds ++ fold_here ∷ [] }
      → new ≡ record first { folds = first.folds ++ folds_at loads split (take (i + 1) parts) }
  taken_more first old new was taken =
      taken ∙ rw was (ap (λ (fs : List FoldOf). with_folds first fs) (taken_next first.folds))
    where
      with_folds : TalliesOf → List FoldOf → TalliesOf
      with_folds t fs = record t { folds = fs }

-- ---- many cells

module _ (catalog : Catalog) (cells : List Cell) (loads : List KeptOf) (plan : Plan) (rows : List Row) (behind : All (λ cell. LieBehind catalog cell loads plan rows) cells) where
  abbrev no_cell : Cell
  no_cell = record { cube = 0; measure = 0; at = [] }

  pub first_behind : 0 < length cells → LieBehind catalog (get_or cells 0 no_cell) loads plan rows
  first_behind some = behind 0 no_cell some

  pub all_covering : All (λ (fold : FoldOf). IsTrue (list_all (header_covers fold.body.header) cells)) (folds_at loads plan.split plan.parts)
  all_covering k d inside =
      member_all (header_covers (get_or (folds_at loads plan.split plan.parts) k d).body.header) cells
      (λ cell held. (serve catalog cell loads plan rows (All-contains (λ c. LieBehind catalog c loads plan rows) cells cell behind held) k d inside).covering)

  pub all_room : length rows ≤ ROW_LIMIT → All (λ cell. length (folded_numbers cell (folds_at loads plan.split plan.parts)) ≤ ROW_LIMIT) cells
  all_room few k d inside = cell_room catalog (get_or cells k d) loads plan rows (behind k d inside) few

-- tallies of what is folded are those of the cells
pub all_rolled_up : (cells : List Cell) (loads : List KeptOf) (plan : Plan) (part : Part) (kept : KeptOf) (a : Aggregator) (r : Result (List Tallied) OutOfMemory) → part ≡ get_or plan.parts 0 part → kept_at loads part.load ≡ Some kept → a ≡ kept.body.aggregator
    → IfOk r (AllZip (AreFolded a (folds_at loads plan.split plan.parts)) cells)
    → IfOk r (λ tallies. (catalog : Catalog) (rows : List Row) → All (λ cell. LieBehind catalog cell loads plan rows) cells → AllZip (IsRolledUp catalog rows) cells tallies)
all_rolled_up cells loads plan part kept a (Err e) here is kind folded = tt
all_rolled_up cells loads plan part kept a (Ok tallies) here is kind folded = λ catalog rows behind.
    zip_weaker (AreFolded a (folds_at loads plan.split plan.parts)) (IsRolledUp catalog rows) (λ cell. LieBehind catalog cell loads plan rows)
    (λ cell tally lies all. rolled_up catalog cell loads plan rows lies tally (all.aggregator ∙ kind ∙ first_alike catalog cell loads plan rows lies part kept here is) all.rows)
    cells tallies behind folded
