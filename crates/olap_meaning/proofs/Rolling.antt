-- Some offers are rolled up exactly where the decision says so.
use Rattle.std.proofs.Common.{◌≡◌, ◌≢◌, ◌∙◌, ◌<◌, ℕ, true, false, not, List, [], ◌∷◌, Option, None, Some, filter, bytes_eq, refl, sym, ap, subst, arith, inl, inr, eq-eqb}
use Rattle.std.specs.Prelude.{⊤, ◌&&◌, ◌||◌, ◌==◌, All, Contains, IsTrue, MatchOption}
use Rattle.std.specs.List.{list_any}
use Rattle.std.proofs.lemmas.Bool.{and_parts, and_from, not-true, not_from_false, cases_Bool, eqb-true, eqb-false}
use Rattle.std.proofs.lemmas.List.Elements.{All-weaker, All-head, All-filter, All-contains, All-contains_itself, filter_passes}
use Rattle.std.proofs.lemmas.Slice.Eq.{bytes_eq-Decides}
use Rattle.olap_meaning.specs.declared.Aggregator.{Aggregator}
use Rattle.olap_meaning.specs.declared.Aggregator.TheVariants.{Sum, Count, Min, Max, Avg, DistinctCount}
use Rattle.olap_meaning.specs.declared.cells.Allowed.{Allowed}
use Rattle.olap_meaning.specs.declared.cells.Allowed.TheVariants.{Any, Set}
use Rattle.olap_meaning.specs.declared.cells.Cell.{Cell}
use Rattle.olap_meaning.specs.declared.cells.Header.{Header}
use Rattle.olap_meaning.specs.Covering.{allows, names_column, header_covers}
use Rattle.olap_meaning.specs.Rolled.{Offer, header_columns, is_any, is_open_in, allows_in, some_allows, IsLacking, IsHeld, IsRolled, adds_up, is_open_but, fits, fitting_hold, can_split, can_begin, can_roll}
use Rattle.olap_meaning.specs.Sources.{SomeRollExactly}
use Rattle.olap_meaning.proofs.Members.{in_first, any_member, member_any, all_member, member_all, filter_member, any-filter, some_member, map_member, member_map, all_below_at, all_below_from}

-- what an offer that fits another has
pub record IsFitting (cell : Cell) (split : ℕ) (first other : Offer) : Type 0 where
  pub version : other.version ≡ first.version
  pub columns : header_columns other.header ≡ header_columns first.header
  pub covering : header_covers other.header cell ≡ true
  pub opened : is_open_but cell split other.header ≡ true

pub fits_parts : (cell : Cell) (split : ℕ) (first other : Offer) → fits cell split first other ≡ true → IsFitting cell split first other
fits_parts cell split first other fit =
    let outer = and_parts ((other.version == first.version) && bytes_eq (header_columns other.header) (header_columns first.header) && header_covers other.header cell) (is_open_but cell split other.header) fit in
    let middle = and_parts ((other.version == first.version) && bytes_eq (header_columns other.header) (header_columns first.header)) (header_covers other.header cell) outer.0 in
    let inner = and_parts (other.version == first.version) (bytes_eq (header_columns other.header) (header_columns first.header)) middle.0 in
    record {
      version = eqb-true other.version first.version inner.0;
      columns = (bytes_eq-Decides (header_columns other.header) (header_columns first.header)).0 inner.1;
      covering = middle.1;
      opened = outer.1;
    }

pub fits_from : (cell : Cell) (split : ℕ) (first other : Offer) → IsFitting cell split first other → fits cell split first other ≡ true
fits_from cell split first other fit =
    and_from ((other.version == first.version) && bytes_eq (header_columns other.header) (header_columns first.header) && header_covers other.header cell) (is_open_but cell split other.header)
    (and_from ((other.version == first.version) && bytes_eq (header_columns other.header) (header_columns first.header)) (header_covers other.header cell)
    (and_from (other.version == first.version) (bytes_eq (header_columns other.header) (header_columns first.header)) (eq-eqb _ _ fit.version) ((bytes_eq-Decides (header_columns other.header) (header_columns first.header)).1 fit.columns))
    fit.covering)
    fit.opened

pub adds_up_told : (a : Aggregator) → adds_up a ≡ true → a ≢ DistinctCount
adds_up_told a up same = let e = rw same at up in absurd (cc)

pub adds_up_from : (a : Aggregator) → a ≢ DistinctCount → adds_up a ≡ true
adds_up_from Sum other = refl
adds_up_from Count other = refl
adds_up_from Min other = refl
adds_up_from Max other = refl
adds_up_from Avg other = refl
adds_up_from DistinctCount other = absurd (other refl)

-- a column that is opened except for the split, and is not the split
pub open_told : (cell : Cell) (split column : ℕ) (header : Header) → is_open_but cell split header ≡ true → names_column cell column ≡ false → split ≢ column → is_open_in header column ≡ true
open_told cell split column header opened lacked other = member_all (λ own. not (own.0 == column) || is_any own.1) header.columns at_own
  where
    at_own : (own : ℕ × Allowed) → Contains header.columns own → (not (own.0 == column) || is_any own.1) ≡ true
    at_own own held =
        let told : ((own.0 == split) || names_column cell own.0 || is_any own.1) ≡ true = all_member (λ own. (own.0 == split) || names_column cell own.0 || is_any own.1) header.columns own opened held in
        elim (cases_Bool (own.0 == column)) [
          | inr differs ↦ rw differs refl
          | inl same ↦
              let here : own.0 ≡ column = eqb-true own.0 column same in
              elim (cases_Bool (own.0 == split)) [
                | inl split_here ↦ absurd (other (sym (eqb-true own.0 split split_here) ∙ here))
                | inr not_split ↦ let nothing : names_column cell own.0 ≡ false = rw (← here) at lacked in let is : is_any own.1 ≡ true = rw (not_split, nothing) at told in rw (same, is) refl
              ]
        ]

-- a column of one list of columns, as that of an offer
own_column : (header : Header) (columns : List ℕ) (column : ℕ) → header_columns header ≡ columns → Contains columns column → (own : ℕ × Allowed) × Contains header.columns own × (own.0 ≡ column)
own_column header columns column same held = member_map (λ (own : ℕ × Allowed). own.0) header.columns column (subst (λ (cs : List ℕ). Contains cs column) (sym same) held)

-- an opened column allows each value
pub open_allows : (allowed : Allowed) (value : ℕ) → is_any allowed ≡ true → allows allowed value ≡ true
open_allows Any value opened = refl
open_allows (Set values) value opened = absurd (cc)

any_in_open : (header : Header) (column value : ℕ) → (own : ℕ × Allowed) × Contains header.columns own × (own.0 ≡ column) → is_open_in header column ≡ true → allows_in header column value ≡ true
any_in_open header column value (own, held, here) opened =
    let told = all_member (λ own. not (own.0 == column) || is_any own.1) header.columns own opened held in
    let same : (own.0 == column) ≡ true = eq-eqb own.0 column here in
    let is : is_any own.1 ≡ true = rw same at told in
    any_member (λ own. (own.0 == column) && allows own.1 value) header.columns own held (and_from (own.0 == column) (allows own.1 value) same (open_allows own.1 value is))

module _ (size : ℕ → ℕ) (cell : Cell) (offers : List Offer) where
  -- the offers that fit one along a split
  abbrev pub fitting : ℕ → Offer → List Offer
  fitting split first = filter (fits cell split first) offers

  -- where offers can be split, those that fit are rolled up
  unfoldable pub split_rolls : (a : Aggregator) (first : Offer) (split : ℕ) → adds_up a ≡ true → Contains offers first → Contains (header_columns first.header) split → can_split size cell offers first split ≡ true
      → IsRolled a size cell (fitting split first)
  split_rolls a first split up held own can =
      let outer = and_parts (not (names_column cell split) && fits cell split first first) (fitting_hold size cell offers first split) can in
      let inner = and_parts (not (names_column cell split)) (fits cell split first first) outer.0 in
      let passes = filter_passes (fits cell split first) offers in
      let lacked : IsLacking cell (header_columns first.header) split = record { own = own; lacked = not-true (names_column cell split) inner.0 } in
      record {
        some = some_member (fitting split first) first (filter_member (fits cell split first) offers first held inner.1);
        version = first.version;
        one_version = All-weaker (λ other. fits cell split first other ≡ true) (λ other. other.version ≡ first.version) (λ other fit. (fits_parts cell split first other fit).version) (fitting split first) passes;
        columns = header_columns first.header;
        one_list = All-weaker (λ other. fits cell split first other ≡ true) (λ other. header_columns other.header ≡ header_columns first.header) (λ other fit. (fits_parts cell split first other fit).columns) (fitting split first) passes;
        more = (split, lacked);
        covering = All-weaker (λ other. fits cell split first other ≡ true) (λ other. IsTrue (header_covers other.header cell)) (λ other fit. (fits_parts cell split first other fit).covering) (fitting split first) passes;
        split = Some split;
        opened = λ column lacking other_column. All-weaker (λ other. fits cell split first other ≡ true) (λ other. IsTrue (is_open_in other.header column))
            (λ other fit. open_told cell split column other.header (fits_parts cell split first other fit).opened lacking.lacked (λ same. other_column (ap (λ (c : ℕ). Some c) same))) (fitting split first) passes;
        held = record {
          lacking = lacked;
          every = λ value below. any-filter (λ other. allows_in other.header split value) (fits cell split first) offers
              ∙ all_below_at (size split) (λ value. list_any (λ other. fits cell split first other && allows_in other.header split value) offers) value outer.1 below;
        };
        adds_up = adds_up_told a up;
      }

  -- where the decision says so, some are rolled up
  pub roll_some : (a : Aggregator) → can_roll a size cell offers ≡ true → (some : List Offer) × All (Contains offers) some × IsRolled a size cell some
  roll_some a can =
      let parts = and_parts (adds_up a) (list_any (can_begin size cell offers) offers) can in
      let begun = member_any (can_begin size cell offers) offers parts.1 in
      let first : Offer = begun.0 in
      let along = member_any (λ own. can_split size cell offers first own.0) first.header.columns begun.2 in
      let own : ℕ × Allowed = along.0 in (
        fitting own.0 first,
        All-filter (fits cell own.0 first) (Contains offers) offers (All-contains_itself offers),
        split_rolls a first own.0 parts.0 begun.1 (map_member (λ (own : ℕ × Allowed). own.0) first.header.columns own along.1) along.2,
      )

-- some that are rolled up are so along a column of the first: it is one that the cell lacks, each of them fits the first along it, and they hold
-- each of its values together
pub record IsAlong (size : ℕ → ℕ) (cell : Cell) (some : List Offer) (first : Offer) (split : ℕ) : Type 0 where
  pub own : (column : ℕ × Allowed) × Contains first.header.columns column × (column.0 ≡ split)
  pub lacked : names_column cell split ≡ false
  pub each : (other : Offer) → Contains some other → fits cell split first other ≡ true
  pub every : (value : ℕ) → value < size split → some_allows some split value ≡ true

module _ (size : ℕ → ℕ) (cell : Cell) (a : Aggregator) (some : List Offer) (rolled : IsRolled a size cell some) (first : Offer) (held : Contains some first) where
  at_first : (P : Offer → Type 0) → All P some → P first
  at_first P all = All-contains P some first all held

  -- each of some that are rolled up fits the first
  fit : (split : ℕ) → ((column : ℕ) → IsLacking cell rolled.columns column → split ≢ column → All (λ offer. IsTrue (is_open_in offer.header column)) some) → (other : Offer) → Contains some other → fits cell split first other ≡ true
  fit split opened other other_held =
      fits_from cell split first other (record {
        version = All-contains (λ offer. offer.version ≡ rolled.version) some other rolled.one_version other_held ∙ sym (at_first (λ offer. offer.version ≡ rolled.version) rolled.one_version);
        columns = All-contains (λ offer. header_columns offer.header ≡ rolled.columns) some other rolled.one_list other_held ∙ sym (at_first (λ offer. header_columns offer.header ≡ rolled.columns) rolled.one_list);
        covering = All-contains (λ offer. IsTrue (header_covers offer.header cell)) some other rolled.covering other_held;
        opened = member_all (λ own. (own.0 == split) || names_column cell own.0 || is_any own.1) other.header.columns at_own;
      })
    where
      at_own : (own : ℕ × Allowed) → Contains other.header.columns own → ((own.0 == split) || names_column cell own.0 || is_any own.1) ≡ true
      at_own own own_held =
          elim (cases_Bool (own.0 == split)) [
            | inl same ↦ rw same refl
            | inr differs ↦
                elim (cases_Bool (names_column cell own.0)) [
                  | inl named ↦ rw (differs, named) refl
                  | inr lacked ↦
                      let one = All-contains (λ offer. header_columns offer.header ≡ rolled.columns) some other rolled.one_list other_held in
                      let among : Contains rolled.columns own.0 = subst (λ (cs : List ℕ). Contains cs own.0) one (map_member (λ (own : ℕ × Allowed). own.0) other.header.columns own own_held) in
                      let told_open = All-contains (λ offer. IsTrue (is_open_in offer.header own.0)) some other (opened own.0 (record { own = among; lacked = lacked }) (λ e. absurd (eqb-false own.0 split differs (sym e)))) other_held in
                      let told = all_member (λ mine. not (mine.0 == own.0) || is_any mine.1) other.header.columns own told_open own_held in
                      let self : (own.0 == own.0) ≡ true = eq-eqb own.0 own.0 refl in
                      let is : is_any own.1 ≡ true = rw self at told in
                      rw (differs, lacked, is) refl
                ]
          ]

  own_in_first : (split : ℕ) → Contains rolled.columns split → (own : ℕ × Allowed) × Contains first.header.columns own × (own.0 ≡ split)
  own_in_first split = own_column first.header rolled.columns split (at_first (λ offer. header_columns offer.header ≡ rolled.columns) rolled.one_list)

  along_by : (split : Option ℕ) → rolled.split ≡ split → (along : ℕ) × IsAlong size cell some first along
  along_by None is =
      let column : ℕ = rolled.more.0 in
      let open_all = λ (c : ℕ) (lacking : IsLacking cell rolled.columns c). rolled.opened c lacking (λ e. absurd (none_some c (sym is ∙ e))) in (
        column,
        record {
          own = own_in_first column rolled.more.1.own;
          lacked = rolled.more.1.lacked;
          each = fit column (λ c lacking other. open_all c lacking);
          every = λ value below. any_member (λ offer. allows_in offer.header column value) some first held
              (any_in_open first.header column value (own_in_first column rolled.more.1.own) (at_first (λ offer. IsTrue (is_open_in offer.header column)) (open_all column rolled.more.1)));
        },
      )
    where
      none_some : (c : ℕ) → None ≡ Some c → ⊥
      none_some c e = cc
  along_by (Some split) is =
      let held_all : IsHeld size cell rolled.columns some split = subst (λ (s : Option ℕ). MatchOption s ⊤ (IsHeld size cell rolled.columns some)) is rolled.held in (
        split,
        record {
          own = own_in_first split held_all.lacking.own;
          lacked = held_all.lacking.lacked;
          each = fit split (λ c lacking other. rolled.opened c lacking (λ e. absurd (other (some_same c (sym is ∙ e)))));
          every = held_all.every;
        },
      )
    where
      some_same : (c : ℕ) → Some split ≡ Some c → split ≡ c
      some_same c e = cc

  pub rolled_along : (along : ℕ) × IsAlong size cell some first along
  rolled_along = along_by rolled.split refl

-- where some are rolled up, the decision says so
pub some_roll : (size : ℕ → ℕ) (cell : Cell) (offers : List Offer) (a : Aggregator) (some : List Offer) → All (Contains offers) some → IsRolled a size cell some → can_roll a size cell offers ≡ true
some_roll size cell offers a [] members rolled = absurd (omega (arith, rolled.some))
some_roll size cell offers a (first ∷ rest) members rolled = and_from (adds_up a) (list_any (can_begin size cell offers) offers) (adds_up_from a rolled.adds_up) (any_member (can_begin size cell offers) offers first in_offers begun)
  where
    along : (along : ℕ) × IsAlong size cell (first ∷ rest) first along
    along = rolled_along size cell a (first ∷ rest) rolled first (in_first first rest)

    split : ℕ
    split = along.0

    in_offers : Contains offers first
    in_offers = All-head (Contains offers) first rest members

    at_value : (value : ℕ) → value < size split → list_any (λ other. fits cell split first other && allows_in other.header split value) offers ≡ true
    at_value value below =
        let found = member_any (λ offer. allows_in offer.header split value) (first ∷ rest) (along.1.every value below) in
        let other : Offer = found.0 in
        any_member (λ other. fits cell split first other && allows_in other.header split value) offers other (All-contains (Contains offers) (first ∷ rest) other members found.1)
        (and_from (fits cell split first other) (allows_in other.header split value) (along.1.each other found.1) found.2)

    can : can_split size cell offers first split ≡ true
    can =
        and_from (not (names_column cell split) && fits cell split first first) (fitting_hold size cell offers first split)
        (and_from (not (names_column cell split)) (fits cell split first first) (not_from_false (names_column cell split) along.1.lacked) (along.1.each first (in_first first rest)))
        (all_below_from (size split) (λ value. list_any (λ other. fits cell split first other && allows_in other.header split value) offers) at_value)

    begun : can_begin size cell offers first ≡ true
    begun =
        any_member (λ own. can_split size cell offers first own.0) first.header.columns along.1.own.0 along.1.own.1
        (subst (λ (c : ℕ). can_split size cell offers first c ≡ true) (sym along.1.own.2) can)

pub some_roll_exactly : SomeRollExactly
some_roll_exactly aggregator size cell offers = (roll_some size cell offers aggregator, λ found. some_roll size cell offers aggregator found.0 found.1 found.2)
