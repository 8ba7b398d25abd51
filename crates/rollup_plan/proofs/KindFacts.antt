-- Loads by their kinds: which of them are left, and what is picked from those of one kind.
use Rattle.std.proofs.Common.{◌≡◌, ◌∙◌, ◌<◌, ◌≤◌, ℕ, suc, zero, Bool, true, false, not, List, [], ◌∷◌, length, map, filter, bytes_eq, refl, sym, ap, subst, arith, inl, inr, eq-eqb}
use Rattle.std.specs.Prelude.{◌==◌, ◌&&◌, All, Contains, IsTrue}
use Rattle.std.specs.List.{list_any}
use Rattle.std.proofs.lemmas.Bool.{and_from, and_parts, cases_Bool, eqb-true, false_from_ne_true, not-true, not_from_false}
use Rattle.std.proofs.lemmas.List.Elements.{All-contains, All-contains_itself, All-filter, All-weaker, filter_passes}
use Rattle.std.proofs.lemmas.List.Folds.{list_any_none}
use Rattle.std.proofs.lemmas.Slice.Eq.{bytes_eq-Decides}
use Rattle.olap_meaning.specs.declared.cells.Allowed.{Allowed}
use Rattle.olap_meaning.specs.declared.cells.Cell.{Cell}
use Rattle.olap_meaning.specs.Covering.{allows, header_covers, names_column}
use Rattle.olap_meaning.specs.Rolled.{Offer, all_below, allows_in, can_begin, can_split, header_columns, fits, fitting_hold}
use Rattle.olap_meaning.proofs.Members.{All-from_member, all_below_at, all_below_from, any_member, filter_member, in_first, map_member, member_any, member_map}
use Rattle.olap_meaning.proofs.Rolling.{fits_from, fits_parts}
use Rattle.cache_flush.specs.Loads.{KeptOf}
use Rattle.rollup_plan.specs.declared.plan.Plan.{Plan}
use Rattle.rollup_plan.specs.Plans.{offer_of}
use Rattle.rollup_plan.specs.Picks.{ArePicked, ArePicks, IsLeft, IsPicked, IsPickedFrom, Pick, are_kin, can_begin_some, has_value, is_open, kin_splits, kind_splits, some_pick, splits_along}

module _ {X : Type 0} (p : X → Bool) where
  -- what a filter keeps is a member that passes
  pub member_filter : (xs : List X) (x : X) → Contains (filter p xs) x → Contains xs x × (p x ≡ true)
  member_filter xs x held =
      (All-contains (Contains xs) (filter p xs) x (All-filter p (Contains xs) xs (All-contains_itself xs)) held, All-contains (λ y. p y ≡ true) (filter p xs) x (filter_passes p xs) held)

  no_more : (xs : List X) → length (filter p xs) ≤ length xs
  no_more [] = omega arith
  no_more (x ∷ xs) =
      let rest = no_more xs in
      elim (cases_Bool (p x)) [ inl passes ↦ rw passes (omega arith) | inr fails ↦ rw fails (omega arith) ]

  -- a member that fails is left out
  pub fewer : (xs : List X) (x : X) → Contains xs x → p x ≡ false → length (filter p xs) < length xs
  fewer [] x (k, inside, here) fails = absurd (omega arith)
  fewer (y ∷ ys) x (zero, inside, here) fails = let same : y ≡ x = here in let rest = no_more ys in rw (ap p same ∙ fails) (omega arith)
  fewer (y ∷ ys) x (suc k, inside, here) fails =
      let rest = fewer ys x (k, omega arith, here) fails in
      elim (cases_Bool (p y)) [ inl passes ↦ rw passes (omega arith) | inr fails_too ↦ rw fails_too (omega arith) ]

-- loads of one kind
pub kin_parts : (one other : KeptOf) → are_kin one other ≡ true → (other.version ≡ one.version) × (header_columns other.body.header ≡ header_columns one.body.header)
kin_parts one other kin =
    let parts = and_parts (other.version == one.version) (bytes_eq (header_columns other.body.header) (header_columns one.body.header)) kin in
    (eqb-true other.version one.version parts.0, (bytes_eq-Decides (header_columns other.body.header) (header_columns one.body.header)).0 parts.1)

pub kin_from : (one other : KeptOf) → other.version ≡ one.version → header_columns other.body.header ≡ header_columns one.body.header → are_kin one other ≡ true
kin_from one other version columns =
    and_from (other.version == one.version) (bytes_eq (header_columns other.body.header) (header_columns one.body.header)) (eq-eqb other.version one.version version) ((bytes_eq-Decides (header_columns other.body.header) (header_columns one.body.header)).1 columns)

kin_itself : (one : KeptOf) → are_kin one one ≡ true
kin_itself one = kin_from one one refl refl

kin_along : (first one other : KeptOf) → are_kin first one ≡ true → are_kin one other ≡ true → are_kin first other ≡ true
kin_along first one other near next =
    let a = kin_parts first one near in
    let b = kin_parts one other next in
    kin_from first other (b.0 ∙ a.0) (b.1 ∙ a.1)

kin_back : (one other : KeptOf) → are_kin one other ≡ true → are_kin other one ≡ true
kin_back one other near = let a = kin_parts one other near in kin_from other one (sym a.0) (sym a.1)

-- loads of one kind have the columns of the first
pub kin_having : (first : KeptOf) (kin : List KeptOf) (split : ℕ) → All (λ one. IsTrue (are_kin first one)) kin → Contains (header_columns first.body.header) split → All (λ one. Contains (header_columns one.body.header) split) kin
kin_having first kin split alike own =
    All-weaker (λ one. IsTrue (are_kin first one)) (λ one. Contains (header_columns one.body.header) split)
    (λ one near. subst (λ (cs : List ℕ). Contains cs split) (sym (kin_parts first one near).1) own) kin alike

module _ (size : ℕ → ℕ) (cell : Cell) (loads : List KeptOf) (covering : All (λ one. IsTrue (header_covers one.body.header cell)) loads) where
  abbrev offers : List Offer
  offers = map offer_of loads

  -- of loads of one kind, each that is open fits each
  kin_fit : (split : ℕ) (one other : KeptOf) → Contains loads other → are_kin one other ≡ true → is_open cell split other ≡ true → fits cell split (offer_of one) (offer_of other) ≡ true
  kin_fit split one other held near opened =
      let parts = kin_parts one other near in
      fits_from cell split (offer_of one) (offer_of other) (record {
        version = parts.0;
        columns = parts.1;
        covering = All-contains (λ one. IsTrue (header_covers one.body.header cell)) loads other covering held;
        opened = opened;
      })

  -- where a plan is picked, some load can be begun with
  pub picked_begins : (plan : Plan) → IsPicked size cell loads plan → can_begin_some size cell loads ≡ true
  picked_begins plan picked = by parts.picks parts.good parts.some parts.every
    where
      split : ℕ
      split = plan.split

      parts : ArePicked (size split) cell split picked.kin plan.parts
      parts = picked.from.picked

      by : (picks : List Pick) → ArePicks (size split) cell split picked.kin picks → 0 < length picks → ((value : ℕ) → value < size split → IsTrue (some_pick picks value)) → can_begin_some size cell loads ≡ true
      by [] good some every = absurd (omega arith)
      by (pick ∷ rest) good some every = any_member (can_begin size cell offers) offers (offer_of first) (map_member offer_of loads first (in_loads first (own first_held))) begins
        where
          first : KeptOf
          first = pick.kept

          first_held : Contains (pick ∷ rest) pick
          first_held = in_first pick rest

          own : {one : Pick} → Contains (pick ∷ rest) one → Contains picked.kin one.kept
          own {one} held = All-contains (λ one. Contains picked.kin one.kept) (pick ∷ rest) one good.own held

          in_loads : (one : KeptOf) → Contains picked.kin one → Contains loads one
          in_loads one held = All-contains (Contains loads) picked.kin one picked.known held

          near : (one : KeptOf) → Contains picked.kin one → are_kin picked.first one ≡ true
          near one held = All-contains (λ kept. IsTrue (are_kin picked.first kept)) picked.kin one picked.alike held

          fit : (one : Pick) → Contains (pick ∷ rest) one → fits cell split (offer_of first) (offer_of one.kept) ≡ true
          fit one held =
              kin_fit split first one.kept (in_loads one.kept (own held)) (kin_along first picked.first one.kept (kin_back picked.first first (near first (own first_held))) (near one.kept (own held)))
              (All-contains (λ one. IsTrue (is_open cell split one.kept)) (pick ∷ rest) one good.opened held)

          at_value : (value : ℕ) → value < size split → list_any (λ other. fits cell split (offer_of first) other && allows_in other.header split value) offers ≡ true
          at_value value below =
              let found = member_any (λ one. allows one.own value) (pick ∷ rest) (every value below) in
              let one : Pick = found.0 in
              let allowed = All-contains (λ one. (value : ℕ) → IsTrue (allows one.own value) → IsTrue (allows_in one.kept.body.header split value)) (pick ∷ rest) one good.within found.1 value found.2 in
              any_member (λ other. fits cell split (offer_of first) other && allows_in other.header split value) offers (offer_of one.kept) (map_member offer_of loads one.kept (in_loads one.kept (own found.1)))
              (and_from (fits cell split (offer_of first) (offer_of one.kept)) (allows_in one.kept.body.header split value) (fit one found.1) allowed)

          can : can_split size cell offers (offer_of first) split ≡ true
          can =
              and_from (not (names_column cell split) && fits cell split (offer_of first) (offer_of first)) (fitting_hold size cell offers (offer_of first) split)
              (and_from (not (names_column cell split)) (fits cell split (offer_of first) (offer_of first)) (not_from_false (names_column cell split) picked.from.lacked) (fit pick first_held))
              (all_below_from (size split) (λ value. list_any (λ other. fits cell split (offer_of first) other && allows_in other.header split value) offers) at_value)

          begins : can_begin size cell offers (offer_of first) ≡ true
          begins =
              let having : Contains (header_columns first.body.header) split = subst (λ (cs : List ℕ). Contains cs split) (sym (kin_parts picked.first first (near first (own first_held))).1) picked.having in
              let mine = member_map (λ (own : ℕ × Allowed). own.0) first.body.header.columns split having in
              any_member (λ own. can_split size cell offers (offer_of first) own.0) first.body.header.columns mine.0 mine.1 (subst (λ (c : ℕ). can_split size cell offers (offer_of first) c ≡ true) (sym mine.2) can)

  module _ (rest : List KeptOf) (left : IsLeft size cell loads rest) where
    in_all : (one : KeptOf) → Contains rest one → Contains loads one
    in_all one held = All-contains (Contains loads) rest one left.known held

    module _ (first : KeptOf) (there : Contains rest first) where
      abbrev kin : List KeptOf
      kin = filter (are_kin first) rest

      abbrev later : List KeptOf
      later = filter (λ one. not (are_kin first one)) rest

      -- a load of the kind that can be begun with has a split
      splits : (one : KeptOf) → Contains kin one → can_begin size cell offers (offer_of one) ≡ true → kin_splits size cell first kin ≡ true
      splits one held can =
          let one_near = member_filter (are_kin first) rest one held in
          let begun = member_any (λ own. can_split size cell offers (offer_of one) own.0) one.body.header.columns can in
          let own : ℕ × Allowed = begun.0 in
          let outer = and_parts (not (names_column cell own.0) && fits cell own.0 (offer_of one) (offer_of one)) (fitting_hold size cell offers (offer_of one) own.0) begun.2 in
          let inner = and_parts (not (names_column cell own.0)) (fits cell own.0 (offer_of one) (offer_of one)) outer.0 in
          let same : header_columns one.body.header ≡ header_columns first.body.header = (kin_parts first one one_near.1).1 in
          let among : Contains (header_columns first.body.header) own.0 = subst (λ (cs : List ℕ). Contains cs own.0) same (map_member (λ (own : ℕ × Allowed). own.0) one.body.header.columns own begun.1) in
          let mine = member_map (λ (own : ℕ × Allowed). own.0) first.body.header.columns own.0 among in
          let opened : is_open cell own.0 one ≡ true = (fits_parts cell own.0 (offer_of one) (offer_of one) inner.1).opened in
          let along : splits_along size cell kin own.0 ≡ true =
          and_from (not (names_column cell own.0)) (kind_splits (size own.0) cell own.0 kin) inner.0
          (and_from (list_any (is_open cell own.0) kin) (all_below (size own.0) (λ value. list_any (has_value cell own.0 value) kin)) (any_member (is_open cell own.0) kin one held opened)
          (all_below_from (size own.0) (λ value. list_any (has_value cell own.0 value) kin) (at_value own.0 one_near.0 one_near.1 outer.1))) in
          any_member (λ own. splits_along size cell kin own.0) first.body.header.columns mine.0 mine.1 (subst (λ (c : ℕ). splits_along size cell kin c ≡ true) (sym mine.2) along)
        where
          at_value : (split : ℕ) → Contains rest one → are_kin first one ≡ true → fitting_hold size cell offers (offer_of one) split ≡ true → (value : ℕ) → value < size split → list_any (has_value cell split value) kin ≡ true
          at_value split one_there near hold value below =
              let some = all_below_at (size split) (λ value. list_any (λ other. fits cell split (offer_of one) other && allows_in other.header split value) offers) value hold below in
              let found = member_any (λ other. fits cell split (offer_of one) other && allows_in other.header split value) offers some in
              let load = member_map offer_of loads found.0 found.1 in
              let other : KeptOf = load.0 in
              let told : (fits cell split (offer_of one) (offer_of other) && allows_in other.body.header split value) ≡ true = subst (λ (o : Offer). (fits cell split (offer_of one) o && allows_in o.header split value) ≡ true) (sym load.2) found.2 in
              let both = and_parts (fits cell split (offer_of one) (offer_of other)) (allows_in other.body.header split value) told in
              let fit = fits_parts cell split (offer_of one) (offer_of other) both.0 in
              let next : are_kin one other ≡ true = kin_from one other fit.version fit.columns in
              let other_there = left.kept one other one_there load.1 next in
              any_member (has_value cell split value) kin other (filter_member (are_kin first) rest other other_there (kin_along first one other near next))
              (and_from (is_open cell split other) (allows_in other.body.header split value) fit.opened both.1)

      -- where the kind has no plan, the others are left
      pub left_later : kin_splits size cell first kin ≡ false → IsLeft size cell loads later
      left_later none = record {
        known = All-filter (λ one. not (are_kin first one)) (Contains loads) rest left.known;
        kept = kept;
        may = may;
      }
        where
          kept : (one other : KeptOf) → Contains later one → Contains loads other → are_kin one other ≡ true → Contains later other
          kept one other held other_held near =
              let told = member_filter (λ one. not (are_kin first one)) rest one held in
              let apart : are_kin first other ≡ false = false_from_ne_true (are_kin first other) (λ same. let one_near = kin_along first other one same (kin_back one other near) in let e = not-true (are_kin first one) told.1 in cc) in
              filter_member (λ one. not (are_kin first one)) rest other (left.kept one other told.0 other_held near) (not_from_false (are_kin first other) apart)

          may : (one : KeptOf) → Contains loads one → can_begin size cell offers (offer_of one) ≡ true → Contains later one
          may one held can =
              let one_there = left.may one held can in
              elim (cases_Bool (are_kin first one)) [
                | inl near ↦ let some = splits one (filter_member (are_kin first) rest one one_there near) can in absurd (cc)
                | inr apart ↦ filter_member (λ one. not (are_kin first one)) rest one one_there (not_from_false (are_kin first one) apart)
              ]

      pub fewer_later : length later < length rest
      fewer_later = fewer (λ one. not (are_kin first one)) rest first there (rw (kin_itself first) refl)

      -- where it has one, that is picked
      pub first_picked : (plan : Plan) → All (λ one. one.version ≤ first.version) rest → Contains (header_columns first.body.header) plan.split → IsPickedFrom size cell kin plan → IsPicked size cell loads plan
      first_picked plan newest having from = record {
        first = first;
        kin = kin;
        known = All-filter (are_kin first) (Contains loads) rest left.known;
        alike = filter_passes (are_kin first) rest;
        having = having;
        from = from;
        newest = All-from_member (λ kept. IsTrue (can_begin size cell (map offer_of loads) (offer_of kept)) → kept.version ≤ first.version) loads
            (λ one held can. All-contains (λ one. one.version ≤ first.version) rest one newest (left.may one held can));
      }

  -- at first all are left
  pub all_left : IsLeft size cell loads loads
  all_left = record {
    known = All-contains_itself loads;
    kept = λ one other held other_held near. other_held;
    may = λ one held can. held;
  }

  -- where none is left, none can be begun with
  pub none_left : (rest : List KeptOf) → length rest ≡ 0 → IsLeft size cell loads rest → can_begin_some size cell loads ≡ false
  none_left rest empty left =
      list_any_none (can_begin size cell offers) offers
      (All-from_member (λ offer. can_begin size cell offers offer ≡ false) offers
      (λ offer held. false_from_ne_true (can_begin size cell offers offer)
      (λ can.
      let load = member_map offer_of loads offer held in
      let some = left.may load.0 load.1 (subst (λ (o : Offer). can_begin size cell offers o ≡ true) (sym load.2) can) in
      omega (arith, some.1))))
