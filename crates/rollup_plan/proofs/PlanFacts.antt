-- A plan that is picked from kept loads of a shelf is one for the cell.
use Rattle.std.proofs.Common.{◌≡◌, ◌∙◌, ◌<◌, ◌≤◌, ℕ, true, List, [], ◌∷◌, Option, Some, not, length, map, filter_map, eq-eqb, refl, sym, ap, subst, arith, zero, suc, ◌⊎◌, inl, inr}
use Rattle.std.specs.Prelude.{◌&&◌, ◌==◌, All, Contains, IsTrue, option_map, slice_get}
use Rattle.std.specs.List.{list_any}
use Rattle.std.proofs.lemmas.Bool.{and_parts, eqb-true, and_from, false_from_ne_true, not_from_false}
use Rattle.std.proofs.lemmas.List.{length-map}
use Rattle.std.proofs.lemmas.List.Elements.{All-contains, All-head, All-map, All-tail, All-weaker}
use Rattle.std.proofs.lemmas.Option.{slice_get-map, slice_get_read}
use Rattle.olap_meaning.specs.declared.Aggregator.{Aggregator}
use Rattle.olap_meaning.specs.declared.cells.Cell.{Cell}
use Rattle.olap_meaning.specs.Covering.{allows, among, header_covers, names_column}
use Rattle.olap_meaning.specs.Rolled.{IsRolled, Offer, adds_up, allows_in, can_begin, can_roll, header_columns, is_open_but, is_open_in}
use Rattle.olap_meaning.proofs.Members.{All-from_member, any_member, map_member, member_any, member_map}
use Rattle.olap_meaning.proofs.Rolling.{adds_up_told, open_told}
use Rattle.olap_meaning.proofs.Lists.{any_map, contains_at, mapped_from}
use Rattle.segment_header.specs.Headers.{is_header, is_set}
use Rattle.cache_flush.specs.Loads.{KeptOf, are_different, is_candidate}
use Rattle.cache_flush.specs.Shuts.{is_live}
use Rattle.cache_flush.proofs.ListFacts.{map_mapped}
use Rattle.rollup_plan.specs.declared.plan.Part.{Part}
use Rattle.rollup_plan.specs.declared.plan.Plan.{Plan}
use Rattle.rollup_plan.specs.Plans.{IsPlanned, MakeCell, Share, is_candidate_at, kept_at, offer_of, offers_at, shares_of}
use Rattle.rollup_plan.specs.Picks.{ArePicked, IsPicked, Pick, are_kin, can_begin_some, is_open, part_of, HasOwn}
use Rattle.rollup_plan.proofs.KindFacts.{kin_parts}
use Rattle.rollup_plan.proofs.ListFacts.{found_passes}

-- what is made of numbers that are all known
made_of : {X Y : Type 0} (f : ℕ → Option X) (g : X → Y) (numbers : List ℕ) (xs : List X) → map Some xs ≡ map f numbers → filter_map (λ number. option_map g (f number)) numbers ≡ map g xs
made_of f g [] [] same = refl
made_of f g [] (x ∷ xs) same = absurd (cc)
made_of f g (n ∷ ns) [] same = absurd (cc)
made_of f g (n ∷ ns) (x ∷ xs) same =
    let first : f n ≡ Some x = cc in
    let rest : map Some xs ≡ map f ns = cc in
    rw (first, made_of f g ns xs rest) refl

-- what is made of a list through a map, where each gives something
made_through : {X Y Z : Type 0} (f : Y → Option Z) (g : X → Y) (h : X → Z) (xs : List X) → All (λ x. f (g x) ≡ Some (h x)) xs → filter_map f (map g xs) ≡ map h xs
made_through f g h [] all = refl
made_through f g h (x ∷ xs) all =
    rw (All-head (λ x. f (g x) ≡ Some (h x)) x xs all, made_through f g h xs (All-tail (λ x. f (g x) ≡ Some (h x)) x xs all)) refl

abbrev share_of : Pick → Share
share_of pick = record { header = pick.kept.body.header; own = pick.own }

-- things of different numbers
all_differ : {X : Type 0} (f : X → ℕ) (xs : List X) → ((i j : ℕ) (one other : X) → i < j → slice_get xs i ≡ Some one → slice_get xs j ≡ Some other → f one ≡ f other → ⊥) → are_different (map f xs) ≡ true
all_differ f [] apart = refl
all_differ {X} f (x ∷ xs) apart =
    and_from (not (among (map f xs) (f x))) (are_different (map f xs)) (not_from_false (among (map f xs) (f x)) (false_from_ne_true (among (map f xs) (f x)) twice)) (all_differ f xs (λ i j one other less at_i at_j. apart (suc i) (suc j) one other (omega (arith, less)) at_i at_j))
  where
    twice : among (map f xs) (f x) ≡ true → ⊥
    twice there =
        let number = member_any (λ n. n == f x) (map f xs) there in
        let y = member_map f xs number.0 number.1 in
        let at = slice_get_read xs (length xs) y.1.0 y.0 refl y.1.1 (sym y.1.2) in
        apart zero (suc y.1.0) x y.0 (omega arith) refl at (sym (y.2 ∙ eqb-true number.0 (f x) number.2))

one_differs : {X : Type 0} (f : X → ℕ) (xs : List X) → length xs ≡ 1 → are_different (map f xs) ≡ true
one_differs f [] one = absurd (omega arith)
one_differs f (x ∷ []) one = refl
one_differs f (x ∷ y ∷ zs) one = absurd (omega arith)

-- offers are rolled up along a split, in a version
record Rolls (a : Aggregator) (size : ℕ → ℕ) (cell : Cell) (split version : ℕ) (offers : List Offer) : Type 0 where
  rolled : IsRolled a size cell offers
  along : rolled.split ≡ Some split
  at : rolled.version ≡ version

module _ (loads : List KeptOf) (numbers : List ℕ) (kept : List KeptOf) (there : map Some kept ≡ map (kept_at loads) numbers) where
  pub offers_same : offers_at loads numbers ≡ map offer_of kept
  offers_same = made_of (kept_at loads) offer_of numbers kept there

  -- some can be begun with where the offers of the numbers are rolled up
  pub roll_same : (a : Aggregator) (size : ℕ → ℕ) (cell : Cell) → adds_up a ≡ true → can_begin_some size cell kept ≡ can_roll a size cell (offers_at loads numbers)
  roll_same a size cell up = rw (up, offers_same) refl

  number_of : (one : KeptOf) → Contains kept one → (number : ℕ) × Contains numbers number × (kept_at loads number ≡ Some one)
  number_of one held = member_map (kept_at loads) numbers (Some one) (subst (λ (xs : List (Option KeptOf)). Contains xs (Some one)) there (map_member Some kept one held))

  load_is : (one : KeptOf) (number : ℕ) → kept_at loads number ≡ Some one → one.load ≡ number
  load_is one number at = eqb-true one.load number (found_passes (λ k. k.load == number) loads one at).1

  on_shelf : (one : KeptOf) → Contains kept one → kept_at loads one.load ≡ Some one
  on_shelf one held = let number = number_of one held in ap (kept_at loads) (load_is one number.0 number.2) ∙ number.2

  numbered : (one : KeptOf) → Contains kept one → among numbers one.load ≡ true
  numbered one held =
      let number = number_of one held in
      any_member (λ n. n == one.load) numbers number.0 number.1 (eq-eqb number.0 one.load (sym (load_is one number.0 number.2)))

  -- candidates cover the cell
  pub candidates_cover : (cell : Cell) → All (λ number. IsTrue (is_candidate_at loads cell number)) numbers → All (λ one. IsTrue (header_covers one.body.header cell)) kept
  candidates_cover cell all = All-from_member (λ one. IsTrue (header_covers one.body.header cell)) kept covers
    where
      covers : (one : KeptOf) → Contains kept one → header_covers one.body.header cell ≡ true
      covers one held =
          let number = number_of one held in
          let told = All-contains (λ number. IsTrue (is_candidate_at loads cell number)) numbers number.0 all number.1 in
          let candidate : is_candidate one cell ≡ true = rw number.2 at told in
          let outer = and_parts (header_covers one.body.header cell && list_any (λ column. not (names_column cell column.0)) one.body.header.columns) (is_live one.shut cell) candidate in
          (and_parts (header_covers one.body.header cell) (list_any (λ column. not (names_column cell column.0)) one.body.header.columns) outer.0).0

  module _ (a : Aggregator) (size : ℕ → ℕ) (cell : Cell) (plan : Plan) (up : adds_up a ≡ true) (covering : All (λ one. IsTrue (header_covers one.body.header cell)) kept) (picked : IsPicked size cell kept plan) where
    abbrev split : ℕ
    split = plan.split

    abbrev parts : ArePicked (size split) cell split picked.kin plan.parts
    parts = picked.from.picked

    abbrev picks : List Pick
    picks = parts.picks

    kin_held : (pick : Pick) → Contains picks pick → Contains picked.kin pick.kept
    kin_held pick held = All-contains (λ pick. Contains picked.kin pick.kept) picks pick parts.good.own held

    kept_held : (pick : Pick) → Contains picks pick → Contains kept pick.kept
    kept_held pick held = All-contains (Contains kept) picked.kin pick.kept picked.known (kin_held pick held)

    near : (pick : Pick) → Contains picks pick → (pick.kept.version ≡ picked.first.version) × (header_columns pick.kept.body.header ≡ header_columns picked.first.body.header)
    near pick held = kin_parts picked.first pick.kept (All-contains (λ kept. IsTrue (are_kin picked.first kept)) picked.kin pick.kept picked.alike (kin_held pick held))

    covers : (pick : Pick) → Contains picks pick → header_covers pick.kept.body.header cell ≡ true
    covers pick held = All-contains (λ one. IsTrue (header_covers one.body.header cell)) kept pick.kept covering (kept_held pick held)

    has_split : (pick : Pick) → Contains picks pick → Contains (header_columns pick.kept.body.header) split
    has_split pick held = subst (λ (cs : List ℕ). Contains cs split) (sym (near pick held).1) picked.having

    -- what holds of each pick
    each : {Y : Type 0} (P : Y → Type 0) (f : Pick → Y) → ((pick : Pick) → Contains picks pick → P (f pick)) → All P (map f picks)
    each P f told = All-map P f picks (All-from_member (λ pick. P (f pick)) picks told)

    abbrev offer_at : Pick → Offer
    offer_at pick = offer_of pick.kept

    allowed : (value : ℕ) → value < size split → (pick : Pick) × Contains picks pick × (allows_in pick.kept.body.header split value ≡ true)
    allowed value below =
        let found = member_any (λ pick. allows pick.own value) picks (parts.every value below) in
        (found.0, found.1, All-contains (λ pick. (value : ℕ) → IsTrue (allows pick.own value) → IsTrue (allows_in pick.kept.body.header split value)) picks found.0 parts.good.within found.1 value found.2)

    rolls : Rolls a size cell split picked.first.version (map offer_at picks)
    rolls = record {
      rolled = record {
        some = omega (arith, parts.some, length-map picks offer_at);
        version = picked.first.version;
        one_version = each (λ offer. offer.version ≡ picked.first.version) offer_at (λ pick held. (near pick held).0);
        columns = header_columns picked.first.body.header;
        one_list = each (λ offer. header_columns offer.header ≡ header_columns picked.first.body.header) offer_at (λ pick held. (near pick held).1);
        more = (split, record { own = picked.having; lacked = picked.from.lacked });
        covering = each (λ offer. IsTrue (header_covers offer.header cell)) offer_at covers;
        split = Some split;
        opened = λ column lacking other. each (λ offer. IsTrue (is_open_in offer.header column)) offer_at
            (λ pick held. open_told cell split column pick.kept.body.header (All-contains (λ pick. IsTrue (is_open cell split pick.kept)) picks pick parts.good.opened held) lacking.lacked (λ same. other (ap (λ (c : ℕ). Some c) same)));
        held = record {
          lacking = record { own = picked.having; lacked = picked.from.lacked };
          every = λ value below. let one = allowed value below in any_member (λ offer. allows_in offer.header split value) (map offer_at picks) (offer_at one.0) (map_member offer_at picks one.0 one.1) one.2;
        };
        adds_up = adds_up_told a up;
      };
      along = refl;
      at = refl;
    }

    made : MakeCell size cell split (map share_of picks)
    made = record {
      lacked = picked.from.lacked;
      formed = each (λ share. IsTrue (is_header share.header)) share_of (λ pick held. All-contains (λ pick. IsTrue (is_header pick.kept.body.header)) picks pick parts.good.formed held);
      covering = each (λ share. IsTrue (header_covers share.header cell)) share_of covers;
      having = each (λ share. Contains (header_columns share.header) split) share_of has_split;
      opened = each (λ share. IsTrue (is_open_but cell split share.header)) share_of (λ pick held. All-contains (λ pick. IsTrue (is_open cell split pick.kept)) picks pick parts.good.opened held);
      sets = each (λ share. IsTrue (is_set share.own)) share_of (λ pick held. All-contains (λ pick. IsTrue (is_set pick.own)) picks pick parts.good.sets held);
      within = each (λ share. (value : ℕ) → IsTrue (allows share.own value) → IsTrue (allows_in share.header split value)) share_of
          (λ pick held. All-contains (λ pick. (value : ℕ) → IsTrue (allows pick.own value) → IsTrue (allows_in pick.kept.body.header split value)) picks pick parts.good.within held);
      apart = λ i j one other less at_i at_j value below has_it.
          let first = mapped_from share_of (slice_get picks i) one (sym (slice_get-map share_of picks i) ∙ at_i) in
          let second = mapped_from share_of (slice_get picks j) other (sym (slice_get-map share_of picks j) ∙ at_j) in
          let own_it = ap (λ (share : Share). allows share.own value) first.2 ∙ has_it in
          let allowed_there = All-contains (λ pick. (value : ℕ) → IsTrue (allows pick.own value) → IsTrue (allows_in pick.kept.body.header split value)) picks first.0 parts.good.within (contains_at picks i first.0 first.1) value own_it in
          ap (λ (share : Share). allows share.own value) (sym second.2) ∙ parts.good.fresh i j first.0 second.0 less first.1 second.1 value below allowed_there;
      every = λ value below. any_map (λ share. allows share.own value) share_of picks ∙ parts.every value below;
    }

    known : All (λ pick. kept_at loads pick.kept.load ≡ Some pick.kept) picks
    known = All-from_member (λ pick. kept_at loads pick.kept.load ≡ Some pick.kept) picks (λ pick held. on_shelf pick.kept (kept_held pick held))

    shares_are : shares_of loads plan.parts ≡ map share_of picks
    shares_are =
        ap (shares_of loads) (sym parts.same)
        ∙ made_through (λ part. option_map (λ kept. record { header = kept.body.header; own = part.own }) (kept_at loads part.load)) part_of share_of picks
        (All-weaker (λ pick. kept_at loads pick.kept.load ≡ Some pick.kept)
        (λ pick. option_map (λ kept. record { header = kept.body.header; own = pick.own }) (kept_at loads pick.kept.load) ≡ Some (share_of pick)) (λ pick at. rw at refl) picks known)

    offers_are : offers_at loads (map (λ part. part.load) plan.parts) ≡ map offer_at picks
    offers_are =
        ap (λ (ps : List Part). offers_at loads (map (λ part. part.load) ps)) (sym parts.same)
        ∙ ap (offers_at loads) (map_mapped (λ part. part.load) part_of picks)
        ∙ made_through (λ number. option_map offer_of (kept_at loads number)) (λ pick. pick.kept.load) offer_at picks (All-weaker (λ pick. kept_at loads pick.kept.load ≡ Some pick.kept) (λ pick. option_map offer_of (kept_at loads pick.kept.load) ≡ Some (offer_at pick)) (λ pick at. rw at refl) picks known)

    -- picks of one load are one pick
    apart : (i j : ℕ) (one other : Pick) → i < j → slice_get picks i ≡ Some one → slice_get picks j ≡ Some other → HasOwn (size split) other → one.kept.load ≡ other.kept.load → ⊥
    apart i j one other less at_i at_j (value, below, own_it) same =
        let other_held = contains_at picks j other at_j in
        let one_at = on_shelf one.kept (kept_held one (contains_at picks i one at_i)) in
        let other_at = on_shelf other.kept (kept_held other other_held) in
        let is : Some one.kept ≡ Some other.kept = sym one_at ∙ ap (kept_at loads) same ∙ other_at in
        let same_load : other.kept ≡ one.kept = cc in
        let allowed_there = All-contains (λ pick. (value : ℕ) → IsTrue (allows pick.own value) → IsTrue (allows_in pick.kept.body.header split value)) picks other parts.good.within other_held value own_it in
        let none = parts.good.fresh i j one other less at_i at_j value below (subst (λ (kept : KeptOf). allows_in kept.body.header split value ≡ true) same_load allowed_there) in
        let e = sym none ∙ own_it in cc

    once : are_different (map (λ pick. pick.kept.load) picks) ≡ true
    once = by picks parts.needed (λ i j one other less at_i at_j. apart i j one other less at_i at_j)
      where
        by : (some : List Pick) → (length some ≡ 1) ⊎ All (HasOwn (size split)) some
            → ((i j : ℕ) (one other : Pick) → i < j → slice_get some i ≡ Some one → slice_get some j ≡ Some other → HasOwn (size split) other → one.kept.load ≡ other.kept.load → ⊥)
            → are_different (map (λ pick. pick.kept.load) some) ≡ true
        by some (inl alone) other = one_differs (λ (pick : Pick). pick.kept.load) some alone
        by some (inr own) other = all_differ (λ (pick : Pick). pick.kept.load) some
            (λ i j one next less at_i at_j same. other i j one next less at_i at_j (All-contains (HasOwn (size split)) some next own (contains_at some j next at_j)) same)

    needed : (length plan.parts ≡ 1) ⊎ All (λ part. (value : ℕ) × (value < size split) × IsTrue (allows part.own value)) plan.parts
    needed =
        elim parts.needed [
          | inl alone ↦ inl (ap length (sym parts.same) ∙ length-map picks part_of ∙ alone)
          | inr own ↦ inr (subst (All (λ part. (value : ℕ) × (value < size split) × IsTrue (allows part.own value))) parts.same (All-map (λ part. (value : ℕ) × (value < size split) × IsTrue (allows part.own value)) part_of picks own))
        ]

    pub picked_planned : IsPlanned a size cell loads numbers plan
    picked_planned =
        let all = subst (Rolls a size cell split picked.first.version) (sym offers_are) rolls in
        record {
          known = subst (All (λ part. IsTrue (among numbers part.load))) parts.same (each (λ part. IsTrue (among numbers part.load)) part_of (λ pick held. numbered pick.kept (kept_held pick held)));
          rolls = record {
            kept = ap length shares_are ∙ length-map picks share_of ∙ sym (length-map picks part_of) ∙ ap length parts.same;
            rolled = all.rolled;
            along = all.along;
            made = subst (MakeCell size cell split) (sym shares_are) made;
          };
          newest = subst (λ (offers : List Offer). All (λ offer. IsTrue (can_begin size cell offers offer) → offer.version ≤ all.rolled.version) offers) (sym offers_same)
              (All-map (λ offer. IsTrue (can_begin size cell (map offer_of kept) offer) → offer.version ≤ all.rolled.version) offer_of kept
              (All-weaker (λ one. IsTrue (can_begin size cell (map offer_of kept) (offer_of one)) → one.version ≤ picked.first.version) (λ one. IsTrue (can_begin size cell (map offer_of kept) (offer_of one)) → one.version ≤ all.rolled.version)
              (λ one told can. let le = told can in let at = all.at in omega (arith, le, at)) kept picked.newest));
          once = ap are_different (ap (map (λ part. part.load)) (sym parts.same) ∙ map_mapped (λ part. part.load) part_of picks) ∙ once;
          needed = needed;
        }
