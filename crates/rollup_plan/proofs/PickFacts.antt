-- Kept loads that are picked one after another.
use Rattle.std.proofs.Common.{◌≡◌, ◌∙◌, ◌<◌, ◌≤◌, ◌++◌, ℕ, zero, suc, Bool, true, false, not, List, [], ◌∷◌, Some, length, map, filter, get_or, refl, sym, ap, arith, inl, inr}
use Rattle.std.proofs.Math.Bool.{or-false}
use Rattle.std.specs.Prelude.{◌==◌, ◌&&◌, ◌||◌, All, Contains, IsTrue, nat_lt, slice_get}
use Rattle.std.specs.List.{list_all, list_any}
use Rattle.std.proofs.lemmas.Bool.{and_from, and_left, and_parts, and_right, cases_lt, eq-eqb, eqb-true, lt-ltb, ltb-true, ne_eqb, or_left, or_parts}
use Rattle.std.proofs.lemmas.List.{map-append}
use Rattle.std.proofs.lemmas.List.Elements.{All-contains, All-cons, All-nil, All-push, All-weaker, Contains-push, Contains-append_left}
use Rattle.std.proofs.lemmas.List.Folds.{list_any-append, list_any_none}
use Rattle.std.proofs.lemmas.Option.{slice_get_within}
use Rattle.olap_meaning.specs.declared.cells.Allowed.{Allowed}
use Rattle.olap_meaning.specs.declared.cells.Allowed.TheVariants.{Any, Set}
use Rattle.olap_meaning.specs.declared.cells.Cell.{Cell}
use Rattle.olap_meaning.specs.Covering.{allows, among}
use Rattle.olap_meaning.specs.Legal.{rise}
use Rattle.olap_meaning.specs.Rolled.{all_below, allows_in, is_any, is_open_in}
use Rattle.olap_meaning.proofs.Members.{all_below_fails, all_below_from, any_member, member_any}
use Rattle.olap_meaning.proofs.Rolling.{open_allows}
use Rattle.olap_meaning.proofs.Lists.{contains_at}
use Rattle.segment_header.specs.Headers.{is_header, is_set}
use Rattle.cache_flush.specs.Loads.{KeptOf}
use Rattle.rollup_plan.specs.declared.plan.Part.{Part}
use Rattle.rollup_plan.specs.Picks.{ArePicked, ArePickedOf, ArePicks, HasOwn, Pick, has_value, is_free, is_marked, is_open, is_whole, kind_splits, listed, part_of, part_with, some_pick}
use Rattle.rollup_plan.proofs.ListFacts.{among-filter, get_before, get_pushed, rise-filter}

or_more : (a b : Bool) → (a || (not a && b)) ≡ (a || b)
or_more true b = refl
or_more false b = refl

-- what a set lists is what it allows
pub lists_allowed : (allowed : Allowed) (value : ℕ) → is_any allowed ≡ false → among (listed allowed) value ≡ allows allowed value
lists_allowed Any value not_any = absurd (cc)
lists_allowed (Set values) value not_any = refl

rise_listed : (allowed : Allowed) → is_set allowed ≡ true → rise (listed allowed) ≡ true
rise_listed Any set = refl
rise_listed (Set values) set = (and_parts (nat_lt 0 (length values)) (rise values) set).1

module _ (size : ℕ) (cell : Cell) (split : ℕ) (loads : List KeptOf) where
  -- where parts are picked, the loads are rolled up
  pub picked_splits : (parts : List Part) → ArePicked size cell split loads parts → kind_splits size cell split loads ≡ true
  picked_splits parts picked = by picked.picks picked.good picked.some picked.every
    where
      by : (picks : List Pick) → ArePicks size cell split loads picks → 0 < length picks → ((value : ℕ) → value < size → IsTrue (some_pick picks value)) → kind_splits size cell split loads ≡ true
      by [] good some every = absurd (omega arith)
      by (first ∷ rest) good some every =
          and_from (list_any (is_open cell split) loads) (all_below size (λ value. list_any (has_value cell split value) loads))
          (any_member (is_open cell split) loads first.kept (good.own 0 first (omega arith)) (good.opened 0 first (omega arith)))
          (all_below_from size (λ value. list_any (has_value cell split value) loads) at_value)
        where
          at_value : (value : ℕ) → value < size → list_any (has_value cell split value) loads ≡ true
          at_value value below =
              let found = member_any (λ pick. allows pick.own value) (first ∷ rest) (every value below) in
              let pick : Pick = found.0 in
              let opened = All-contains (λ pick. IsTrue (is_open cell split pick.kept)) (first ∷ rest) pick good.opened found.1 in
              let allowed = All-contains (λ pick. (value : ℕ) → IsTrue (allows pick.own value) → IsTrue (allows_in pick.kept.body.header split value)) (first ∷ rest) pick good.within found.1 value found.2 in
              any_member (has_value cell split value) loads pick.kept (All-contains (λ pick. Contains loads pick.kept) (first ∷ rest) pick good.own found.1)
              (and_from (is_open cell split pick.kept) (allows_in pick.kept.body.header split value) opened allowed)

  -- a load that has each value is picked alone
  pub whole_picked : (kept : KeptOf) (own : Allowed) → Contains loads kept → is_whole size cell split kept ≡ true → is_header kept.body.header ≡ true → is_set own ≡ true → is_any own ≡ is_open_in kept.body.header split
      → ((value : ℕ) → allows own value ≡ allows_in kept.body.header split value) → ArePicked size cell split loads (record { load = kept.load; own = own } ∷ [])
  whole_picked kept own held whole formed set opened same =
      record {
        picks = pick ∷ [];
        same = refl;
        good = record {
          own = All-cons (λ pick. Contains loads pick.kept) pick [] held (All-nil _);
          opened = All-cons (λ pick. IsTrue (is_open cell split pick.kept)) pick [] parts.0 (All-nil _);
          formed = All-cons (λ pick. IsTrue (is_header pick.kept.body.header)) pick [] formed (All-nil _);
          sets = All-cons (λ pick. IsTrue (is_set pick.own)) pick [] set (All-nil _);
          within = All-cons (λ pick. (value : ℕ) → IsTrue (allows pick.own value) → IsTrue (allows_in pick.kept.body.header split value)) pick [] (λ value allowed. sym (same value) ∙ allowed) (All-nil _);
          fresh = λ i j one other less at_i at_j. absurd (none i j one other less at_i at_j);
        };
        some = omega arith;
        every = λ value below. rw (or-false (allows own value)) (each value below);
        needed = inl refl;
      }
    where
      pick : Pick
      pick = record { kept = kept; own = own }

      parts : (is_open cell split kept ≡ true) × (((size == 0) || is_open_in kept.body.header split) ≡ true)
      parts = and_parts (is_open cell split kept) ((size == 0) || is_open_in kept.body.header split) whole

      none : (i j : ℕ) (one other : Pick) → i < j → slice_get (pick ∷ []) i ≡ Some one → slice_get (pick ∷ []) j ≡ Some other → ⊥
      none i j one other less at_i at_j = let within = slice_get_within (pick ∷ []) j other at_j in omega (arith, within)

      each : (value : ℕ) → value < size → allows own value ≡ true
      each value below = by size below parts.1
        where
          by : (n : ℕ) → value < n → ((n == 0) || is_open_in kept.body.header split) ≡ true → allows own value ≡ true
          by zero less either = absurd (omega arith)
          by (suc n) less either = open_allows own value (opened ∙ rw (ne_eqb (suc n) 0 (λ e. omega arith)) at either)

  module _ (seen : List KeptOf) (parts : List Part) (marks : List Bool) (so_far : ArePickedOf size cell split loads seen parts marks) (kept : KeptOf) where
    seen_more : All (λ pick. Contains (seen ++ kept ∷ []) pick.kept) so_far.picks
    seen_more =
        All-weaker (λ pick. Contains seen pick.kept) (λ pick. Contains (seen ++ kept ∷ []) pick.kept) (λ pick held. Contains-append_left seen (kept ∷ []) pick.kept held) so_far.picks so_far.seen_all

    -- a load that is not open is passed over
    pub closed_step : is_open cell split kept ≡ false → ArePickedOf size cell split loads (seen ++ kept ∷ []) parts marks
    closed_step closed = record {
      picks = so_far.picks;
      same = so_far.same;
      good = so_far.good;
      seen_all = seen_more;
      needed = so_far.needed;
      count = so_far.count;
      marked = so_far.marked;
      told = λ value below. so_far.told value below ∙ sym (list_any-append (has_value cell split value) seen (kept ∷ []) ∙ none value);
    }
      where
        none : (value : ℕ) → (list_any (has_value cell split value) seen || ((is_open cell split kept && allows_in kept.body.header split value) || false)) ≡ list_any (has_value cell split value) seen
        none value = rw closed (or-false (list_any (has_value cell split value) seen))

    module _ (allowed : Allowed) (held : Contains loads kept) (opened : is_open cell split kept ≡ true) (not_any : is_any allowed ≡ false) (set : is_set allowed ≡ true) (formed : is_header kept.body.header ≡ true)
        (same : (value : ℕ) → allows allowed value ≡ allows_in kept.body.header split value) where
      listed_same : (value : ℕ) → among (listed allowed) value ≡ allows_in kept.body.header split value
      listed_same value = lists_allowed allowed value not_any ∙ same value

      some_seen : (value : ℕ) → list_any (has_value cell split value) (seen ++ kept ∷ []) ≡ (list_any (has_value cell split value) seen || among (listed allowed) value)
      some_seen value =
          list_any-append (has_value cell split value) seen (kept ∷ []) ∙ rw (opened, listed_same value, or-false (allows_in kept.body.header split value)) refl

      free_same : (value : ℕ) → value < size → is_free marks value ≡ not (some_pick so_far.picks value)
      free_same value below =
          let count = so_far.count in
          let there : nat_lt value (length marks) ≡ true = lt-ltb value (length marks) (omega arith) in
          rw (there, so_far.marked value below) refl

      -- one that is open brings the values that are free
      pub open_step : (new : List Part) (later : List Bool) → new ≡ parts ++ part_with kept.load (filter (is_free marks) (listed allowed)) → length later ≡ length marks
          → ((value : ℕ) → value < length marks → is_marked later value ≡ (is_marked marks value || among (listed allowed) value)) → ArePickedOf size cell split loads (seen ++ kept ∷ []) new later
      open_step new later is count after = by (filter (is_free marks) (listed allowed)) refl
        where
          after_pick : (value : ℕ) → value < size → is_marked later value ≡ (some_pick so_far.picks value || among (listed allowed) value)
          after_pick value below =
              let n = so_far.count in
              after value (omega arith) ∙ ap (λ (b : Bool). b || among (listed allowed) value) (so_far.marked value below)

          own_among : (own : List ℕ) → filter (is_free marks) (listed allowed) ≡ own → (value : ℕ) → value < size → among own value ≡ (not (some_pick so_far.picks value) && among (listed allowed) value)
          own_among own own_is value below =
              ap (λ (vs : List ℕ). among vs value) (sym own_is) ∙ among-filter (is_free marks) (listed allowed) value ∙ ap (λ (b : Bool). b && among (listed allowed) value) (free_same value below)

          by : (own : List ℕ) → filter (is_free marks) (listed allowed) ≡ own → ArePickedOf size cell split loads (seen ++ kept ∷ []) new later
          by [] own_is =
              record {
                picks = so_far.picks;
                same = so_far.same ∙ sym (is ∙ rw (own_is, append_none parts) refl);
                good = so_far.good;
                seen_all = seen_more;
                needed = so_far.needed;
                count = count ∙ so_far.count;
                marked = λ value below. after_pick value below ∙ sym (nothing_more value below);
                told = λ value below. nothing_more value below ∙ ap (λ (b : Bool). b || among (listed allowed) value) (so_far.told value below) ∙ sym (some_seen value);
              }
            where
              append_none : (ps : List Part) → ps ++ [] ≡ ps
              append_none [] = refl
              append_none (p ∷ ps) = ap (λ (qs : List Part). p ∷ qs) (append_none ps)

              nothing_more : (value : ℕ) → value < size → some_pick so_far.picks value ≡ (some_pick so_far.picks value || among (listed allowed) value)
              nothing_more value below = sym (or-false (some_pick so_far.picks value)) ∙ ap (λ (b : Bool). some_pick so_far.picks value || b) (own_among [] own_is value below) ∙ or_more (some_pick so_far.picks value) (among (listed allowed) value)
          by (v ∷ vs) own_is =
              record {
                picks = so_far.picks ++ pick ∷ [];
                same = map-append part_of so_far.picks (pick ∷ []) ∙ rw so_far.same (sym (is ∙ rw own_is refl));
                good = record {
                  own = All-push (λ pick. Contains loads pick.kept) so_far.picks pick so_far.good.own held;
                  opened = All-push (λ pick. IsTrue (is_open cell split pick.kept)) so_far.picks pick so_far.good.opened opened;
                  formed = All-push (λ pick. IsTrue (is_header pick.kept.body.header)) so_far.picks pick so_far.good.formed formed;
                  sets = All-push (λ pick. IsTrue (is_set pick.own)) so_far.picks pick so_far.good.sets rises;
                  within = All-push (λ pick. (value : ℕ) → IsTrue (allows pick.own value) → IsTrue (allows_in pick.kept.body.header split value)) so_far.picks pick so_far.good.within within;
                  fresh = fresh;
                };
                seen_all = All-push (λ pick. Contains (seen ++ kept ∷ []) pick.kept) so_far.picks pick seen_more (Contains-push seen kept);
                needed = All-push (HasOwn size) so_far.picks pick so_far.needed own_first;
                count = count ∙ so_far.count;
                marked = λ value below. after_pick value below ∙ sym (more value below);
                told = λ value below. more value below ∙ ap (λ (b : Bool). b || among (listed allowed) value) (so_far.told value below) ∙ sym (some_seen value);
              }
            where
              pick : Pick
              pick = record { kept = kept; own = Set (v ∷ vs) }

              rises : is_set (Set (v ∷ vs)) ≡ true
              rises = and_from (nat_lt 0 (length (v ∷ vs))) (rise (v ∷ vs)) (lt-ltb 0 (length (v ∷ vs)) (omega arith)) (ap rise (sym own_is) ∙ rise-filter (is_free marks) (listed allowed) (rise_listed allowed set))

              within : (value : ℕ) → among (v ∷ vs) value ≡ true → allows_in kept.body.header split value ≡ true
              within value allowed_there =
                  let told : (is_free marks value && among (listed allowed) value) ≡ true = sym (among-filter (is_free marks) (listed allowed) value) ∙ ap (λ (ns : List ℕ). among ns value) own_is ∙ allowed_there in
                  sym (listed_same value) ∙ (and_parts (is_free marks value) (among (listed allowed) value) told).1

              more : (value : ℕ) → value < size → some_pick (so_far.picks ++ pick ∷ []) value ≡ (some_pick so_far.picks value || among (listed allowed) value)
              more value below =
                  list_any-append (λ pick. allows pick.own value) so_far.picks (pick ∷ [])
                  ∙ ap (λ (b : Bool). some_pick so_far.picks value || b) (or-false (among (v ∷ vs) value) ∙ own_among (v ∷ vs) own_is value below)
                  ∙ or_more (some_pick so_far.picks value) (among (listed allowed) value)

              -- the first of its own
              own_first : HasOwn size pick
              own_first =
                  let here : among (v ∷ vs) v ≡ true = or_left (v == v) (among vs v) (eq-eqb v v refl) in
                  let told : (is_free marks v && among (listed allowed) v) ≡ true = sym (among-filter (is_free marks) (listed allowed) v) ∙ ap (λ (ns : List ℕ). among ns v) own_is ∙ here in
                  let free = (and_parts (is_free marks v) (among (listed allowed) v) told).0 in
                  let below = ltb-true v (length marks) (and_parts (nat_lt v (length marks)) (not (is_marked marks v)) free).0 in
                  let n = so_far.count in
                  (v, omega (arith, below, n), here)

              last : (one : Pick) → Contains so_far.picks one → (value : ℕ) → value < size → allows_in one.kept.body.header split value ≡ true → among (v ∷ vs) value ≡ false
              last one one_held value below allowed_there =
                  let one_seen = All-contains (λ pick. Contains seen pick.kept) so_far.picks one so_far.seen_all one_held in
                  let one_open = All-contains (λ pick. IsTrue (is_open cell split pick.kept)) so_far.picks one so_far.good.opened one_held in
                  let any = any_member (has_value cell split value) seen one.kept one_seen (and_from (is_open cell split one.kept) (allows_in one.kept.body.header split value) one_open allowed_there) in
                  let taken : some_pick so_far.picks value ≡ true = so_far.told value below ∙ any in
                  own_among (v ∷ vs) own_is value below ∙ rw taken refl

              fresh : (i j : ℕ) (one other : Pick) → i < j → slice_get (so_far.picks ++ pick ∷ []) i ≡ Some one → slice_get (so_far.picks ++ pick ∷ []) j ≡ Some other → (value : ℕ) → value < size
                  → allows_in one.kept.body.header split value ≡ true → allows other.own value ≡ false
              fresh i j one other less at_i at_j value below allowed_there =
                  elim (get_pushed so_far.picks pick j other at_j) [
                    | inl before ↦ so_far.good.fresh i j one other less (get_before so_far.picks pick i one (let inside = slice_get_within so_far.picks j other before in omega (arith, inside)) at_i) before value below allowed_there
                    | inr here ↦ rw (← here.1) (last one (contains_at so_far.picks i one (get_before so_far.picks pick i one (omega (arith, here.0)) at_i)) value below allowed_there)
                  ]

  -- before the first load nothing is picked
  pub none_picked : (marks : List Bool) → length marks ≡ size → ((value : ℕ) → is_marked marks value ≡ false) → ArePickedOf size cell split loads [] [] marks
  none_picked marks count unset = record {
    picks = [];
    same = refl;
    good = record {
      own = All-nil _;
      opened = All-nil _;
      formed = All-nil _;
      sets = All-nil _;
      within = All-nil _;
      fresh = λ i j one other less at_i at_j. absurd (let e = at_i in cc);
    };
    seen_all = All-nil _;
    needed = All-nil _;
    count = count;
    marked = λ value below. unset value;
    told = λ value below. refl;
  }

  module _ (parts : List Part) (marks : List Bool) (picked : ArePickedOf size cell split loads loads parts marks) where
    -- where all is marked and something is picked, it is enough
    pub all_picked : 0 < length parts → list_all (λ mark. mark) marks ≡ true → ArePicked size cell split loads parts
    all_picked some all = record {
      picks = picked.picks;
      same = picked.same;
      good = picked.good;
      some = by picked.picks picked.same;
      every = λ value below. sym (picked.marked value below) ∙ at marks value all (let n = picked.count in omega arith);
      needed = inr picked.needed;
    }
      where
        by : (picks : List Pick) → map part_of picks ≡ parts → 0 < length picks
        by [] same = let none : length parts ≡ 0 = ap length (sym same) in absurd (omega arith)
        by (p ∷ ps) same = omega arith

        at : (bs : List Bool) (i : ℕ) → list_all (λ mark. mark) bs ≡ true → i < length bs → is_marked bs i ≡ true
        at [] i set inside = absurd (omega arith)
        at (b ∷ bs) zero set inside = (and_parts b (list_all (λ mark. mark) bs) set).0
        at (b ∷ bs) (suc i) set inside = at bs i (and_parts b (list_all (λ mark. mark) bs) set).1 (omega arith)

    -- where a value is not marked, no load has it
    pub not_marked : list_all (λ mark. mark) marks ≡ false → kind_splits size cell split loads ≡ false
    not_marked not_all =
        let lacking = unset marks not_all in
        let below : lacking.0 < size = let n = picked.count in omega (arith, lacking.1) in
        let none : list_any (has_value cell split lacking.0) loads ≡ false = sym (picked.told lacking.0 below) ∙ sym (picked.marked lacking.0 below) ∙ lacking.2 in
        and_right (list_any (is_open cell split) loads) (all_below size (λ value. list_any (has_value cell split value) loads)) (all_below_fails size (λ value. list_any (has_value cell split value) loads) lacking.0 below none)
      where
        unset : (bs : List Bool) → list_all (λ mark. mark) bs ≡ false → (i : ℕ) × (i < length bs) × (is_marked bs i ≡ false)
        unset [] e = absurd (cc)
        unset (true ∷ bs) e = let later = unset bs e in (suc later.0, omega (arith, later.1), later.2)
        unset (false ∷ bs) e = (0, omega arith, refl)

    -- where nothing is picked though no load has each value, none is open, or some value is missing
    pub nothing_picked : parts ≡ [] → All (λ kept. is_whole size cell split kept ≡ false) loads → kind_splits size cell split loads ≡ false
    nothing_picked none partial = by picked.picks (picked.same ∙ none) picked.told
      where
        and_true : (b : Bool) → (b && true) ≡ b
        and_true true = refl
        and_true false = refl

        closed : (n : ℕ) (kept : KeptOf) → is_whole n cell split kept ≡ false → n ≤ 0 → is_open cell split kept ≡ false
        closed zero kept not_whole le = sym (and_true (is_open cell split kept)) ∙ not_whole
        closed (suc n) kept not_whole le = absurd (omega arith)

        by : (picks : List Pick) → map part_of picks ≡ [] → ((value : ℕ) → value < size → some_pick picks value ≡ list_any (has_value cell split value) loads) → kind_splits size cell split loads ≡ false
        by (p ∷ ps) same told = absurd (cc)
        by [] same told =
            elim (cases_lt 0 size) [
              | inl some ↦ and_right (list_any (is_open cell split) loads) (all_below size (λ value. list_any (has_value cell split value) loads)) (all_below_fails size (λ value. list_any (has_value cell split value) loads) 0 some (sym (told 0 some)))
              | inr empty ↦ and_left (list_any (is_open cell split) loads) (all_below size (λ value. list_any (has_value cell split value) loads)) (list_any_none (is_open cell split) loads (λ k d inside. closed size (get_or loads k d) (partial k d inside) empty))
            ]

-- a load that is open but has not each value is not open in the split
pub not_any : (size : ℕ) (cell : Cell) (split : ℕ) (kept : KeptOf) (allowed : Allowed) → is_whole size cell split kept ≡ false → is_open cell split kept ≡ true → is_any allowed ≡ is_open_in kept.body.header split → is_any allowed ≡ false
not_any size cell split kept allowed partial opened same =
    let either : ((size == 0) || is_open_in kept.body.header split) ≡ false = rw opened at partial in
    same ∙ (or_parts (size == 0) (is_open_in kept.body.header split) either).1

-- what a test of a list's length tells
pub empty_list : {X : Type 0} (xs : List X) → (length xs == 0) ≡ true → xs ≡ []
empty_list [] none = refl
empty_list (x ∷ xs) none = let e : length (x ∷ xs) ≡ 0 = eqb-true (length (x ∷ xs)) 0 none in absurd (omega arith)

pub not_empty : {X : Type 0} (xs : List X) → (length xs == 0) ≡ false → 0 < length xs
not_empty [] some = absurd (cc)
not_empty (x ∷ xs) some = omega arith
