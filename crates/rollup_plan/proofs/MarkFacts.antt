-- Values that are marked one after another.
use Rattle.std.proofs.Common.{◌≡◌, ◌∙◌, ◌<◌, ◌+◌, ◌++◌, ℕ, zero, suc, Bool, true, false, not, List, [], ◌∷◌, length, map-id, take, set, get_or, filter, append-nil, refl, sym, ap, arith, inl, inr}
use Rattle.std.specs.Prelude.{◌==◌, ◌&&◌, ◌||◌, if◌then◌else◌, nat_lt}
use Rattle.std.specs.List.{list_all}
use Rattle.std.proofs.lemmas.Bool.{and_parts, and_from, cases_Bool, cases_eq, cases_lt, eq-eqb, ne_eqb, le-ltb, lt-ltb, ltb-true, or_from, or_right}
use Rattle.std.proofs.lemmas.List.{get_or-set_same, get_or-set_other}
use Rattle.std.proofs.lemmas.List.Elements.{filter_more}
use Rattle.std.proofs.lemmas.List.Folds.{list_any_more}
use Rattle.olap_meaning.specs.Covering.{among}
use Rattle.olap_meaning.specs.Legal.{rise}
use Rattle.segment_header.proofs.RiseFacts.{first_below}
use Rattle.rollup_plan.specs.Picks.{is_free, is_marked}

-- a value is none of those before it
pub rise_new : (values : List ℕ) (k d : ℕ) → rise values ≡ true → k < length values → among (take k values) (get_or values k d) ≡ false
rise_new [] k d up inside = absurd (omega arith)
rise_new (x ∷ xs) zero d up inside = refl
rise_new (x ∷ xs) (suc k) d up inside =
    let parts = and_parts (list_all (nat_lt x) xs) (rise xs) up in
    let below : x < get_or xs k d = first_below (λ n. n) x xs k d (rw (map-id xs) parts.0) (omega arith) in
    or_from (x == get_or xs k d) (among (take k xs) (get_or xs k d)) (ne_eqb x (get_or xs k d) (λ same. omega arith)) (rise_new xs k d parts.1 (omega arith))

-- a mark more
marked_set : (marks : List Bool) (x v : ℕ) → x < length marks → is_marked (set marks x true) v ≡ (is_marked marks v || (x == v))
marked_set marks x v inside =
    elim (cases_eq x v) [
      | inl same ↦ rw (← same, get_or-set_same marks x true false inside, eq-eqb x x refl) (sym (or_right (is_marked marks x) true refl))
      | inr other ↦ rw (get_or-set_other marks x v true false (λ e. other (sym e)), ne_eqb x v other) (or-false (is_marked marks v))
    ]
  where
    or-false : (b : Bool) → b ≡ (b || false)
    or-false true = refl
    or-false false = refl

or_assoc : (a b c : Bool) → ((a || b) || c) ≡ (a || (b || c))
or_assoc true b c = refl
or_assoc false b c = refl

module _ (before : List Bool) (values : List ℕ) (k x : ℕ) (here : x ≡ get_or values k x) (up : rise values ≡ true) (inside : k < length values) (marks : List Bool) (same : length marks ≡ length before)
    (so_far : (v : ℕ) → v < length before → is_marked marks v ≡ (is_marked before v || among (take k values) v)) where
  new : among (take k values) x ≡ false
  new = rw here (rise_new values k x up inside)

  among_more : (v : ℕ) → among (take (k + 1) values) v ≡ (among (take k values) v || (x == v))
  among_more v = list_any_more (λ n. n == v) values k x inside ∙ ap (λ (n : ℕ). among (take k values) v || (n == v)) (sym here)

  filter_next : filter (is_free before) (take (k + 1) values) ≡ filter (is_free before) (take k values) ++ (if is_free before x then x ∷ [] else [])
  filter_next = filter_more (is_free before) values k x inside ∙ ap (λ (n : ℕ). filter (is_free before) (take k values) ++ (if is_free before n then n ∷ [] else [])) (sym here)

  -- a value is free before the walk where it is so at its turn
  free_same : is_free marks (x) ≡ is_free before (x)
  free_same =
      elim (cases_lt (x) (length before)) [
        | inl below ↦ let told = so_far (x) below in rw (same, told, new) (ap (λ (b : Bool). nat_lt (x) (length before) && not b) (or-nil (is_marked before (x))))
        | inr past ↦ rw (same, le-ltb (x) (length before) past) refl
      ]
    where
      or-nil : (b : Bool) → (b || false) ≡ b
      or-nil true = refl
      or-nil false = refl

  -- a value that is free is marked
  pub taken : is_free marks (x) ≡ true → (own : List ℕ) → own ≡ filter (is_free before) (take k values) → own ++ x ∷ [] ≡ filter (is_free before) (take (k + 1) values)
  taken free own is =
      let passes : is_free before (x) ≡ true = sym free_same ∙ free in
      rw (is, filter_next, passes) refl

  pub taken_marks : is_free marks (x) ≡ true → (v : ℕ) → v < length before → is_marked (set marks (x) true) v ≡ (is_marked before v || among (take (k + 1) values) v)
  taken_marks free v below =
      let there : x < length marks = ltb-true _ _ (and_parts (nat_lt (x) (length marks)) (not (is_marked marks (x))) free).0 in
      rw (marked_set marks (x) v there, so_far v below, among_more v) (or_assoc (is_marked before v) (among (take k values) v) (x == v))

  -- one that is not is passed over
  pub passed : is_free marks (x) ≡ false → (own : List ℕ) → own ≡ filter (is_free before) (take k values) → own ≡ filter (is_free before) (take (k + 1) values)
  passed fails own is =
      let fails_before : is_free before (x) ≡ false = sym free_same ∙ fails in
      rw (is, filter_next, fails_before) (sym (append-nil (filter (is_free before) (take k values))))

  pub passed_marks : is_free marks (x) ≡ false → (v : ℕ) → v < length before → is_marked marks v ≡ (is_marked before v || among (take (k + 1) values) v)
  passed_marks fails v below =
      elim (cases_eq (x) v) [
        | inl here ↦ rw (among_more v, eq-eqb _ _ here) (marked v (rw here at fails) below ∙ sym (both (is_marked before v) (among (take k values) v)))
        | inr other ↦ rw (among_more v, ne_eqb _ _ other) (so_far v below ∙ ap (λ (b : Bool). is_marked before v || b) (sym (or-nil (among (take k values) v))))
      ]
    where
      or-nil : (b : Bool) → (b || false) ≡ b
      or-nil true = refl
      or-nil false = refl

      both : (a b : Bool) → (a || (b || true)) ≡ true
      both true b = refl
      both false true = refl
      both false false = refl

      marked : (y : ℕ) → is_free marks y ≡ false → y < length before → is_marked marks y ≡ true
      marked y not_free lt =
          elim (cases_Bool (is_marked marks y)) [
            | inl set ↦ set
            | inr unset ↦ let free : is_free marks y ≡ true = and_from (nat_lt y (length marks)) (not (is_marked marks y)) (lt-ltb y (length marks) (omega arith)) (rw unset refl) in absurd (cc)
          ]
