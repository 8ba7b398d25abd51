-- What the kept loads hold is what the history says, and the oldest of them may be evicted.
use Rattle.std.proofs.Common.{◌≡◌, refl, sym, ◌∙◌, ap, subst, ℕ, zero, suc, ◌≤◌, List, [], ◌∷◌, ◌++◌, length, map, Bool, true, false, not, ◌||◌, ◌==◌, cond, Option, Some, sum_by, All, inl, inr, arith, ℤ}
use Rattle.std.specs.Option.{option_map_or}
use Rattle.std.proofs.lemmas.Bool.{and_from, and_parts, both_ways, eq-eqb, eqb-true, false_from_ne_true, not-true, not_from_false, or_cases, or_left, or_right}
use Rattle.std.proofs.lemmas.List.{append-nil}
use Rattle.std.proofs.lemmas.List.Elements.{All-head, All-tail}
use Rattle.std.proofs.lemmas.List.Folds.{list_any-append}
use Rattle.std.proofs.lemmas.List.Sorted.{IsPermutation-map}
use Rattle.std.proofs.lemmas.List.Sums.{sum_by-append, sum_by-cons}
use Rattle.olap_meaning.specs.declared.tables.Catalog.{Catalog}
use Rattle.olap_meaning.specs.declared.tables.Row.{Row}
use Rattle.olap_meaning.specs.declared.tables.Setting.{Setting}
use Rattle.olap_meaning.specs.Budget as budget
use Rattle.olap_meaning.specs.Budget.{kept_groups, oldest_kept, row_values}
use Rattle.olap_meaning.specs.Catalog.{first_appearances}
use Rattle.olap_meaning.specs.Covering.{among}
use Rattle.olap_meaning.specs.History.{Entry, Load, kept, kept_loads, kept_up_to, rows_of}
use Rattle.olap_meaning.specs.Legal.{Legal}
use Rattle.olap_meaning.proofs.Different.{appearances_counted}
use Rattle.olap_meaning.proofs.Evicting.{kept_within, oldest_is_least}
use Rattle.fact_reader.specs.BodyRows.{body_rows}
use Rattle.fact_reader.proofs.BatchFacts.{different_texts, values_taken}
use Rattle.cache_flush.specs.Loads.{IsOldest, KeptOf, are_different, group_count, numbers_of}
use Rattle.cache_manager.specs.Kept.{IsKept}
use Rattle.cache_manager.specs.Rollups.{AreKept}
use Rattle.cache_manager.proofs.Managing.{numbers_kept}

-- a kept load has the groups that the history says
groups_told : (catalog : Catalog) (entries : List Entry) (k : KeptOf) → IsKept catalog entries k → group_count k ≡ budget.group_count catalog entries k.load
groups_told catalog entries k is =
    ap length (different_texts k.body.rows)
    ∙ sym (appearances_counted (map (λ (row : List ℕ × Option ℤ). row.0) taken) (map (λ (row : List ℕ × Option ℤ). row.0) k.body.rows) (IsPermutation-map (λ (row : List ℕ × Option ℤ). row.0) taken k.body.rows is.holds.own_rows))
    ∙ ap (λ (texts : List (List ℕ)). length (first_appearances texts)) (values_taken catalog is.load.header rows)
    ∙ sym (ap (λ (o : Option Load). option_map_or (λ load. length (budget.load_groups catalog entries load)) o 0) is.started)
  where
    rows : List Row
    rows = rows_of entries is.load.header.cube is.load.version

    taken : List (List ℕ × Option ℤ)
    taken = body_rows catalog is.load.header rows

-- a number among some stands between two parts of them
record IsParted (numbers : List ℕ) (n : ℕ) : Type 0 where
  before : List ℕ
  after : List ℕ
  are : numbers ≡ before ++ n ∷ after

parted : (numbers : List ℕ) (n : ℕ) → among numbers n ≡ true → IsParted numbers n
parted [] n h = absurd (cc)
parted (m ∷ ms) n h = elim (or_cases (m == n) (among ms n) h) [
  | inl here ↦ record { before = []; after = ms; are = ap (λ (k : ℕ). k ∷ ms) (eqb-true m n here) }
  | inr there ↦ let rest = parted ms n there in record { before = m ∷ rest.before; after = rest.after; are = ap (λ (ks : List ℕ). m ∷ ks) rest.are }
]

among_apart : (before after : List ℕ) (n j : ℕ) → among (before ++ n ∷ after) j ≡ (among before j || ((n == j) || among after j))
among_apart before after n j = list_any-append (λ v. v == j) before (n ∷ after)

-- different numbers, of which one is taken out
different_without : (before after : List ℕ) (n : ℕ) → are_different (before ++ n ∷ after) ≡ true → (are_different (before ++ after) ≡ true) × (among (before ++ after) n ≡ false)
different_without [] after n h = let parts = and_parts (not (among after n)) (are_different after) h in (parts.1, not-true (among after n) parts.0)
different_without (m ∷ before) after n h =
    let parts = and_parts (not (among (before ++ n ∷ after) m)) (are_different (before ++ n ∷ after)) h in
    let rest = different_without before after n parts.1 in
    let out : among (before ++ n ∷ after) m ≡ false = not-true _ parts.0 in
    let none : among (before ++ after) m ≡ false = false_from_ne_true _ (λ e. both_ways _ out (among_apart before after n m ∙ still (among before m) (n == m) (among after m) (sym (list_any-append (λ v. v == m) before after) ∙ e))) in
    let apart : (m == n) ≡ false = false_from_ne_true _ (λ e. both_ways _ out (among_apart before after n m ∙ or_right (among before m) ((n == m) || among after m) (or_left (n == m) (among after m) (eq-eqb n m (sym (eqb-true m n e)))))) in
    (and_from (not (among (before ++ after) m)) (are_different (before ++ after)) (not_from_false _ none) rest.0, rw (apart, rest.1) refl)
  where
    still : (a b c : Bool) → (a || c) ≡ true → (a || (b || c)) ≡ true
    still a b c h = grind (arith, h)

-- different numbers that have the same members have the same sum
module _ (f : ℕ → ℕ) where
  same_sums : (xs ys : List ℕ) → are_different xs ≡ true → are_different ys ≡ true → ((j : ℕ) → among xs j ≡ among ys j) → sum_by f xs ≡ sum_by f ys
  same_sums [] [] different apart same = refl
  same_sums (x ∷ xs) [] different apart same = let here : among (x ∷ xs) x ≡ true = or_left (x == x) (among xs x) (eq-eqb x x refl) in absurd (both_ways false refl (sym (same x) ∙ here))
  same_sums xs (y ∷ ys) different apart same = by (parted xs y (same y ∙ or_left (y == y) (among ys y) (eq-eqb y y refl))) (λ zs. same_sums zs ys)
    where
      by : IsParted xs y → ((zs : List ℕ) → are_different zs ≡ true → are_different ys ≡ true → ((j : ℕ) → among zs j ≡ among ys j) → sum_by f zs ≡ sum_by f ys) → sum_by f xs ≡ sum_by f (y ∷ ys)
      by parts rest =
          let whole : are_different (parts.before ++ y ∷ parts.after) ≡ true = subst (λ (zs : List ℕ). are_different zs ≡ true) parts.are different in
          let without = different_without parts.before parts.after y whole in
          let own = and_parts (not (among ys y)) (are_different ys) apart in
          let sums : sum_by f (parts.before ++ parts.after) ≡ sum_by f ys = rest (parts.before ++ parts.after) without.0 own.1 (λ j. members j (y == j) refl) in
          let split = sum_by-append f parts.before (y ∷ parts.after) in
          let one = sum_by-cons f y parts.after in
          let other = sum_by-cons f y ys in
          let joined = sum_by-append f parts.before parts.after in
          ap (sum_by f) parts.are ∙ omega (arith, split, one, other, joined, sums)
        where
          members : (j : ℕ) (b : Bool) → (y == j) ≡ b → among (parts.before ++ parts.after) j ≡ among ys j
          members j true e =
              let here : y ≡ j = eqb-true y j e in
              let without = different_without parts.before parts.after y (subst (λ (zs : List ℕ). are_different zs ≡ true) parts.are different) in
              ap (among (parts.before ++ parts.after)) (sym here) ∙ without.1 ∙ sym (not-true (among ys y) (and_parts (not (among ys y)) (are_different ys) apart).0) ∙ ap (among ys) here
          members j false e =
              list_any-append (λ v. v == j) parts.before parts.after
              ∙ sym (among_apart parts.before parts.after y j ∙ ap (λ b. among parts.before j || (b || among parts.after j)) e)
              ∙ ap (λ (zs : List ℕ). among zs j) (sym parts.are) ∙ same j ∙ ap (λ b. b || among ys j) e

-- the kept loads of a history are different, and are just those that are kept
module _ (entries : List Entry) where
  up_to_below : (n j : ℕ) → among (kept_up_to entries n) j ≡ true → (1 ≤ j) × (j ≤ n) × (kept entries j ≡ true)
  up_to_below zero j h = absurd (cc)
  up_to_below (suc n) j h = by (kept entries (suc n)) refl (up_to_below n j) (sym (list_any-append (λ v. v == j) (kept_up_to entries n) (cond (kept entries (suc n)) (suc n ∷ []) [])) ∙ h)
    where
      by : (b : Bool) → kept entries (suc n) ≡ b → (among (kept_up_to entries n) j ≡ true → (1 ≤ j) × (j ≤ n) × (kept entries j ≡ true)) → (among (kept_up_to entries n) j || among (cond (kept entries (suc n)) (suc n ∷ []) []) j) ≡ true
          → (1 ≤ j) × (j ≤ suc n) × (kept entries j ≡ true)
      by true e rest some = elim (or_cases (among (kept_up_to entries n) j) (among (suc n ∷ []) j) (rw e at some)) [
        | inl old ↦ let r = rest old in (r.0, omega (arith, r.1), r.2)
        | inr new ↦ elim (or_cases (suc n == j) false new) [
          | inl same ↦ let is : suc n ≡ j = eqb-true (suc n) j same in (omega (arith, is), omega (arith, is), ap (kept entries) (sym is) ∙ e)
          | inr none ↦ absurd (cc)
        ]
      ]
      by false e rest some = elim (or_cases (among (kept_up_to entries n) j) false (rw e at some)) [
        | inl old ↦ let r = rest old in (r.0, omega (arith, r.1), r.2)
        | inr none ↦ absurd (cc)
      ]

  up_to_has : (n j : ℕ) → 1 ≤ j → j ≤ n → kept entries j ≡ true → among (kept_up_to entries n) j ≡ true
  up_to_has zero j one l h = absurd (omega (arith, one, l))
  up_to_has (suc n) j one l h = list_any-append (λ v. v == j) (kept_up_to entries n) (cond (kept entries (suc n)) (suc n ∷ []) []) ∙ by (suc n == j) refl (up_to_has n j one)
    where
      by : (b : Bool) → (suc n == j) ≡ b → (j ≤ n → kept entries j ≡ true → among (kept_up_to entries n) j ≡ true) → (among (kept_up_to entries n) j || among (cond (kept entries (suc n)) (suc n ∷ []) []) j) ≡ true
      by true e rest =
          let is : suc n ≡ j = eqb-true (suc n) j e in
          let here : kept entries (suc n) ≡ true = ap (kept entries) is ∙ h in
          or_right (among (kept_up_to entries n) j) (among (cond (kept entries (suc n)) (suc n ∷ []) []) j) (rw here (or_left (suc n == j) false e))
      by false e rest = or_left (among (kept_up_to entries n) j) (among (cond (kept entries (suc n)) (suc n ∷ []) []) j) (rest (below (cases e)) h)
        where
          cases : (suc n == j) ≡ false → (suc n ≡ j → ⊥)
          cases other same = both_ways (suc n == j) other (eq-eqb (suc n) j same)

          below : (suc n ≡ j → ⊥) → j ≤ n
          below apart = omega (arith, apart, l)

  up_to_different : (n : ℕ) → are_different (kept_up_to entries n) ≡ true
  up_to_different zero = refl
  up_to_different (suc n) = by (kept entries (suc n)) refl (up_to_different n)
    where
      pushed : (xs : List ℕ) (m : ℕ) → are_different xs ≡ true → among xs m ≡ false → are_different (xs ++ m ∷ []) ≡ true
      pushed [] m different none = refl
      pushed (x ∷ xs) m different none =
          let parts = and_parts (not (among xs x)) (are_different xs) different in
          let other : (x == m) ≡ false = false_from_ne_true _ (λ e. both_ways _ none (or_left (x == m) (among xs m) e)) in
          let rest : among xs m ≡ false = false_from_ne_true _ (λ e. both_ways _ none (or_right (x == m) (among xs m) e)) in
          and_from (not (among (xs ++ m ∷ []) x)) (are_different (xs ++ m ∷ []))
          (not_from_false _ (list_any-append (λ v. v == x) xs (m ∷ []) ∙ rw (not-true (among xs x) parts.0) (turned x m other)))
          (pushed xs m parts.1 rest)
        where
          turned : (x m : ℕ) → (x == m) ≡ false → ((m == x) || false) ≡ false
          turned x m other = false_from_ne_true _ (λ e. elim (or_cases (m == x) false e) [ inl same ↦ both_ways (x == m) other (eq-eqb x m (sym (eqb-true m x same))) | inr none ↦ absurd (cc) ])

      by : (b : Bool) → kept entries (suc n) ≡ b → are_different (kept_up_to entries n) ≡ true → are_different (kept_up_to entries (suc n)) ≡ true
      by true e rest = rw e (pushed (kept_up_to entries n) (suc n) rest (false_from_ne_true _ (λ h. let r = up_to_below n (suc n) h in absurd (omega (arith, r.1)))))
      by false e rest = rw (e, append-nil (kept_up_to entries n)) rest

module _ (setting : Setting) (entries : List Entry) (loads : List KeptOf) (legal : Legal setting entries) (are : AreKept setting.catalog entries loads) (different : are_different (numbers_of loads) ≡ true) where
  -- the kept loads are those on the shelf
  members : (j : ℕ) → among (numbers_of loads) j ≡ among (kept_loads entries) j
  members j = by (among (kept_loads entries) j) refl
    where
      by : (b : Bool) → among (kept_loads entries) j ≡ b → among (numbers_of loads) j ≡ b
      by true e = are.every j (up_to_below entries (length entries) j e).2
      by false e = false_from_ne_true _ (λ h.
          let is = numbers_kept setting.catalog entries loads j are.are h in
          let within = kept_within setting entries legal j is in
          both_ways _ e (up_to_has entries (length entries) j within.0 within.1 is))

  sums_told : (ks : List KeptOf) → All (IsKept setting.catalog entries) ks → sum_by group_count ks ≡ sum_by (budget.group_count setting.catalog entries) (numbers_of ks)
  sums_told [] all = refl
  sums_told (k ∷ ks) all =
      let here = groups_told setting.catalog entries k (All-head (IsKept setting.catalog entries) k ks all) in
      let rest = sums_told ks (All-tail (IsKept setting.catalog entries) k ks all) in
      let one = sum_by-cons group_count k ks in
      let other = sum_by-cons (budget.group_count setting.catalog entries) k.load (numbers_of ks) in
      omega (arith, here, rest, one, other)

  -- what the shelf holds is what the kept loads of the history have
  pub groups_held : sum_by group_count loads ≡ kept_groups setting.catalog entries
  groups_held =
      sums_told loads are.are
      ∙ same_sums (budget.group_count setting.catalog entries) (numbers_of loads) (kept_loads entries) different (up_to_different entries (length entries)) members

  -- the oldest on the shelf is the oldest that is kept
  pub oldest_held : (j : ℕ) → IsOldest loads (Some j) → oldest_kept entries ≡ Some j
  oldest_held j is = (oldest_is_least setting entries j legal).1 (record { is_kept = numbers_kept setting.catalog entries loads j are.are is.0; least = least })
    where
      least : (k : ℕ) → kept entries k ≡ true → j ≤ k
      least k h = at loads (are.every k h) is.1
        where
          at : (ks : List KeptOf) → among (numbers_of ks) k ≡ true → All (λ kept. j ≤ kept.load) ks → j ≤ k
          at [] there all = absurd (cc)
          at (o ∷ os) there all = elim (or_cases (o.load == k) (among (numbers_of os) k) there) [
            | inl here ↦ subst (λ n. j ≤ n) (eqb-true o.load k here) (All-head (λ kept. j ≤ kept.load) o os all)
            | inr later ↦ at os later (All-tail (λ kept. j ≤ kept.load) o os all)
          ]
