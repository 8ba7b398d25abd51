-- The entries of a map as groups.
use Rattle.std.proofs.Common.{◌≡◌, ◌∙◌, ◌<◌, ℕ, zero, suc, ◌+◌, ℤ, Bool, true, false, not, cond, List, [], ◌∷◌, ◌++◌, Option, Some, length, map, take, set, get_or, bytes_eq, refl, sym, ap, subst, arith}
use Rattle.std.specs.Prelude.{nat_lt, position, slice_get}
use Rattle.std.specs.List.{list_any, prefix_len}
use Rattle.std.proofs.lemmas.Bool.{lt-ltb, or_parts}
use Rattle.std.proofs.lemmas.List.{length-map}
use Rattle.measure_folds.specs.Tallied.{Tallied}
use Rattle.indexmap.specs.IndexMap.{insert_entry, set_value_at}
use Rattle.segment_body.specs.Groups.{Group, group, groups_by, values_of, with_number, with_numbers}

-- the first group that passes, where none before it does
first_len : (p : Group → Bool) (gs : List Group) (i : ℕ) (g : Group) → i < length gs → g ≡ get_or gs i g → list_any p (take i gs) ≡ false → p g ≡ true → prefix_len (λ x. not (p x)) gs ≡ i
first_len p [] i g inside here none passes = absurd (omega arith)
first_len p (x ∷ xs) zero g inside here none passes = let now : p x ≡ true = subst (λ (y : Group). p y ≡ true) here passes in rw now refl
first_len p (x ∷ xs) (suc i) g inside here none passes =
    let parts = or_parts (p x) (list_any p (take i xs)) none in
    let rest = first_len p xs i g (omega arith) here parts.1 passes in
    rw parts.0 (omega (arith, rest))

pub first_position : (p : Group → Bool) (gs : List Group) (i : ℕ) (g : Group) → i < length gs → g ≡ get_or gs i g → list_any p (take i gs) ≡ false → p g ≡ true → position p gs ≡ Some i
first_position p gs i g inside here none passes =
    let at = first_len p gs i g inside here none passes in
    let within : nat_lt i (length gs) ≡ true = lt-ltb i (length gs) inside in
    rw (at, within) refl

module _ {K : Type 0} (items : K → List ℕ) where
  groups_len : (p : List ℕ → Bool) (es : List (K × Tallied)) → prefix_len (λ k. not (p (items k))) (map (λ e. e.0) es) ≡ prefix_len (λ (g : Group). not (p g.values)) (groups_by items es)
  groups_len p [] = refl
  groups_len p (e ∷ es) = ap (λ n. cond (not (p (items e.0))) (1 + n) 0) (groups_len p es)

  -- the place of a key is that of its group
  pub position_groups : (p : List ℕ → Bool) (es : List (K × Tallied)) → position (λ k. p (items k)) (map (λ e. e.0) es) ≡ position (λ (g : Group). p g.values) (groups_by items es)
  position_groups p es =
      let at = groups_len p es in
      let keys = length-map es (λ (e : K × Tallied). e.0) in
      let groups = length-map es (λ (e : K × Tallied). group (items e.0) e.1) in
      rw (at, keys, groups) refl

  -- there are as many groups as entries
  pub entries_counted : (es : List (K × Tallied)) → length es ≡ length (groups_by items es)
  entries_counted es = sym (length-map es (λ (e : K × Tallied). group (items e.0) e.1))

  -- the tally at a place
  pub tally_at : (es : List (K × Tallied)) (i : ℕ) (t : Tallied) (d : Group) → slice_get (map (λ e. e.1) es) i ≡ Some t → (i < length (groups_by items es)) × ((get_or (groups_by items es) i d).tally ≡ t)
  tally_at [] i t d at = absurd (cc)
  tally_at (e ∷ es) zero t d at = let same : e.1 ≡ t = cc in (omega arith, same)
  tally_at (e ∷ es) (suc i) t d at = let rest = tally_at es i t d at in (omega (arith, rest.0), rest.1)

  -- a tally is written
  pub groups_set : (es : List (K × Tallied)) (i : ℕ) (t new : Tallied) (d : Group) (number : Option ℤ) → slice_get (map (λ e. e.1) es) i ≡ Some t → new ≡ record { aggregator = t.aggregator; values = t.values ++ number ∷ [] }
      → groups_by items (set_value_at es i new) ≡ set (groups_by items es) i (with_number (get_or (groups_by items es) i d) number)
  groups_set [] i t new d number at is = absurd (cc)
  groups_set (e ∷ es) zero t new d number at is = let same : e.1 ≡ t = cc in rw (is, ← same) refl
  groups_set (e ∷ es) (suc i) t new d number at is = ap (λ (gs : List Group). group (items e.0) e.1 ∷ gs) (groups_set es i t new d number at is)

  pub groups_kept : (es : List (K × Tallied)) (i : ℕ) (t new : Tallied) → slice_get (map (λ e. e.1) es) i ≡ Some t → new ≡ t → groups_by items (set_value_at es i new) ≡ groups_by items es
  groups_kept [] i t new at is = absurd (cc)
  groups_kept (e ∷ es) zero t new at is = let same : new ≡ e.1 = cc in rw same refl
  groups_kept (e ∷ es) (suc i) t new at is = ap (λ (gs : List Group). group (items e.0) e.1 ∷ gs) (groups_kept es i t new at is)

  -- a new key goes last
  pub groups_new : (eq : K → K → Bool) (k : K) (t : Tallied) (values : List ℕ) → ((j : K) → eq k j ≡ bytes_eq values (items j)) → (es : List (K × Tallied)) → list_any (bytes_eq values) (values_of (groups_by items es)) ≡ false
      → groups_by items (insert_entry eq es k t) ≡ groups_by items es ++ group (items k) t ∷ []
  groups_new eq k t values told [] none = refl
  groups_new eq k t values told (e ∷ es) none =
      let parts = or_parts (bytes_eq values (items e.0)) (list_any (bytes_eq values) (values_of (groups_by items es))) none in
      let other : eq k e.0 ≡ false = told e.0 ∙ parts.0 in
      rw other (ap (λ (gs : List Group). group (items e.0) e.1 ∷ gs) (groups_new eq k t values told es parts.1))

  -- numbers are merged into a tally
  pub groups_merged : (es : List (K × Tallied)) (i : ℕ) (t new : Tallied) (d : Group) (numbers : List (Option ℤ)) → slice_get (map (λ e. e.1) es) i ≡ Some t → new ≡ record { aggregator = t.aggregator; values = t.values ++ numbers }
      → groups_by items (set_value_at es i new) ≡ set (groups_by items es) i (with_numbers (get_or (groups_by items es) i d) numbers)
  groups_merged [] i t new d numbers at is = absurd (cc)
  groups_merged (e ∷ es) zero t new d numbers at is = let same : e.1 ≡ t = cc in rw (is, ← same) refl
  groups_merged (e ∷ es) (suc i) t new d numbers at is = ap (λ (gs : List Group). group (items e.0) e.1 ∷ gs) (groups_merged es i t new d numbers at is)
