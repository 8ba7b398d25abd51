-- What is left of kept loads where one is taken out, and what is counted of them.
use Rattle.std.proofs.Common.{◌≡◌, ◌∙◌, ◌<◌, ◌≤◌, ◌+◌, ◌-◌, ◌^◌, ◌++◌, ℕ, true, false, not, List, [], ◌∷◌, Option, None, Some, refl, sym, ap, subst, arith, inl, inr, true≢false, map, filter, length, nat_eq, option_map, find, get_or, slice_get, position, remove}
use Rattle.std.specs.Prelude.{◌==◌, ◌&&◌, ◌||◌, All, sum_by}
use Rattle.std.specs.List.{AllByRecursion, IsDistinct, position_or_len}
use Rattle.std.specs.List.Sorted.{IsPermutation}
use Rattle.std.specs.Map.{keys_of}
use Rattle.std.proofs.lemmas.Bool.{and_parts, cases_Bool, eqb-true, not-true}
use Rattle.std.proofs.lemmas.List.{length-map}
use Rattle.std.proofs.lemmas.List.Elements.{All-contains, All-filter, All-map, All-push}
use Rattle.std.proofs.lemmas.List.Sorted.{All-permutation, IsPermutation-map, IsPermutation-refl, IsPermutation-to_front, list_any-IsPermutation, sum_by-IsPermutation}
use Rattle.std.proofs.lemmas.List.Sums.{passes_at_first, sum_by-cons, sum_by-le, sum_by_push}
use Rattle.std.proofs.lemmas.Option.{slice_get-get_or, slice_get-map}
use Rattle.indexmap.specs.IndexMap.{swap_remove_entry}
use Rattle.indexmap.proofs.MapLemmas.{Found-position, Missing-position, swap_remove_entry-found, swap_remove_entry-missing}
use Rattle.olap_meaning.specs.declared.regions.Region.{Region}
use Rattle.olap_meaning.specs.Covering.{among}
use Rattle.olap_meaning.proofs.Lists.{eq_turned, item_there, or_first, or_second}
use Rattle.olap_meaning.proofs.Members.{All-from_member, in_first}
use Rattle.olap_meaning.proofs.Orders.{among_held}
use Rattle.cache_flush.specs.Loads.{IsOldest, KeptOf, are_different, group_count, kept_in, numbers_of, shut_off}
use Rattle.cache_flush.specs.declared.kept.Kept.{Kept}
use Rattle.cache_flush.proofs.NumberFacts.{left_by}
use Rattle.cache_flush.proofs.ListFacts.{map_append, remove_mapped}
use Rattle.segment_index.specs.Keeping.{AreNumbersOf, HoldGroups}
use Rattle.segment_index.specs.Numbered.{AreNumbered, seen}
use Rattle.segment_index.specs.Rising.{IsLeast}
use Rattle.segment_index.proofs.LoadFacts.{eq_flips, keys_numbers, load_looked, loads_of}
use Rattle.segment_index.proofs.SearchFacts.{number_there}
use Rattle.segment_index.proofs.SwapFacts.{all_swapped, swap_left}

-- the loads of other numbers
abbrev pub others : ℕ → List KeptOf → List KeptOf
others n loads = filter (λ kept. not (kept.load == n)) loads

-- ---- what is left, as a list

pub none_found : (loads : List KeptOf) (n : ℕ) → find (λ kept. kept.load == n) loads ≡ None → others n loads ≡ loads
none_found [] n none = refl
none_found (k ∷ loads) n none =
    elim (cases_Bool (k.load == n)) [
      | inl same ↦ absurd (let here : Some k ≡ None = rw same at none in cc)
      | inr other ↦ rw other (ap (λ (ls : List KeptOf). k ∷ ls) (none_found loads n (rw other at none)))
    ]

none_among : (loads : List KeptOf) (n : ℕ) → among (numbers_of loads) n ≡ false → others n loads ≡ loads
none_among [] n none = refl
none_among (k ∷ loads) n none =
    rw (or_first (k.load == n) (among (numbers_of loads) n) none) (ap (λ (ls : List KeptOf). k ∷ ls) (none_among loads n (or_second (k.load == n) (among (numbers_of loads) n) none)))

-- the numbers of what is left
left_numbers : (loads : List KeptOf) (n m : ℕ) → among (numbers_of (others n loads)) m ≡ (not (n == m) && among (numbers_of loads) m)
left_numbers [] n m = elim (cases_Bool (n == m)) [ inl same ↦ rw same refl | inr other ↦ rw other refl ]
left_numbers (k ∷ loads) n m =
    let rest = left_numbers loads n m in
    elim (cases_Bool (k.load == n)) [
      | inl here ↦
          let e : k.load ≡ n = eqb-true k.load n here in
          elim (cases_Bool (n == m)) [
            | inl same ↦ let none : among (numbers_of (others n loads)) m ≡ false = rw same at rest in rw (here, same, none) refl
            | inr other ↦
                let apart : (k.load == m) ≡ false = rw e other in
                let both : among (numbers_of (others n loads)) m ≡ among (numbers_of loads) m = rw other at rest in
                rw (here, other, apart) both
          ]
      | inr away ↦
          elim (cases_Bool (k.load == m)) [
            | inl same ↦
                let e : k.load ≡ m = eqb-true k.load m same in
                let apart : (n == m) ≡ false = rw (eq_turned n m, ← e) away in
                rw (away, same, apart) refl
            | inr other ↦ rw (away, other) rest
          ]
    ]

-- the groups of what is left
left_groups : (loads : List KeptOf) (n : ℕ) (kept : KeptOf) → are_different (numbers_of loads) ≡ true → find (λ kept. kept.load == n) loads ≡ Some kept → sum_by group_count (others n loads) + group_count kept ≡ sum_by group_count loads
left_groups [] n kept differ found = absurd (cc)
left_groups (k ∷ loads) n kept differ found =
    let parts = and_parts (not (among (numbers_of loads) k.load)) (are_different (numbers_of loads)) differ in
    elim (cases_Bool (k.load == n)) [
      | inl same ↦
          let some : Some k ≡ Some kept = rw same at found in
          let e : k ≡ kept = cc in
          let number : k.load ≡ n = eqb-true k.load n same in
          let none : others n loads ≡ loads = none_among loads n (rw number at (not-true (among (numbers_of loads) k.load) parts.0)) in
          rw (same, none, ← e) (let whole = sum_by-cons group_count k loads in omega (arith, whole))
      | inr other ↦
          let rest = left_groups loads n kept parts.1 (rw other at found) in
          let whole = sum_by-cons group_count k loads in
          let less = sum_by-cons group_count k (others n loads) in
          rw other (omega (arith, rest, whole, less))
    ]

-- ---- where a load is taken out of a map

-- what stands at the place of a key
first_is : (ks : List ℕ) (n i : ℕ) → position_or_len (nat_eq n) ks ≡ i → i < length ks → slice_get ks i ≡ Some n
first_is ks n i placed inside =
    let below : position_or_len (nat_eq n) ks < length ks = rw placed inside in
    let passes : nat_eq n (get_or ks i 0) ≡ true = subst (λ (k : ℕ). nat_eq n (get_or ks k 0) ≡ true) placed (passes_at_first (nat_eq n) ks 0 below) in
    slice_get-get_or ks i 0 inside ∙ ap Some (sym (eqb-true n (get_or ks i 0) passes))

raw_numbered : (regions : List Region) (es : List (ℕ × Kept)) → AreNumbered (seen regions es) → AllByRecursion (λ (e : ℕ × Kept). e.0 ≡ e.1.load) es
raw_numbered regions [] all = tt
raw_numbered regions (e ∷ es) all = (all.0, raw_numbered regions es all.1)

seen_numbered : (regions : List Region) (es : List (ℕ × Kept)) → AllByRecursion (λ (e : ℕ × Kept). e.0 ≡ e.1.load) es → AreNumbered (seen regions es)
seen_numbered regions [] all = tt
seen_numbered regions (e ∷ es) all = (all.0, seen_numbered regions es all.1)

apart_among : (n : ℕ) (ns : List ℕ) → AllByRecursion (λ m. nat_eq n m ≡ false) ns → among ns n ≡ false
apart_among n [] all = refl
apart_among n (m ∷ ns) all = rw (eq_flips m n, all.0) (apart_among n ns all.1)

different_from : (ns : List ℕ) → IsDistinct nat_eq ns → are_different ns ≡ true
unfolding IsDistinct
different_from [] distinct = refl
different_from (n ∷ ns) distinct = rw (apart_among n ns distinct.0) (different_from ns distinct.1)

module _ (regions : List Region) (es : List (ℕ × Kept)) (n : ℕ) (numbered : AreNumbered (seen regions es)) where
  -- the entries that are left
  abbrev pub left_of : List (ℕ × Kept)
  left_of = swap_remove_entry (nat_eq n) es

  pub left_numbered : AreNumbered (seen regions left_of)
  left_numbered = seen_numbered regions left_of (all_swapped (λ (e : ℕ × Kept). e.0 ≡ e.1.load) (nat_eq n) es (raw_numbered regions es numbered))

  pub left_different : IsDistinct nat_eq (keys_of left_of) → are_different (numbers_of (loads_of regions left_of)) ≡ true
  left_different distinct = rw (← keys_numbers regions left_of left_numbered) (different_from (keys_of left_of) distinct)

  number_at : (i : ℕ) → position (nat_eq n) (keys_of es) ≡ Some i → option_map (λ kept. kept.load) (slice_get (loads_of regions es) i) ≡ Some n
  number_at i placed =
      let found = Found-position (nat_eq n) es i placed in
      let inside : i < length (keys_of es) = rw (length-map es (λ e. e.0)) found.within in
      sym (slice_get-map (λ kept. kept.load) (loads_of regions es) i) ∙ ap (λ ks. slice_get ks i) (sym (keys_numbers regions es numbered)) ∙ first_is (keys_of es) n i found.or_len inside

  module _ (differ : are_different (numbers_of (loads_of regions es)) ≡ true) where
    pub left_loads : IsPermutation (others n (loads_of regions es)) (loads_of regions left_of)
    left_loads = by (position (nat_eq n) (keys_of es)) refl
      where
        by : (o : Option ℕ) → position (nat_eq n) (keys_of es) ≡ o → IsPermutation (others n (loads_of regions es)) (loads_of regions left_of)
        by None none =
            let missing = Missing-position (nat_eq n) es none in
            let absent = none_found (loads_of regions es) n (sym (load_looked regions es n numbered) ∙ ap (option_map (kept_in regions)) missing.value) in
            let same = swap_remove_entry-missing (nat_eq n) es none in
            subst (λ ls. IsPermutation ls (loads_of regions left_of)) (sym absent) (subst (λ fs. IsPermutation (loads_of regions es) (loads_of regions fs)) (sym same) (IsPermutation-refl (loads_of regions es)))
        by (Some i) placed =
            let inside = (Found-position (nat_eq n) es i placed).within in
            let d = (item_there es i inside).0 in
            let entry : ℕ × Kept → ℕ × KeptOf = λ e. (e.0, kept_in regions e.1) in
            let load : ℕ × KeptOf → KeptOf = λ e. e.1 in
            let moved = IsPermutation-map load _ _ (IsPermutation-map entry _ _ (swap_left es i d inside)) in
            let left = ap (map load) (remove_mapped entry es i) ∙ remove_mapped load (seen regions es) i ∙ left_by (λ kept. kept.load) (loads_of regions es) i n differ (number_at i placed) in
            subst (λ ls. IsPermutation ls (loads_of regions left_of)) left (subst (λ fs. IsPermutation (loads_of regions (remove es i)) (loads_of regions fs)) (sym (swap_remove_entry-found (nat_eq n) es i d placed)) moved)

    pub left_just : (numbers after : List ℕ) → AreNumbersOf (loads_of regions es) numbers → ((m : ℕ) → among after m ≡ (not (n == m) && among numbers m)) → AreNumbersOf (loads_of regions left_of) after
    left_just numbers after just members m =
        members m ∙ ap (λ b. not (n == m) && b) (just m) ∙ sym (left_numbers (loads_of regions es) n m)
        ∙ list_any-IsPermutation (λ v. v == m) (numbers_of (others n (loads_of regions es))) (numbers_of (loads_of regions left_of)) (IsPermutation-map (λ kept. kept.load) (others n (loads_of regions es)) (loads_of regions left_of) left_loads)

    pub groups_enough : (groups : ℕ) (kept : KeptOf) → HoldGroups (loads_of regions es) groups → find (λ kept. kept.load == n) (loads_of regions es) ≡ Some kept → group_count kept ≤ groups
    groups_enough groups kept (all, small) found =
        let whole = left_groups (loads_of regions es) n kept differ found in
        omega (arith, all, whole)

    pub left_held : (groups : ℕ) (kept : KeptOf) → HoldGroups (loads_of regions es) groups → find (λ kept. kept.load == n) (loads_of regions es) ≡ Some kept → HoldGroups (loads_of regions left_of) (groups - group_count kept)
    left_held groups kept (all, small) found =
        let whole = left_groups (loads_of regions es) n kept differ found in
        let same = sum_by-IsPermutation group_count (others n (loads_of regions es)) (loads_of regions left_of) left_loads in (
          omega (arith, all, whole, same),
          All-permutation (λ kept. group_count kept < 2 ^ 64) (others n (loads_of regions es)) (loads_of regions left_of) left_loads (All-filter (λ kept. not (kept.load == n)) (λ kept. group_count kept < 2 ^ 64) (loads_of regions es) small),
        )

-- ---- where a load is put in

module _ (loads : List KeptOf) (kept : KeptOf) where
  pub more_just : (numbers after : List ℕ) → AreNumbersOf loads numbers → ((m : ℕ) → among after m ≡ (kept.load == m || among numbers m)) → AreNumbersOf (loads ++ kept ∷ []) after
  more_just numbers after just members m =
      members m ∙ ap (λ b. kept.load == m || b) (just m)
      ∙ sym (list_any-IsPermutation (λ v. v == m) (numbers_of loads ++ kept.load ∷ []) (kept.load ∷ numbers_of loads) (IsPermutation-to_front (numbers_of loads) kept.load))
      ∙ ap (λ ns. among ns m) (sym (map_append (λ k. k.load) loads (kept ∷ [])))

  pub more_held : (groups : ℕ) → HoldGroups loads groups → group_count kept < 2 ^ 64 → HoldGroups (loads ++ kept ∷ []) (groups + group_count kept)
  more_held groups (all, small) one =
      (let whole = sum_by_push group_count loads kept in omega (arith, all, whole), All-push (λ kept. group_count kept < 2 ^ 64) loads kept small one)

-- no sum of groups wraps
pub groups_fit : (loads : List KeptOf) (groups more : ℕ) → HoldGroups loads groups → length loads < 2 ^ 64 → more < 2 ^ 64 → groups + more < 2 ^ 128
groups_fit loads groups more (all, small) few one =
    let each : All (λ kept. group_count kept ≤ 18446744073709551615) loads = λ k d inside. (let h = small k d inside in omega (arith, h)) in
    let whole = sum_by-le group_count 18446744073709551615 loads each in
    omega (arith, all, whole)

-- ---- where loads are shut off

module _ (region : Region) where
  sum_shut : (loads : List KeptOf) → sum_by group_count (map (shut_off region) loads) ≡ sum_by group_count loads
  sum_shut [] = refl
  sum_shut (k ∷ loads) = sum_by-cons group_count (shut_off region k) (map (shut_off region) loads) ∙ ap (λ (m : ℕ). group_count k + m) (sum_shut loads) ∙ sym (sum_by-cons group_count k loads)

  pub held_shut : (loads : List KeptOf) (groups : ℕ) → HoldGroups loads groups → HoldGroups (map (shut_off region) loads) groups
  held_shut loads groups (all, small) =
      (all ∙ sym (sum_shut loads), All-map (λ kept. group_count kept < 2 ^ 64) (shut_off region) loads small)

-- ---- the oldest

pub oldest_of : (loads : List KeptOf) (numbers : List ℕ) (r : Option ℕ) → AreNumbersOf loads numbers → IsLeast numbers r → IsOldest loads r
oldest_of [] numbers None just none = refl
oldest_of (k ∷ loads) numbers None just none =
    let here : among numbers k.load ≡ true = just k.load ∙ number_there (k ∷ loads) k (in_first k loads) in
    absurd (true≢false (sym (rw none at here)))
oldest_of loads numbers (Some oldest) just (there, least) = (
  sym (just oldest) ∙ there,
  All-from_member (λ kept. oldest ≤ kept.load) loads
      (λ kept held. All-contains (λ number. oldest ≤ number) numbers kept.load least (among_held numbers kept.load (just kept.load ∙ number_there loads kept held))),
)
