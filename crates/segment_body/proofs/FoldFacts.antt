-- Groups folded into one tally.
use Rattle.std.proofs.Common.{◌≡◌, ◌∙◌, ◌<◌, ◌≤◌, ℕ, ◌+◌, ℤ, Bool, true, false, List, [], ◌∷◌, ◌++◌, Option, if◌then◌else◌, length, map, take, filter, flat_map, get_or, bytes_eq, append-nil, append_assoc, length-append, refl, sym, ap, subst, arith, inl, inr}
use Rattle.std.specs.Prelude.{All}
use Rattle.std.specs.List.{list_any, list_all}
use Rattle.std.specs.List.Sorted.{IsPermutation}
use Rattle.std.proofs.lemmas.Bool.{and_parts, and_from, cases_Bool}
use Rattle.std.proofs.lemmas.List.{take_more, length-map}
use Rattle.std.proofs.lemmas.List.Elements.{All-map, All-same, Contains-append_right}
use Rattle.std.proofs.lemmas.List.Concat.{flat_map-append}
use Rattle.std.proofs.lemmas.List.Folds.{length-flat_map-take}
use Rattle.std.proofs.lemmas.List.Sorted.{IsPermutation-map, length_permutation}
use Rattle.olap_meaning.specs.declared.Aggregator.{Aggregator}
use Rattle.olap_meaning.specs.declared.TheConstants.{ROW_LIMIT}
use Rattle.olap_meaning.specs.declared.cells.Header.{Header}
use Rattle.measure_folds.specs.Tallied.{Tallied}
use Rattle.list_orders.specs.Parts.{hold_keys}
use Rattle.olap_meaning.proofs.Members.{any_member, in_first}
use Rattle.olap_meaning.proofs.Lists.{flat_map_agree, map-flat_map, same_text, text_self, text_turned}
use Rattle.list_orders.proofs.Parts.{parts_permute}
use Rattle.list_orders.proofs.Permutations.{filter-filter}
use Rattle.segment_body.specs.Groups.{Group}
use Rattle.segment_body.specs.BodyOf.{numbers_at, different_values, has_row}
use Rattle.segment_body.specs.Folds.{picked, numbers_where}
use Rattle.segment_body.specs.Groups.{group_of, groups_of, AreHeld, rows_of}
use Rattle.segment_body.proofs.RowFacts.{apart_different, among_different}

-- the numbers of groups
abbrev pub all_numbers : List Group → List (Option ℤ)
all_numbers groups = flat_map (λ (group : Group). group.tally.values) groups

module _ (test : List ℕ → Bool) where
  -- those of one group more
  pub picked_more : (groups : List Group) (i : ℕ) (g : Group) → i < length groups → g ≡ get_or groups i g → picked test (take (i + 1) groups) ≡ picked test (take i groups) ++ (if test g.values then g.tally.values else [])
  picked_more groups i g inside here =
      rw (take_more groups i g inside, flat_map-append (λ (group : Group). if test group.values then group.tally.values else []) (take i groups) (get_or groups i g ∷ []), ← here)
      (ap (λ (ns : List (Option ℤ)). picked test (take i groups) ++ ns) (append-nil (if test g.values then g.tally.values else [])))

  pub picked_fits : (groups : List Group) → length (picked test groups) ≤ length (all_numbers groups)
  picked_fits [] = omega arith
  picked_fits (g ∷ gs) =
      let rest = picked_fits gs in
      let all = length-append g.tally.values (all_numbers gs) in
      elim (cases_Bool (test g.values)) [
        | inl passes ↦ rw passes (omega (arith, length-append g.tally.values (picked test gs)))
        | inr fails ↦ rw fails (omega arith)
      ]

  pub picked_room : (groups : List Group) (i : ℕ) (g : Group) → i < length groups → g ≡ get_or groups i g → length (picked test (take i groups)) + length g.tally.values ≤ length (all_numbers groups)
  picked_room groups i g inside here =
      let fits = picked_fits (take i groups) in
      let room = rw (← here) at (length-flat_map-take (λ (group : Group). group.tally.values) groups i g inside) in
      omega arith

  -- a group whose values pass is merged, and another is not
  pub picked_yes : (groups : List Group) (i : ℕ) (g : Group) (a : Aggregator) (old new : Tallied) → i < length groups → g ≡ get_or groups i g → test g.values ≡ true
      → old ≡ record { aggregator = a; values = picked test (take i groups) } → new ≡ record { aggregator = old.aggregator; values = old.values ++ g.tally.values }
      → new ≡ record { aggregator = a; values = picked test (take (i + 1) groups) }
  picked_yes groups i g a old new inside here passes was is =
      is ∙ rw (was, picked_more groups i g inside here, passes) refl

  pub picked_no : (groups : List Group) (i : ℕ) (g : Group) (a : Aggregator) (old : Tallied) → i < length groups → g ≡ get_or groups i g → test g.values ≡ false
      → old ≡ record { aggregator = a; values = picked test (take i groups) } → old ≡ record { aggregator = a; values = picked test (take (i + 1) groups) }
  picked_no groups i g a old inside here fails was =
      was ∙ rw (picked_more groups i g inside here, fails) (ap (λ (ns : List (Option ℤ)). tallied a ns) (sym (append-nil (picked test (take i groups)))))
    where
      tallied : Aggregator → List (Option ℤ) → Tallied
      tallied aggregator values = record { aggregator = aggregator; values = values }

-- each of some rows has its values among those of all
known_keys : (rows : List (List ℕ × Option ℤ)) (some : List (List ℕ × Option ℤ)) (keys : List (List ℕ)) → ((row : List ℕ × Option ℤ) → has_row rows row.0 ≡ true → list_any (bytes_eq row.0) keys ≡ true)
    → list_all (λ (row : List ℕ × Option ℤ). has_row rows row.0) some ≡ true → hold_keys bytes_eq (λ (row : List ℕ × Option ℤ). row.0) keys some ≡ true
known_keys rows [] keys told known = refl
known_keys rows (row ∷ some) keys told known =
    let parts = and_parts (has_row rows row.0) (list_all (λ (row : List ℕ × Option ℤ). has_row rows row.0) some) known in
    let rest = known_keys rows some keys told parts.1 in
    let found : list_any (λ k. bytes_eq k row.0) keys ≡ true = ap (λ (t : List ℕ → Bool). list_any t keys) (λ i k. text_turned k row.0 i) ∙ told row parts.0 in
    and_from (list_any (λ k. bytes_eq k row.0) keys) (hold_keys bytes_eq (λ (row : List ℕ × Option ℤ). row.0) keys some) found rest

-- a row is one of those that it stands among
rows_known : (test : (List ℕ × Option ℤ) → Bool) (before rows : List (List ℕ × Option ℤ)) → list_all (λ (row : List ℕ × Option ℤ). has_row (before ++ rows) row.0) (filter test rows) ≡ true
rows_known test before [] = refl
rows_known test before (row ∷ rows) =
    let rest : list_all (λ (r : List ℕ × Option ℤ). has_row (before ++ row ∷ rows) r.0) (filter test rows) ≡ true = subst (λ (all : List (List ℕ × Option ℤ)). list_all (λ (r : List ℕ × Option ℤ). has_row all r.0) (filter test rows) ≡ true) (append_assoc before (row ∷ []) rows) (rows_known test (before ++ row ∷ []) rows) in
    let here : has_row (before ++ row ∷ rows) row.0 ≡ true = any_member (λ (r : List ℕ × Option ℤ). bytes_eq row.0 r.0) (before ++ row ∷ rows) row (Contains-append_right before (row ∷ rows) row (in_first row rows)) (text_self row.0) in
    elim (cases_Bool (test row)) [ inl passes ↦ rw passes (and_from (has_row (before ++ row ∷ rows) row.0) _ here rest) | inr fails ↦ rw fails rest ]

module _ (a : Aggregator) (test : List ℕ → Bool) (rows : List (List ℕ × Option ℤ)) where
  abbrev kept : List (List ℕ × Option ℤ)
  kept = filter (λ (row : List ℕ × Option ℤ). test row.0) rows

  -- the rows with some values among those that pass
  part_of : (d : List ℕ) → map (λ (row : List ℕ × Option ℤ). row.1) (filter (λ (row : List ℕ × Option ℤ). bytes_eq d row.0) kept) ≡ (if test d then numbers_at rows d else [])
  part_of d =
      elim (cases_Bool (test d)) [
        | inl passes ↦ rw (passes, filter-filter (λ (row : List ℕ × Option ℤ). bytes_eq d row.0) (λ (row : List ℕ × Option ℤ). test row.0) (λ row same. subst (λ (v : List ℕ). test v ≡ true) (same_text d row.0 same) passes) rows) refl
        | inr fails ↦ rw (fails, none_left rows fails) refl
      ]
    where
      none_left : (rs : List (List ℕ × Option ℤ)) → test d ≡ false → filter (λ (row : List ℕ × Option ℤ). bytes_eq d row.0) (filter (λ (row : List ℕ × Option ℤ). test row.0) rs) ≡ []
      none_left [] fails = refl
      none_left (row ∷ rs) fails =
          let rest = none_left rs fails in
          elim (cases_Bool (test row.0)) [
            | inr out ↦ rw out rest
            | inl passes ↦
                elim (cases_Bool (bytes_eq d row.0)) [
                  | inl same ↦ let e = subst (λ (v : List ℕ). test v ≡ false) (same_text d row.0 same) fails in absurd (cc)
                  | inr other ↦ rw (passes, other) rest
                ]
          ]

  picked_groups : (ds : List (List ℕ)) → picked test (map (group_of a rows) ds) ≡ flat_map (λ d. if test d then numbers_at rows d else []) ds
  picked_groups [] = refl
  picked_groups (d ∷ ds) = rw (picked_groups ds) refl

  -- the numbers of the groups whose values pass are those of the rows whose values pass, in some order
  pub picked_permutes : IsPermutation (numbers_where (λ (row : List ℕ × Option ℤ). test row.0) rows) (picked test (groups_of a rows))
  picked_permutes =
      let keys = different_values rows in
      let held : hold_keys bytes_eq (λ (row : List ℕ × Option ℤ). row.0) keys kept ≡ true = known_keys rows kept keys (λ row known. among_different row.0 rows ∙ known) (rows_known (λ (row : List ℕ × Option ℤ). test row.0) [] rows) in
      let parted = parts_permute bytes_eq same_text text_self (λ (row : List ℕ × Option ℤ). row.0) keys kept (apart_different rows) held in
      let numbers = IsPermutation-map (λ (row : List ℕ × Option ℤ). row.1) kept _ parted in
      let each = map-flat_map (λ (row : List ℕ × Option ℤ). row.1) (λ (k : List ℕ). filter (λ (row : List ℕ × Option ℤ). bytes_eq k row.0) kept) keys ∙ flat_map_agree _ (λ d. if test d then numbers_at rows d else []) part_of keys ∙ sym (picked_groups keys) in
      subst (IsPermutation (numbers_where (λ (row : List ℕ × Option ℤ). test row.0) rows)) each numbers

all_kept : (rows : List (List ℕ × Option ℤ)) → filter (λ (row : List ℕ × Option ℤ). true) rows ≡ rows
all_kept [] = refl
all_kept (row ∷ rows) = ap (λ l. row ∷ l) (all_kept rows)

-- all numbers of the groups of rows are as many as the rows
pub numbers_counted : (a : Aggregator) (rows : List (List ℕ × Option ℤ)) → length (all_numbers (groups_of a rows)) ≡ length rows
numbers_counted a rows =
    length_permutation _ _ (picked_permutes a (λ values. true) rows) ∙ length-map (filter (λ (row : List ℕ × Option ℤ). true) rows) (λ (row : List ℕ × Option ℤ). row.1) ∙ ap length (all_kept rows)

-- rows are those of their different values, one list of values after another, in some order
pub rows_parted : (rows : List (List ℕ × Option ℤ)) → IsPermutation rows (flat_map (λ (k : List ℕ). filter (λ (row : List ℕ × Option ℤ). bytes_eq k row.0) rows) (different_values rows))
rows_parted rows =
    let known : list_all (λ (row : List ℕ × Option ℤ). has_row rows row.0) rows ≡ true = subst (λ (l : List (List ℕ × Option ℤ)). list_all (λ (row : List ℕ × Option ℤ). has_row rows row.0) l ≡ true) (all_kept rows) (rows_known (λ (row : List ℕ × Option ℤ). true) [] rows) in
    parts_permute bytes_eq same_text text_self (λ (row : List ℕ × Option ℤ). row.0) (different_values rows) rows (apart_different rows) (known_keys rows rows (different_values rows) (λ row known. among_different row.0 rows ∙ known) known)

-- each tally of the groups of rows is of the aggregator
pub groups_alike : (a : Aggregator) (rows : List (List ℕ × Option ℤ)) → All (λ group. group.tally.aggregator ≡ a) (groups_of a rows)
groups_alike a rows = All-map (λ (group : Group). group.tally.aggregator ≡ a) (group_of a rows) (different_values rows) (λ k d inside. refl)

-- groups that hold rows
module _ (h : Header) (a : Aggregator) (groups : List Group) (places : List (ℕ × Option ℤ)) (held : AreHeld h a groups places (rows_of groups places)) (gs : List Group) (same : gs ≡ groups) where
  pub held_alike : All (λ group. group.tally.aggregator ≡ a) gs
  held_alike = All-same (λ (group : Group). group.tally.aggregator ≡ a) gs (groups_of a (rows_of groups places)) (same ∙ held.grouped) (groups_alike a (rows_of groups places))

  pub held_room : length (all_numbers gs) ≤ ROW_LIMIT
  held_room =
      let count : length (all_numbers gs) ≡ length (rows_of groups places) = ap (λ (l : List Group). length (all_numbers l)) (same ∙ held.grouped) ∙ numbers_counted a (rows_of groups places) in
      omega (arith, held.room)

  pub held_picked : (test : List ℕ → Bool) → IsPermutation (numbers_where (λ (row : List ℕ × Option ℤ). test row.0) (rows_of groups places)) (picked test gs)
  held_picked test =
      subst (λ (l : List Group). IsPermutation (numbers_where (λ (row : List ℕ × Option ℤ). test row.0) (rows_of groups places)) (picked test l)) (sym (same ∙ held.grouped)) (picked_permutes a test (rows_of groups places))
