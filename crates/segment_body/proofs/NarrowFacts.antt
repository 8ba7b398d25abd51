-- The rows of a body, group by group, as a header of other columns has them.
use Rattle.std.proofs.Common.{◌≡◌, ◌∙◌, ◌<◌, ◌≤◌, ℕ, ◌+◌, ℤ, List, [], ◌∷◌, ◌++◌, Option, None, Some, length, map, take, filter, flat_map, get_or, bytes_eq, append-nil, length-append, refl, ap, subst, arith, inl, inr}
use Rattle.std.specs.Prelude.{filter_map, option_map}
use Rattle.std.specs.List.{cons_option}
use Rattle.std.specs.List.Sorted.{IsPermutation}
use Rattle.std.proofs.lemmas.Bool.{cases_Bool}
use Rattle.std.proofs.lemmas.List.{take_more, length-map}
use Rattle.std.proofs.lemmas.List.Elements.{filter_map-append}
use Rattle.std.proofs.lemmas.List.Sorted.{IsPermutation-cons, IsPermutation-refl, IsPermutation-trans}
use Rattle.std.proofs.lemmas.List.Concat.{flat_map-append}
use Rattle.std.proofs.lemmas.List.Folds.{length-flat_map-take}
use Rattle.olap_meaning.specs.declared.Aggregator.{Aggregator}
use Rattle.olap_meaning.specs.declared.cells.Header.{Header}
use Rattle.olap_meaning.proofs.Lists.{same_text}
use Rattle.list_orders.proofs.Permutations.{IsPermutation-turned, along_permutation}
use Rattle.segment_body.specs.BodyOf.{different_values, numbers_at}
use Rattle.segment_body.specs.Groups.{Group, group_of, groups_of}
use Rattle.segment_body.specs.Narrowed.{narrowed_group, narrowed_row, narrowed_values, rows_with}
use Rattle.segment_body.proofs.FoldFacts.{all_numbers, rows_parted}

-- what is made of each element where something is, of a permutation
pub IsPermutation-filter_map : {X Y : Type 0} (f : X → Option Y) (xs ys : List X) → IsPermutation xs ys → IsPermutation (filter_map f xs) (filter_map f ys)
IsPermutation-filter_map {X} {Y} f =
    along_permutation (λ xs ys. IsPermutation (filter_map f xs) (filter_map f ys)) (λ xs. IsPermutation-refl (filter_map f xs)) (λ x xs ys held. under (f x) xs ys held) (λ x y xs. turned (f x) (f y) xs) (λ xs ys zs. IsPermutation-trans _ _ _)
  where
    under : (o : Option Y) (xs ys : List X) → IsPermutation (filter_map f xs) (filter_map f ys) → IsPermutation (cons_option o (filter_map f xs)) (cons_option o (filter_map f ys))
    under None xs ys held = held
    under (Some y) xs ys held = IsPermutation-cons y _ _ held

    turned : (o p : Option Y) (xs : List X) → IsPermutation (cons_option o (cons_option p (filter_map f xs))) (cons_option p (cons_option o (filter_map f xs)))
    turned None None xs = IsPermutation-refl _
    turned None (Some y) xs = IsPermutation-refl _
    turned (Some x) None xs = IsPermutation-refl _
    turned (Some x) (Some y) xs = IsPermutation-turned x y (filter_map f xs)

module _ (wide header : Header) where
  -- rows of one list of values as another header has them
  part_narrowed : (k : List ℕ) (values : Option (List ℕ)) → narrowed_values wide header k ≡ values → (rows : List (List ℕ × Option ℤ))
      → filter_map (narrowed_row wide header) (filter (λ (row : List ℕ × Option ℤ). bytes_eq k row.0) rows) ≡ rows_with values (numbers_at rows k)
  part_narrowed k None is [] = refl
  part_narrowed k (Some values) is [] = refl
  part_narrowed k values is (row ∷ rows) =
      elim (cases_Bool (bytes_eq k row.0)) [
        | inl same ↦ rw (same, one row (same_text k row.0 same)) (more values (row.1) (part_narrowed k values is rows))
        | inr other ↦ rw other (part_narrowed k values is rows)
      ]
    where
      one : (r : List ℕ × Option ℤ) → k ≡ r.0 → narrowed_row wide header r ≡ option_map (λ vs. (vs, r.1)) values
      one r same = ap (λ (vs : Option (List ℕ)). option_map (λ v. (v, r.1)) vs) (subst (λ (v : List ℕ). narrowed_values wide header v ≡ values) same is)

      more : (vs : Option (List ℕ)) (n : Option ℤ) → filter_map (narrowed_row wide header) (filter (λ (r : List ℕ × Option ℤ). bytes_eq k r.0) rows) ≡ rows_with vs (numbers_at rows k)
          → cons_option (option_map (λ v. (v, n)) vs) (filter_map (narrowed_row wide header) (filter (λ (r : List ℕ × Option ℤ). bytes_eq k r.0) rows)) ≡ rows_with vs (n ∷ numbers_at rows k)
      more None n rest = rest
      more (Some v) n rest = ap (λ (l : List (List ℕ × Option ℤ)). (v, n) ∷ l) rest

  parts_narrowed : (a : Aggregator) (rows : List (List ℕ × Option ℤ)) (keys : List (List ℕ))
      → filter_map (narrowed_row wide header) (flat_map (λ (k : List ℕ). filter (λ (row : List ℕ × Option ℤ). bytes_eq k row.0) rows) keys) ≡ flat_map (narrowed_group wide header) (map (group_of a rows) keys)
  parts_narrowed a rows [] = refl
  parts_narrowed a rows (k ∷ keys) =
      filter_map-append (narrowed_row wide header) (filter (λ (row : List ℕ × Option ℤ). bytes_eq k row.0) rows) (flat_map (λ (j : List ℕ). filter (λ (row : List ℕ × Option ℤ). bytes_eq j row.0) rows) keys)
      ∙ rw (part_narrowed k (narrowed_values wide header k) refl rows, parts_narrowed a rows keys) refl

  -- the rows of all groups as another header has them are its rows, in some order
  pub groups_narrowed : (a : Aggregator) (rows : List (List ℕ × Option ℤ)) → IsPermutation (filter_map (narrowed_row wide header) rows) (flat_map (narrowed_group wide header) (groups_of a rows))
  groups_narrowed a rows =
      subst (IsPermutation (filter_map (narrowed_row wide header) rows)) (parts_narrowed a rows (different_values rows)) (IsPermutation-filter_map (narrowed_row wide header) rows _ (rows_parted rows))

  narrowed_few : (values : Option (List ℕ)) (numbers : List (Option ℤ)) → length (rows_with values numbers) ≤ length numbers
  narrowed_few None numbers = omega arith
  narrowed_few (Some vs) numbers = omega (arith, length-map {B = List ℕ × Option ℤ} numbers (λ (number : Option ℤ). (vs, number)))

  narrowed_fits : (groups : List Group) → length (flat_map (narrowed_group wide header) groups) ≤ length (all_numbers groups)
  narrowed_fits [] = omega arith
  narrowed_fits (g ∷ gs) =
      omega (arith, narrowed_fits gs, narrowed_few (narrowed_values wide header g.values) g.tally.values, length-append g.tally.values (all_numbers gs), length-append (narrowed_group wide header g) (flat_map (narrowed_group wide header) gs))

  -- there is room for one group more
  pub narrowed_room : (groups : List Group) (i : ℕ) (g : Group) → i < length groups → g ≡ get_or groups i g → length (flat_map (narrowed_group wide header) (take i groups)) + length g.tally.values ≤ length (all_numbers groups)
  narrowed_room groups i g inside here =
      let fits = narrowed_fits (take i groups) in
      let room = rw (← here) at (length-flat_map-take (λ (group : Group). group.tally.values) groups i g inside) in
      omega arith

  -- the rows of one group more
  pub narrowed_more : (groups : List Group) (i : ℕ) (g : Group) → i < length groups → g ≡ get_or groups i g
      → flat_map (narrowed_group wide header) (take (i + 1) groups) ≡ flat_map (narrowed_group wide header) (take i groups) ++ narrowed_group wide header g
  narrowed_more groups i g inside here =
      rw (take_more groups i g inside, flat_map-append (narrowed_group wide header) (take i groups) (get_or groups i g ∷ []), ← here)
      (ap (λ (rows : List (List ℕ × Option ℤ)). flat_map (narrowed_group wide header) (take i groups) ++ rows) (append-nil (narrowed_group wide header g)))
