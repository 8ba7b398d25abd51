-- What is left of a list where one element goes and the last takes its place.
use Rattle.std.proofs.Common.{◌≡◌, ◌∙◌, ◌<◌, ◌-◌, ◌++◌, ℕ, zero, suc, Bool, List, [], ◌∷◌, Option, None, Some, refl, sym, ap, subst, arith, take, drop, set, get_or, length, remove, position}
use Rattle.std.specs.List.{AllByRecursion, swap_remove}
use Rattle.std.specs.List.Sorted.{IsPermutation}
use Rattle.std.specs.Map.{keys_of}
use Rattle.std.proofs.Math.Seq.{take-suc}
use Rattle.std.proofs.lemmas.List.{take_all}
use Rattle.std.proofs.lemmas.List.Elements.{All-append, All-drop, All-from_recursion, All-take, recursion_from_All}
use Rattle.std.proofs.lemmas.List.Sorted.{All-permutation, IsPermutation-cons, IsPermutation-refl, IsPermutation-to_front}
use Rattle.indexmap.specs.IndexMap.{swap_remove_entry}
use Rattle.indexmap.proofs.MapLemmas.{Found-position, swap_remove_entry-found, swap_remove_entry-missing}

module _ {X : Type 0} where
  swapped_first : (x : X) (xs : List X) (d : X) → IsPermutation xs (swap_remove (x ∷ xs) zero d)
  swapped_first x [] d = IsPermutation-refl []
  swapped_first x (y ∷ ys) d =
      let n = length ys in
      let last = get_or (y ∷ ys) n d in
      let short : suc (suc n) - 1 ≡ suc n = omega arith in
      let whole : y ∷ ys ≡ take n (y ∷ ys) ++ last ∷ [] = sym (take_all (suc n) (y ∷ ys) (omega arith)) ∙ take-suc (y ∷ ys) n d (omega arith) in
      let same : swap_remove (x ∷ y ∷ ys) zero d ≡ last ∷ take n (y ∷ ys) = ap (λ k. take k (set (x ∷ y ∷ ys) zero (get_or (x ∷ y ∷ ys) k d))) short in
      subst (λ zs. IsPermutation zs (swap_remove (x ∷ y ∷ ys) zero d)) (sym whole)
      (subst (IsPermutation (take n (y ∷ ys) ++ last ∷ [])) (sym same) (IsPermutation-to_front (take n (y ∷ ys)) last))

  swapped_later : (x : X) (xs : List X) (i : ℕ) (d : X) → i < length xs → swap_remove (x ∷ xs) (suc i) d ≡ x ∷ swap_remove xs i d
  swapped_later x [] i d inside = absurd (omega arith)
  swapped_later x (y ∷ ys) i d inside =
      let n = length ys in
      let short : suc (suc n) - 1 ≡ suc n = omega arith in
      let less : suc n - 1 ≡ n = omega arith in
      ap (λ k. take k (set (x ∷ y ∷ ys) (suc i) (get_or (x ∷ y ∷ ys) k d))) short
      ∙ ap (λ k. x ∷ take k (set (y ∷ ys) i (get_or (y ∷ ys) k d))) (sym less)

  -- the same elements are left as where the others keep their order
  pub swap_left : (xs : List X) (i : ℕ) (d : X) → i < length xs → IsPermutation (remove xs i) (swap_remove xs i d)
  swap_left [] i d inside = absurd (omega arith)
  swap_left (x ∷ xs) zero d inside = swapped_first x xs d
  swap_left (x ∷ xs) (suc i) d inside =
      subst (IsPermutation (x ∷ remove xs i)) (sym (swapped_later x xs i d (omega arith))) (IsPermutation-cons x (remove xs i) (swap_remove xs i d) (swap_left xs i d (omega arith)))

-- what holds of each element still does where one goes
all_removed : {X : Type 0} (P : X → Type 0) (xs : List X) (i : ℕ) (d : X) → i < length xs → AllByRecursion P xs → AllByRecursion P (swap_remove xs i d)
all_removed P xs i d inside all =
    let each = All-from_recursion P xs all in
    let left = All-append P (take i xs) (drop (suc i) xs) (All-take P i xs each) (All-drop P (suc i) xs each) in
    recursion_from_All P (swap_remove xs i d) (All-permutation P (remove xs i) (swap_remove xs i d) (swap_left xs i d inside) left)

-- so it does of the entries of a map
pub all_swapped : {K V : Type 0} (P : K × V → Type 0) (t : K → Bool) (es : List (K × V)) → AllByRecursion P es → AllByRecursion P (swap_remove_entry t es)
all_swapped P t [] all = tt
all_swapped P t (e ∷ es) all = by (position t (keys_of (e ∷ es))) refl
  where
    by : (o : Option ℕ) → position t (keys_of (e ∷ es)) ≡ o → AllByRecursion P (swap_remove_entry t (e ∷ es))
    by None none = subst (AllByRecursion P) (sym (swap_remove_entry-missing t (e ∷ es) none)) all
    by (Some i) at =
        subst (AllByRecursion P) (sym (swap_remove_entry-found t (e ∷ es) i e at)) (all_removed P (e ∷ es) i e (Found-position t (e ∷ es) i at).within all)
