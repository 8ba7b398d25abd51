-- Texts that are all different, and how many different ones some texts have.
use Rattle.std.proofs.Common.{◌≡◌, ◌∙◌, ◌≤◌, ℕ, zero, suc, Bool, true, false, not, List, [], ◌∷◌, Contains, sym, subst, refl, le_antisymm, arith, filter, length, bytes_eq, inl, inr}
use Rattle.std.specs.List.{AllByRecursion, IsDistinct, list_any, remove}
use Rattle.std.specs.List.Sorted.{IsPermutation}
use Rattle.std.proofs.lemmas.Bool.{cases_Bool}
use Rattle.std.proofs.lemmas.Cmp.{nat_list_eq_equiv}
use Rattle.std.proofs.lemmas.List.Sorted.{Contains-permutation, IsPermutation-cons, IsPermutation-refl, IsPermutation-remove, IsPermutation-sym, IsPermutation-trans, length_permutation, list_any-IsPermutation}
use Rattle.std.proofs.lemmas.Map.Keys.{IsDistinct-cons, IsDistinct-head, IsDistinct-tail}
use Rattle.std.proofs.lemmas.Map.Views.{list_any-from_Contains}
use Rattle.olap_meaning.specs.Catalog.{first_appearances}
use Rattle.olap_meaning.proofs.Appearances.{any-same}
use Rattle.olap_meaning.proofs.Lists.{same_text}

-- a text that equals one of some texts is one of them
pub contained : (x : List ℕ) (xs : List (List ℕ)) → list_any (bytes_eq x) xs ≡ true → Contains xs x
contained x [] h = absurd (cc)
contained x (y ∷ ys) h = elim (cases_Bool (bytes_eq x y)) [
  | inl same ↦ (zero, omega arith, sym (same_text x y same))
  | inr other ↦ let rest = contained x ys (rw other at h) in (suc rest.0, omega (arith, rest.1), rest.2)
]

pub seen_in : (x : List ℕ) (xs : List (List ℕ)) → Contains xs x → list_any (bytes_eq x) xs ≡ true
seen_in x xs h = list_any-from_Contains nat_list_eq_equiv x xs h

-- each of the texts after one that differs from them differs from it
pub later_differs : (x y : List ℕ) (xs : List (List ℕ)) → AllByRecursion (λ z. bytes_eq x z ≡ false) xs → Contains xs y → bytes_eq x y ≡ false
later_differs x y [] each at = absurd (omega (arith, at.1))
later_differs x y (z ∷ zs) each (zero, within, is) = subst (λ w. bytes_eq x w ≡ false) is each.0
later_differs x y (z ∷ zs) each (suc k, within, is) = later_differs x y zs each.1 (k, omega (arith, within), is)

-- what is left of some texts without one of them
pub record IsLeft (x : List ℕ) (xs ys : List (List ℕ)) : Type 0 where
  pub rest : List (List ℕ)
  pub moved : IsPermutation ys (x ∷ rest)
  pub within : (z : List ℕ) → Contains xs z → Contains rest z

-- different texts are among others: the first one is taken out of these
pub taken_out : (x : List ℕ) (xs ys : List (List ℕ)) → IsDistinct bytes_eq (x ∷ xs) → ((z : List ℕ) → Contains (x ∷ xs) z → Contains ys z) → IsLeft x xs ys
taken_out x xs ys different within =
    let at = within x (zero, omega arith, refl) in
    let moved : IsPermutation ys (x ∷ remove ys at.0) = IsPermutation-remove ys at.0 x at.1 (sym at.2) in
    record {
      rest = remove ys at.0;
      moved = moved;
      within = λ z there. by (remove ys at.0) z (later_differs x z xs (IsDistinct-head bytes_eq x xs different) there)
          (Contains-permutation ys (x ∷ remove ys at.0) z moved (within z (suc there.0, omega (arith, there.1), there.2)));
    }
  where
    by : (rest : List (List ℕ)) (z : List ℕ) → bytes_eq x z ≡ false → Contains (x ∷ rest) z → Contains rest z
    by rest z apart (zero, within, is) = let same : bytes_eq x x ≡ true = nat_list_eq_equiv.refl x in let bad : bytes_eq x x ≡ false = subst (λ w. bytes_eq x w ≡ false) (sym is) apart in absurd (cc)
    by rest z apart (suc k, within, is) = (k, omega (arith, within), is)

-- different texts that are among others are no more than these
pub no_more : (xs ys : List (List ℕ)) → IsDistinct bytes_eq xs → ((x : List ℕ) → Contains xs x → Contains ys x) → length xs ≤ length ys
no_more [] ys different within = omega arith
no_more (x ∷ xs) ys different within =
    let left = taken_out x xs ys different within in
    let long : length (x ∷ left.rest) ≡ length ys = length_permutation ys (x ∷ left.rest) left.moved in
    let few = no_more xs left.rest (IsDistinct-tail bytes_eq x xs different) left.within in
    omega (arith, few, long)

-- and where they are no fewer, they are these except for their order
pub same_texts : (xs ys : List (List ℕ)) → IsDistinct bytes_eq xs → ((x : List ℕ) → Contains xs x → Contains ys x) → length ys ≤ length xs → IsPermutation ys xs
same_texts [] [] different within few = IsPermutation-refl []
same_texts [] (y ∷ ys) different within few = absurd (omega (arith, few))
same_texts (x ∷ xs) ys different within few =
    let left = taken_out x xs ys different within in
    let long : length (x ∷ left.rest) ≡ length ys = length_permutation ys (x ∷ left.rest) left.moved in
    IsPermutation-trans ys (x ∷ left.rest) (x ∷ xs) left.moved
    (IsPermutation-cons x left.rest xs (same_texts xs left.rest (IsDistinct-tail bytes_eq x xs different) left.within (omega (arith, few, long))))

-- each text but once is different from the others
pub filter_differs : (x : List ℕ) (xs : List (List ℕ)) → AllByRecursion (λ z. bytes_eq x z ≡ false) (filter (λ other. not (bytes_eq x other)) xs)
filter_differs x [] = tt
filter_differs x (y ∷ ys) = elim (cases_Bool (bytes_eq x y)) [
  | inl same ↦ rw same (filter_differs x ys)
  | inr other ↦ rw other (other, filter_differs x ys)
]

pub filter_recursion : (P : List ℕ → Type 0) (p : List ℕ → Bool) (xs : List (List ℕ)) → AllByRecursion P xs → AllByRecursion P (filter p xs)
filter_recursion P p [] each = tt
filter_recursion P p (x ∷ xs) each = elim (cases_Bool (p x)) [
  | inl is ↦ rw is (each.0, filter_recursion P p xs each.1)
  | inr is ↦ rw is (filter_recursion P p xs each.1)
]

pub filter_distinct : (p : List ℕ → Bool) (xs : List (List ℕ)) → IsDistinct bytes_eq xs → IsDistinct bytes_eq (filter p xs)
filter_distinct p [] different = different
filter_distinct p (x ∷ xs) different =
    let rest = filter_distinct p xs (IsDistinct-tail bytes_eq x xs different) in
    elim (cases_Bool (p x)) [
      | inl is ↦ rw is (IsDistinct-cons bytes_eq x (filter p xs) (filter_recursion (λ z. bytes_eq x z ≡ false) p xs (IsDistinct-head bytes_eq x xs different)) rest)
      | inr is ↦ rw is rest
    ]

pub nothing_distinct : IsDistinct bytes_eq []
unfolding IsDistinct
nothing_distinct = tt

pub appearances_differ : (xs : List (List ℕ)) → IsDistinct bytes_eq (first_appearances xs)
appearances_differ [] = nothing_distinct
appearances_differ (x ∷ xs) =
    IsDistinct-cons bytes_eq x _ (filter_differs x (first_appearances xs)) (filter_distinct (λ other. not (bytes_eq x other)) (first_appearances xs) (appearances_differ xs))

-- texts in another order have as many different ones
pub appearances_counted : (xs ys : List (List ℕ)) → IsPermutation xs ys → length (first_appearances xs) ≡ length (first_appearances ys)
appearances_counted xs ys moved = le_antisymm (few xs ys moved) (few ys xs (IsPermutation-sym xs ys moved))
  where
    few : (xs ys : List (List ℕ)) → IsPermutation xs ys → length (first_appearances xs) ≤ length (first_appearances ys)
    few xs ys moved =
        no_more (first_appearances xs) (first_appearances ys) (appearances_differ xs)
        (λ x held. contained x (first_appearances ys)
        (any-same (bytes_eq x) ys ∙ sym (list_any-IsPermutation (bytes_eq x) xs ys moved) ∙ sym (any-same (bytes_eq x) xs) ∙ seen_in x (first_appearances xs) held))
