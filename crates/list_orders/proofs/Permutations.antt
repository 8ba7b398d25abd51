-- What holds along a permutation.
use Rattle.std.proofs.Common.{◌≡◌, ◌<◌, ℕ, zero, suc, Bool, true, List, [], ◌∷◌, length, filter, flat_map, get_or, set, swap, refl, subst, arith, inl, inr}
use Rattle.std.specs.List.Sorted.{IsPermutation}
use Rattle.std.specs.List.{list_all}
use Rattle.std.proofs.lemmas.Bool.{and_parts, cases_Bool}
use Rattle.std.proofs.lemmas.List.Sorted.{IsPermutation-refl, IsPermutation-cons, IsPermutation-keeps, IsPermutation-trans, IsPermutation-append_left, IsPermutation-append_comm}

-- a relation that is reflexive and transitive, and goes under a head and over an exchange of two heads, holds along each permutation
module _ {X : Type 0} (R : List X → List X → Type 0) (same : (xs : List X) → R xs xs)
    (under : (x : X) (xs ys : List X) → R xs ys → R (x ∷ xs) (x ∷ ys))
    (turned : (x y : X) (xs : List X) → R (x ∷ y ∷ xs) (y ∷ x ∷ xs))
    (joined : (xs ys zs : List X) → R xs ys → R ys zs → R xs zs) where
  to_head : (xs : List X) (j : ℕ) (x d : X) → j < length xs → R (x ∷ xs) (get_or xs j d ∷ set xs j x)
  to_head [] j x d inside = absurd (omega arith)
  to_head (y ∷ ys) zero x d inside = turned x y ys
  to_head (y ∷ ys) (suc j) x d inside =
      joined _ _ _ (turned x y ys) (joined _ _ _ (under y _ _ (to_head ys j x d (omega arith))) (turned y (get_or ys j d) (set ys j x)))

  exchanged : (xs : List X) (i j : ℕ) (d : X) → i < length xs → j < length xs → R xs (set (set xs i (get_or xs j d)) j (get_or xs i d))
  exchanged [] i j d first second = absurd (omega arith)
  exchanged (x ∷ xs) zero zero d first second = same (x ∷ xs)
  exchanged (x ∷ xs) zero (suc j) d first second = to_head xs j x d (omega arith)
  exchanged (x ∷ xs) (suc i) zero d first second = to_head xs i x d (omega arith)
  exchanged (x ∷ xs) (suc i) (suc j) d first second = under x _ _ (exchanged xs i j d (omega arith) (omega arith))

  swapped : (xs : List X) (i j : ℕ) → i < length xs → j < length xs → R xs (swap xs i j)
  swapped [] i j first second = same []
  swapped (x ∷ xs) i j first second = exchanged (x ∷ xs) i j x first second

  pub along_permutation : (xs ys : List X) → IsPermutation xs ys → R xs ys
  along_permutation xs = IsPermutation-keeps xs (R xs) (same xs) (λ l i j first second held. joined xs l _ held (swapped l i j first second))

pub IsPermutation-same : {X : Type 0} (xs ys : List X) → xs ≡ ys → IsPermutation xs ys
IsPermutation-same xs ys e = subst (IsPermutation xs) e (IsPermutation-refl xs)

pub IsPermutation-turned : {X : Type 0} (x y : X) (xs : List X) → IsPermutation (x ∷ y ∷ xs) (y ∷ x ∷ xs)
IsPermutation-turned x y xs = IsPermutation-append_left xs (x ∷ y ∷ []) (y ∷ x ∷ []) (IsPermutation-append_comm (x ∷ []) (y ∷ []))

-- a filter of a permutation
pub IsPermutation-filter : {X : Type 0} (p : X → Bool) (xs ys : List X) → IsPermutation xs ys → IsPermutation (filter p xs) (filter p ys)
IsPermutation-filter {X} p =
    along_permutation (λ xs ys. IsPermutation (filter p xs) (filter p ys)) (λ xs. IsPermutation-refl (filter p xs)) under turned (λ xs ys zs. IsPermutation-trans _ _ _)
  where
    under : (x : X) (xs ys : List X) → IsPermutation (filter p xs) (filter p ys) → IsPermutation (filter p (x ∷ xs)) (filter p (x ∷ ys))
    under x xs ys held = elim (cases_Bool (p x)) [ inl passes ↦ rw passes (IsPermutation-cons x _ _ held) | inr fails ↦ rw fails held ]

    turned : (x y : X) (xs : List X) → IsPermutation (filter p (x ∷ y ∷ xs)) (filter p (y ∷ x ∷ xs))
    turned x y xs =
        elim (cases_Bool (p x)) [
          | inl passes ↦ elim (cases_Bool (p y)) [ inl also ↦ simp (passes, also) (IsPermutation-turned x y (filter p xs)) | inr fails ↦ simp (passes, fails) (IsPermutation-refl _) ]
          | inr fails ↦ elim (cases_Bool (p y)) [ inl passes ↦ simp (fails, passes) (IsPermutation-refl _) | inr also ↦ simp (fails, also) (IsPermutation-refl _) ]
        ]

-- a filter of a filter that keeps all that it keeps
pub filter-filter : {X : Type 0} (p q : X → Bool) → ((x : X) → p x ≡ true → q x ≡ true) → (xs : List X) → filter p (filter q xs) ≡ filter p xs
filter-filter p q tells [] = refl
filter-filter p q tells (x ∷ xs) =
    let rest = filter-filter p q tells xs in
    elim (cases_Bool (p x)) [
      | inl passes ↦ let also = tells x passes in simp (passes, also, rest)
      | inr fails ↦ elim (cases_Bool (q x)) [ inl also ↦ simp (fails, also, rest) | inr neither ↦ simp (fails, neither, rest) ]
    ]

-- lists made of each element of a list are alike where they are so at each that passes
pub flat_map-alike : {A B : Type 0} (f g : A → List B) (p : A → Bool) → ((x : A) → p x ≡ true → f x ≡ g x) → (xs : List A) → list_all p xs ≡ true → flat_map f xs ≡ flat_map g xs
flat_map-alike f g p alike [] all = refl
flat_map-alike f g p alike (x ∷ xs) all =
    let parts = and_parts (p x) (list_all p xs) all in
    let first = alike x parts.0 in
    let rest = flat_map-alike f g p alike xs parts.1 in
    rw (first, rest) refl
