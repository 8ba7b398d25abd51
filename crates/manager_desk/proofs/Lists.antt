-- Items of lists, by their places.
use Rattle.std.proofs.Common.{◌≡◌, sym, ap, ℕ, zero, suc, ◌+◌, ◌<◌, List, [], ◌∷◌, ◌++◌, length, Some, slice_get, arith, All, refl, ◌∙◌}
use Rattle.std.specs.Prelude.{sum_by}
use Rattle.std.proofs.lemmas.List.Elements.{All-head, All-tail}
use Rattle.std.proofs.lemmas.List.Sums.{sum_by-cons}

-- an item after some others
pub get_behind : {A : Type 0} (xs ys : List A) (b i : ℕ) → b ≡ length xs + i → slice_get (xs ++ ys) b ≡ slice_get ys i
get_behind [] ys b i at = let e : b ≡ i = omega (arith, at) in ap (slice_get ys) e
get_behind (x ∷ xs) ys zero i at = absurd (omega (arith, at))
get_behind (x ∷ xs) ys (suc b) i at = get_behind xs ys b i (omega (arith, at))

-- before an item there are others
pub get_before : {A : Type 0} (xs : List A) (i : ℕ) (x : A) (k : ℕ) → slice_get xs i ≡ Some x → k < i → (y : A) × (slice_get xs k ≡ Some y)
get_before [] i x k at l = absurd (cc)
get_before (z ∷ zs) zero x k at l = absurd (omega (arith, l))
get_before (z ∷ zs) (suc i) x zero at l = (z, refl)
get_before (z ∷ zs) (suc i) x (suc k) at l = get_before zs i x k at (omega (arith, l))

-- sums of what is the same of each item are the same
pub sum_same : {A : Type 0} (f g : A → ℕ) (xs : List A) → ((i : ℕ) (x : A) → slice_get xs i ≡ Some x → f x ≡ g x) → sum_by f xs ≡ sum_by g xs
sum_same f g [] same = refl
sum_same f g (x ∷ xs) same =
    let here : f x ≡ g x = same zero x refl in
    let rest : sum_by f xs ≡ sum_by g xs = sum_same f g xs (λ i y at. same (suc i) y at) in
    sum_by-cons f x xs ∙ ap (λ (n : ℕ). n + sum_by f xs) here ∙ ap (λ (n : ℕ). g x + n) rest ∙ sym (sum_by-cons g x xs)

pub sum_none : {A : Type 0} (f : A → ℕ) (xs : List A) → All (λ x. f x ≡ 0) xs → sum_by f xs ≡ 0
sum_none f [] none = refl
sum_none f (x ∷ xs) none =
    let here : f x ≡ 0 = All-head (λ y. f y ≡ 0) x xs none in
    let rest : sum_by f xs ≡ 0 = sum_none f xs (All-tail (λ y. f y ≡ 0) x xs none) in
    sum_by-cons f x xs ∙ ap (λ (n : ℕ). n + sum_by f xs) here ∙ ap (λ (n : ℕ). 0 + n) rest
