-- The first of some batches, one after another.
use Rattle.std.proofs.Common.{◌≡◌, ◌<◌, ◌≤◌, ◌+◌, ℕ, zero, suc, List, [], ◌∷◌, ◌++◌, map, length, take, get_or, refl, ap, arith}
use Rattle.std.proofs.lemmas.List.Sums.{sum_by-append, sum_by-take-le}
use Rattle.fact_versions.specs.FactRows.{FactRows}
use Rattle.fact_versions.specs.Facts.{rows_of_batches}

-- one more of the first
pub take_next : {A B : Type 0} (f : A → B) (xs : List A) (i : ℕ) (x : A) → i < length xs → x ≡ get_or xs i x → take (suc i) (map f xs) ≡ take i (map f xs) ++ f x ∷ []
take_next f [] i x within is = absurd (omega arith)
take_next f (y ∷ ys) zero x within is = rw is refl
take_next f (y ∷ ys) (suc i) x within is = ap (λ (zs : List _). f y ∷ zs) (take_next f ys i x (omega arith) is)

-- their rows
pub rows_next : {A : Type 0} (f : A → FactRows) (xs : List A) (i : ℕ) (x : A) → i < length xs → x ≡ get_or xs i x → rows_of_batches (take (suc i) (map f xs)) ≡ rows_of_batches (take i (map f xs)) + length (f x).rows
rows_next f xs i x within is =
    rw (take_next f xs i x within is, sum_by-append (λ (batch : FactRows). length batch.rows) (take i (map f xs)) (f x ∷ [])) (omega arith)

-- they are no more than those of all
pub rows_within : {A : Type 0} (f : A → FactRows) (xs : List A) (i : ℕ) (x : A) → i < length xs → x ≡ get_or xs i x → rows_of_batches (take i (map f xs)) + length (f x).rows ≤ rows_of_batches (map f xs)
rows_within f xs i x within is =
    omega (arith, rows_next f xs i x within is, sum_by-take-le (λ (batch : FactRows). length batch.rows) (map f xs) (suc i))
