-- Lists through a map, what holds of some elements where one is set, and what is left where one is taken out.
use Rattle.std.proofs.Common.{◌≡◌, ◌<◌, ◌≤◌, ◌+◌, ◌++◌, ℕ, zero, suc, List, [], ◌∷◌, refl, ap, arith, map, length, take, drop, set, get_or}

module _ {X Y : Type 0} where
  pub map_append : (f : X → Y) (xs ys : List X) → map f (xs ++ ys) ≡ map f xs ++ map f ys
  map_append f [] ys = refl
  map_append f (x ∷ xs) ys = ap (λ (zs : List _). f x ∷ zs) (map_append f xs ys)

  pub remove_mapped : (f : X → Y) (xs : List X) (i : ℕ) → map f (take i xs ++ drop (suc i) xs) ≡ take i (map f xs) ++ drop (suc i) (map f xs)
  remove_mapped f [] zero = refl
  remove_mapped f [] (suc i) = refl
  remove_mapped f (x ∷ xs) zero = refl
  remove_mapped f (x ∷ xs) (suc i) = ap (λ (zs : List _). f x ∷ zs) (remove_mapped f xs i)

module _ {X : Type 0} where
  -- what holds of the first elements still does where one more that meets it is set
  pub first_set : (P : X → Type 0) (xs : List X) (i : ℕ) (new : X) → i < length xs → ((k : ℕ) (d : X) → k < i → P (get_or xs k d)) → P new → (k : ℕ) (d : X) → k < i + 1 → P (get_or (set xs i new) k d)
  first_set P [] i new below first meets k d under = absurd (omega arith)
  first_set P (x ∷ xs) zero new below first meets zero d under = meets
  first_set P (x ∷ xs) zero new below first meets (suc k) d under = absurd (omega arith)
  first_set P (x ∷ xs) (suc i) new below first meets zero d under = first 0 d (omega arith)
  first_set P (x ∷ xs) (suc i) new below first meets (suc k) d under =
      first_set P xs i new (omega arith) (λ j e lt. first (suc j) e (omega arith)) meets k d (omega arith)

  -- what holds of the later elements still does where an earlier one is set
  pub later_set : (P : X → Type 0) (xs : List X) (i : ℕ) (new : X) → ((k : ℕ) (d : X) → i ≤ k → k < length xs → P (get_or xs k d)) → (k : ℕ) (d : X) → i + 1 ≤ k → k < length (set xs i new) → P (get_or (set xs i new) k d)
  later_set P [] i new later k d above below = absurd (omega arith)
  later_set P (x ∷ xs) zero new later zero d above below = absurd (omega arith)
  later_set P (x ∷ xs) zero new later (suc k) d above below = later (suc k) d (omega arith) (omega arith)
  later_set P (x ∷ xs) (suc i) new later zero d above below = absurd (omega arith)
  later_set P (x ∷ xs) (suc i) new later (suc k) d above below =
      later_set P xs i new (λ j e le lt. later (suc j) e (omega arith) (omega arith)) k d (omega arith) (omega arith)

module _ {X Y Z : Type 0} where
  pub map_mapped : (g : Y → Z) (f : X → Y) (xs : List X) → map g (map f xs) ≡ map (λ x. g (f x)) xs
  map_mapped g f [] = refl
  map_mapped g f (x ∷ xs) = ap (λ (zs : List _). g (f x) ∷ zs) (map_mapped g f xs)
