-- Lists of entries, and which seat each is of.
use Rattle.std.specs.Prelude.{◌≡◌, ℕ, zero, suc, ◌≤◌, ◌==◌, ◌⊎◌, List, [], ◌∷◌}
use Rattle.std.specs.List.{filter}

-- the list has this member
abbrev pub Among : {A : Type 0} → A → List A → Type 0
Among x [] = ⊥
Among x (y ∷ ys) = (x ≡ y) ⊎ Among x ys

-- n numbers, from k on
abbrev pub count_from : ℕ → ℕ → List ℕ
count_from k zero = []
count_from k (suc n) = k ∷ count_from (suc k) n

-- the entries of a seat, in their order
abbrev pub by : {E : Type 0} → (E → ℕ) → ℕ → List E → List E
by seat_of k xs = filter (λ e. seat_of e == k) xs

-- each of these entries is of this seat or of nobody
abbrev pub AllBy : {E : Type 0} → (E → ℕ) → ℕ → List E → Type 0
AllBy seat_of k [] = Unit {0}
AllBy seat_of k (e ∷ es) = ((seat_of e ≡ k) ⊎ (seat_of e ≡ 0)) × AllBy seat_of k es

-- each of these entries is of nobody or of one of the seats from 1 to n
abbrev pub AllUpTo : {E : Type 0} → (E → ℕ) → ℕ → List E → Type 0
AllUpTo seat_of n [] = Unit {0}
AllUpTo seat_of n (e ∷ es) = (seat_of e ≤ n) × AllUpTo seat_of n es
