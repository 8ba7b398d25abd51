-- Numbers of tuples, as far as they are told.
use Rattle.std.proofs.Common.{◌≡◌, ◌∙◌, ◌<◌, ◌≤◌, ◌+◌, ◌*◌, ◌++◌, ℕ, zero, suc, List, [], ◌∷◌, refl, sym, ap, arith, length, map, min, inl, inr, ◌⊎◌}
use Rattle.std.proofs.Math.Nat.{min-eq_left, min-eq_right, mul_comm, zero-min}
use Rattle.std.proofs.lemmas.List.{length-append, length-map}
use Rattle.olap_meaning.specs.declared.cells.Member.{Member}
use Rattle.query_meaning.specs.Resolution.{most_told, pairs}

-- the lesser of a sum and a limit
pub capped_sum : (most x y : ℕ) → min (min x most + min y most) most ≡ min (x + y) most
capped_sum most x y = omega arith

-- at least a factor, where the other is not zero
at_least : (x y : ℕ) → 0 < y → x ≤ x * y
at_least x zero h = absurd (omega arith)
at_least x (suc y) h = omega arith

over : (most x y : ℕ) → most < x → min (most * min y most) most ≡ min (x * y) most
over most x zero h = ap (λ n. min (most * n) most) (zero-min most) ∙ omega arith
over zero x (suc y) h = omega arith
over (suc most) x (suc y) h = omega (arith, at_least (suc most) (min (suc y) (suc most)) (omega arith), at_least x (suc y) (omega arith))

cases : (x y : ℕ) → (x ≤ y) ⊎ (y < x)
cases x y = grind arith

-- the lesser of a product and a limit
pub capped_product : (most x y : ℕ) → min (min x most * min y most) most ≡ min (x * y) most
capped_product most x y = elim (cases x most) [
  | inr above ↦ ap (λ n. min (n * min y most) most) (min-eq_right (omega arith)) ∙ over most x y above
  | inl below ↦ ap (λ n. min (n * min y most) most) (min-eq_left below) ∙ elim (cases y most) [
    | inl less ↦ ap (λ n. min (x * n) most) (min-eq_left less)
    | inr above ↦ swap x (min y most) ∙ ap (λ n. min (n * x) most) (min-eq_right (omega arith)) ∙ ap (λ n. min (most * n) most) (sym (min-eq_left below)) ∙ over most y x above ∙ swap y x
  ]
]
  where
    swap : (n m : ℕ) → min (n * m) most ≡ min (m * n) most
    swap n m = ap (λ k. min k most) (mul_comm n m)

-- no tuples are told where there are none
pub none_told : (tuples : List (List Member)) → min (length tuples) most_told ≡ 0 → tuples ≡ []
none_told [] none = refl
none_told (tuple ∷ tuples) none = absurd (omega (arith, none))

-- as many pairs as the product
pub length_pairs : (firsts seconds : List (List Member)) → length (pairs firsts seconds) ≡ length firsts * length seconds
length_pairs [] seconds = omega arith
length_pairs (first ∷ firsts) seconds =
    length-append (map (λ second. first ++ second) seconds) (pairs firsts seconds)
    ∙ ap (λ n. n + length (pairs firsts seconds)) (length-map seconds (λ second. first ++ second))
    ∙ ap (λ n. length seconds + n) (length_pairs firsts seconds)
    ∙ grow (length firsts) (length seconds)
  where
    grow : (n m : ℕ) → m + n * m ≡ suc n * m
    grow n m = omega arith
