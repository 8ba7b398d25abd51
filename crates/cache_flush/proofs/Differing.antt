-- Numbers of which none stands twice, and the one thing of a number.
use Rattle.std.proofs.Common.{◌≡◌, ◌++◌, ℕ, zero, suc, false, true, not, List, [], ◌∷◌, Option, None, Some, refl, subst, arith, inl, inr, map, slice_get, option_map}
use Rattle.std.specs.Prelude.{◌==◌}
use Rattle.std.specs.List.{find}
use Rattle.std.proofs.lemmas.Bool.{and_parts, cases_Bool, eq-eqb, eqb-true, not-true}
use Rattle.std.proofs.lemmas.Bool.Decides.{nat_tests}
use Rattle.olap_meaning.specs.Covering.{among}
use Rattle.olap_meaning.proofs.Lists.{or_first, or_second}
use Rattle.cache_flush.specs.Loads.{are_different}

eq_turned : (a b : ℕ) → (a == b) ≡ false → (b == a) ≡ false
eq_turned a b h = grind (arith, nat_tests)

-- a number is not among more, where it is another than the last
among_more : (ns : List ℕ) (n m : ℕ) → among ns m ≡ false → (n == m) ≡ false → among (ns ++ n ∷ []) m ≡ false
among_more [] n m none other = rw other refl
among_more (k ∷ ns) n m none other =
    rw (or_first (k == m) (among ns m) none) (among_more ns n m (or_second (k == m) (among ns m) none) other)

-- with a new number none stands twice
pub differ_more : (ns : List ℕ) (n : ℕ) → are_different ns ≡ true → among ns n ≡ false → are_different (ns ++ n ∷ []) ≡ true
differ_more [] n differ new = refl
differ_more (m ∷ ns) n differ new =
    let parts = and_parts (not (among ns m)) (are_different ns) differ in
    let none = among_more ns n m (not-true (among ns m) parts.0) (eq_turned m n (or_first (m == n) (among ns n) new)) in
    rw none (differ_more ns n parts.1 (or_second (m == n) (among ns n) new))

module _ {X : Type 0} where
  is_among : (f : X → ℕ) (xs : List X) (i : ℕ) (x : X) → slice_get xs i ≡ Some x → among (map f xs) (f x) ≡ true
  is_among f [] i x is = absurd (cc)
  is_among f (y ∷ xs) zero x is = let e : y ≡ x = cc in rw (e, eq-eqb (f x) (f x) refl) refl
  is_among f (y ∷ xs) (suc i) x is =
      let rest = is_among f xs i x is in
      elim (cases_Bool (f y == f x)) [ inl same ↦ rw same refl | inr other ↦ rw other rest ]

  -- an earlier thing has another number
  pub other_number : (f : X → ℕ) (y : X) (xs : List X) (i : ℕ) (x : X) → not (among (map f xs) (f y)) ≡ true → slice_get xs i ≡ Some x → (f y == f x) ≡ false
  other_number f y xs i x differ is =
      elim (cases_Bool (f y == f x)) [
        | inl same ↦
            let e : f y ≡ f x = eqb-true (f y) (f x) same in
            let one = is_among f xs i x is in
            let none = not-true (among (map f xs) (f y)) differ in
            absurd (cc)
        | inr other ↦ other
      ]

  found_at : (f : X → ℕ) (xs : List X) (i : ℕ) (x : X) → are_different (map f xs) ≡ true → slice_get xs i ≡ Some x → find (λ y. f y == f x) xs ≡ Some x
  found_at f [] i x differ is = absurd (cc)
  found_at f (y ∷ xs) zero x differ is = let e : y ≡ x = cc in rw (e, eq-eqb (f x) (f x) refl) refl
  found_at f (y ∷ xs) (suc i) x differ is =
      let parts = and_parts (not (among (map f xs) (f y))) (are_different (map f xs)) differ in
      rw (other_number f y xs i x parts.0 is) (found_at f xs i x parts.1 is)

  found_of : (f : X → ℕ) (xs : List X) (i n : ℕ) (o : Option X) → are_different (map f xs) ≡ true → slice_get xs i ≡ o → option_map f o ≡ Some n → find (λ y. f y == n) xs ≡ o
  found_of f xs i n None differ here is = absurd (cc)
  found_of f xs i n (Some x) differ here is =
      let e : f x ≡ n = cc in subst (λ (m : ℕ). find (λ y. f y == m) xs ≡ Some x) e (found_at f xs i x differ here)

  -- what stands at a place is found by its number
  pub found_by : (f : X → ℕ) (xs : List X) (i n : ℕ) → are_different (map f xs) ≡ true → option_map f (slice_get xs i) ≡ Some n → find (λ y. f y == n) xs ≡ slice_get xs i
  found_by f xs i n differ is = found_of f xs i n (slice_get xs i) differ refl is
