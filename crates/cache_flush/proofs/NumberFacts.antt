-- Things of which each has a number of its own: the one of a number, its place, and what is left where it is taken out.
use Rattle.std.proofs.Common.{◌≡◌, ◌<◌, ◌++◌, ℕ, zero, suc, Bool, true, false, not, List, [], ◌∷◌, Option, None, Some, refl, sym, ap, subst, arith, inl, inr, one-add, map, length, take, drop, slice_get, filter, option_map}
use Rattle.std.specs.Prelude.{◌==◌, IsSome}
use Rattle.std.specs.List.{position, position_or_len}
use Rattle.std.proofs.lemmas.Bool.{and_parts, cases_Bool, eq-eqb, eqb-true, lt-ltb, not-true}
use Rattle.olap_meaning.specs.Covering.{among}
use Rattle.olap_meaning.proofs.Lists.{or_first, or_second}
use Rattle.cache_flush.specs.Loads.{are_different}
use Rattle.cache_flush.proofs.Differing.{other_number}

module _ {X : Type 0} where
  among_fewer : (f : X → ℕ) (p : X → Bool) (xs : List X) (n : ℕ) → among (map f xs) n ≡ false → among (map f (filter p xs)) n ≡ false
  among_fewer f p [] n none = refl
  among_fewer f p (x ∷ xs) n none =
      let rest = among_fewer f p xs n (or_second (f x == n) (among (map f xs) n) none) in
      elim (cases_Bool (p x)) [
        | inl passes ↦ rw (passes, or_first (f x == n) (among (map f xs) n) none) rest
        | inr fails ↦ rw fails rest
      ]

  -- of fewer things none stands twice
  pub differ_fewer : (f : X → ℕ) (p : X → Bool) (xs : List X) → are_different (map f xs) ≡ true → are_different (map f (filter p xs)) ≡ true
  differ_fewer f p [] differ = refl
  differ_fewer f p (x ∷ xs) differ =
      let parts = and_parts (not (among (map f xs) (f x))) (are_different (map f xs)) differ in
      let rest = differ_fewer f p xs parts.1 in
      elim (cases_Bool (p x)) [
        | inl passes ↦ rw (passes, among_fewer f p xs (f x) (not-true (among (map f xs) (f x)) parts.0)) rest
        | inr fails ↦ rw fails rest
      ]

  none_struck : (f : X → ℕ) (n : ℕ) (xs : List X) → among (map f xs) n ≡ false → filter (λ x. not (f x == n)) xs ≡ xs
  none_struck f n [] none = refl
  none_struck f n (x ∷ xs) none =
      rw (or_first (f x == n) (among (map f xs) n) none) (ap (λ (zs : List _). x ∷ zs) (none_struck f n xs (or_second (f x == n) (among (map f xs) n) none)))

  left_at : (f : X → ℕ) (xs : List X) (i : ℕ) (x : X) → are_different (map f xs) ≡ true → slice_get xs i ≡ Some x → take i xs ++ drop (suc i) xs ≡ filter (λ y. not (f y == f x)) xs
  left_at f [] i x differ is = absurd (cc)
  left_at f (y ∷ xs) zero x differ is =
      let parts = and_parts (not (among (map f xs) (f y))) (are_different (map f xs)) differ in
      let e : y ≡ x = cc in
      let none = not-true (among (map f xs) (f y)) parts.0 in
      rw (e, eq-eqb (f x) (f x) refl) (sym (none_struck f (f x) xs (rw e at none)))
  left_at f (y ∷ xs) (suc i) x differ is =
      let parts = and_parts (not (among (map f xs) (f y))) (are_different (map f xs)) differ in
      rw (other_number f y xs i x parts.0 is) (ap (λ (zs : List _). y ∷ zs) (left_at f xs i x parts.1 is))

  left_of : (f : X → ℕ) (xs : List X) (i n : ℕ) (o : Option X) → are_different (map f xs) ≡ true → slice_get xs i ≡ o → option_map f o ≡ Some n → take i xs ++ drop (suc i) xs ≡ filter (λ y. not (f y == n)) xs
  left_of f xs i n None differ here is = absurd (cc)
  left_of f xs i n (Some x) differ here is =
      let e : f x ≡ n = cc in
      subst (λ (m : ℕ). take i xs ++ drop (suc i) xs ≡ filter (λ y. not (f y == m)) xs) e (left_at f xs i x differ here)

  -- a place where something of a number stands is one of the list
  pub is_place : (f : X → ℕ) (xs : List X) (i n : ℕ) → option_map f (slice_get xs i) ≡ Some n → i < length xs
  is_place f [] i n is = absurd (cc)
  is_place f (x ∷ xs) zero n is = omega arith
  is_place f (x ∷ xs) (suc i) n is = let rest = is_place f xs i n is in omega arith

  -- without what stands at a place, the things of other numbers are left
  pub left_by : (f : X → ℕ) (xs : List X) (i n : ℕ) → are_different (map f xs) ≡ true → option_map f (slice_get xs i) ≡ Some n → take i xs ++ drop (suc i) xs ≡ filter (λ y. not (f y == n)) xs
  left_by f xs i n differ is = left_of f xs i n (slice_get xs i) differ refl is

  -- a thing of a number that is among the numbers of some stands first at a place
  first_at : (f : X → ℕ) (n : ℕ) (xs : List X) → among (map f xs) n ≡ true → option_map f (slice_get xs (position_or_len (λ x. f x == n) xs)) ≡ Some n
  first_at f n [] there = absurd (cc)
  first_at f n (y ∷ ys) there =
      elim (cases_Bool (f y == n)) [
        | inl same ↦ rw (same, eqb-true (f y) n same) refl
        | inr other ↦ rw (other, one-add) (first_at f n ys (rw other at there))
      ]

  inside : (f : X → ℕ) (n : ℕ) (xs : List X) → among (map f xs) n ≡ true → position_or_len (λ x. f x == n) xs < length xs
  inside f n [] there = absurd (cc)
  inside f n (y ∷ ys) there =
      elim (cases_Bool (f y == n)) [
        | inl same ↦ rw same (omega arith)
        | inr other ↦ let below = inside f n ys (rw other at there) in rw other (omega arith)
      ]

  position_is : (f : X → ℕ) (n : ℕ) (xs : List X) → among (map f xs) n ≡ true → position (λ x. f x == n) xs ≡ Some (position_or_len (λ x. f x == n) xs)
  position_is f n xs there = rw (lt-ltb (position_or_len (λ x. f x == n) xs) (length xs) (inside f n xs there)) refl

  -- a number that is among those of some things has a place
  pub has_place : (f : X → ℕ) (n : ℕ) (xs : List X) → among (map f xs) n ≡ true → IsSome (position (λ x. f x == n) xs)
  has_place f n xs there = rw (position_is f n xs there) refl

  -- at its place a thing of the number stands
  pub place_has : (f : X → ℕ) (n : ℕ) (xs : List X) (place : ℕ) → among (map f xs) n ≡ true → position (λ x. f x == n) xs ≡ Some place → option_map f (slice_get xs place) ≡ Some n
  place_has f n xs place there is =
      let first = position_is f n xs there in
      let e : position_or_len (λ x. f x == n) xs ≡ place = cc in
      subst (λ (k : ℕ). option_map f (slice_get xs k) ≡ Some n) e (first_at f n xs there)
