-- Members of lists, and tests of some or all of them.
use Rattle.std.proofs.Common.{◌≡◌, ◌∙◌, ◌⊎◌, ◌<◌, ℕ, zero, suc, ◌+◌, Bool, true, false, List, [], ◌∷◌, Option, None, Some, length, map, filter, filter_map, refl, ap, arith, inl, inr, add-one}
use Rattle.std.specs.Prelude.{◌&&◌, All, Contains}
use Rattle.std.specs.List.{list_all, list_any}
use Rattle.std.proofs.lemmas.Bool.{and_parts, and_from, cases_Bool, cases_lt}
use Rattle.std.proofs.lemmas.List.Elements.{All-nil, All-cons, All-head, All-tail}
use Rattle.olap_meaning.specs.Rolled.{all_below}

pub in_first : {X : Type 0} (x : X) (xs : List X) → Contains (x ∷ xs) x
in_first x xs = (0, omega arith, refl)

pub in_rest : {X : Type 0} (y : X) (ys : List X) (z : X) → Contains ys z → Contains (y ∷ ys) z
in_rest y ys z (k, inside, here) = (suc k, omega arith, here)

-- a member is the first, or one of the rest
pub first_or_rest : {X : Type 0} (y : X) (ys : List X) (z : X) → Contains (y ∷ ys) z → (y ≡ z) ⊎ Contains ys z
first_or_rest y ys z (zero, inside, here) = inl here
first_or_rest y ys z (suc k, inside, here) = inr (k, omega arith, here)

pub none_in : {X : Type 0} (x : X) → Contains [] x → ⊥
none_in x (k, inside, here) = omega arith

module _ {X : Type 0} where
  -- a member that passes
  pub any_member : (p : X → Bool) (xs : List X) (x : X) → Contains xs x → p x ≡ true → list_any p xs ≡ true
  any_member p [] x held passes = absurd (none_in x held)
  any_member p (y ∷ ys) x (zero, inside, here) passes = let same : y ≡ x = here in rw (same, passes) refl
  any_member p (y ∷ ys) x (suc k, inside, here) passes =
      let rest = any_member p ys x (k, omega arith, here) passes in
      elim (cases_Bool (p y)) [ inl first ↦ rw first refl | inr fails ↦ rw fails rest ]

  pub member_any : (p : X → Bool) (xs : List X) → list_any p xs ≡ true → (x : X) × Contains xs x × (p x ≡ true)
  member_any p [] found = absurd (cc)
  member_any p (y ∷ ys) found =
      elim (cases_Bool (p y)) [
        | inl here ↦ (y, in_first y ys, here)
        | inr fails ↦ let later = member_any p ys (rw fails at found) in (later.0, in_rest y ys later.0 later.1, later.2)
      ]

  pub all_member : (p : X → Bool) (xs : List X) (x : X) → list_all p xs ≡ true → Contains xs x → p x ≡ true
  all_member p [] x all held = absurd (none_in x held)
  all_member p (y ∷ ys) x all (zero, inside, here) = let same : y ≡ x = here in rw (← same) (and_parts (p y) (list_all p ys) all).0
  all_member p (y ∷ ys) x all (suc k, inside, here) = all_member p ys x (and_parts (p y) (list_all p ys) all).1 (k, omega arith, here)

  pub member_all : (p : X → Bool) (xs : List X) → ((x : X) → Contains xs x → p x ≡ true) → list_all p xs ≡ true
  member_all p [] each = refl
  member_all p (y ∷ ys) each = and_from (p y) (list_all p ys) (each y (in_first y ys)) (member_all p ys (λ x held. each x (in_rest y ys x held)))

  pub All-from_member : (P : X → Type 0) (xs : List X) → ((x : X) → Contains xs x → P x) → All P xs
  All-from_member P [] each = All-nil P
  All-from_member P (y ∷ ys) each = All-cons P y ys (each y (in_first y ys)) (All-from_member P ys (λ x held. each x (in_rest y ys x held)))

  pub filter_member : (p : X → Bool) (xs : List X) (x : X) → Contains xs x → p x ≡ true → Contains (filter p xs) x
  filter_member p [] x held passes = absurd (none_in x held)
  filter_member p (y ∷ ys) x (zero, inside, here) passes = let same : y ≡ x = here in rw (same, passes) (in_first x (filter p ys))
  filter_member p (y ∷ ys) x (suc k, inside, here) passes =
      let rest = filter_member p ys x (k, omega arith, here) passes in
      elim (cases_Bool (p y)) [ inl first ↦ rw first (in_rest y (filter p ys) x rest) | inr fails ↦ rw fails rest ]

  -- some of those that a filter keeps
  pub any-filter : (q p : X → Bool) (xs : List X) → list_any q (filter p xs) ≡ list_any (λ x. p x && q x) xs
  any-filter q p [] = refl
  any-filter q p (x ∷ xs) =
      let rest = any-filter q p xs in
      elim (cases_Bool (p x)) [ inl passes ↦ rw (passes, rest) refl | inr fails ↦ rw (fails, rest) refl ]

  pub some_member : (xs : List X) (x : X) → Contains xs x → 0 < length xs
  some_member [] x held = absurd (none_in x held)
  some_member (y ∷ ys) x held = omega arith

  pub map_member : {Y : Type 0} (f : X → Y) (xs : List X) (x : X) → Contains xs x → Contains (map f xs) (f x)
  map_member f [] x held = absurd (none_in x held)
  map_member f (y ∷ ys) x (zero, inside, here) = let same : y ≡ x = here in (0, omega arith, ap f same)
  map_member f (y ∷ ys) x (suc k, inside, here) = in_rest (f y) (map f ys) (f x) (map_member f ys x (k, omega arith, here))

  pub member_map : {Y : Type 0} (f : X → Y) (xs : List X) (y : Y) → Contains (map f xs) y → (x : X) × Contains xs x × (f x ≡ y)
  member_map f [] y held = absurd (none_in y held)
  member_map f (x ∷ xs) y (zero, inside, here) = (x, in_first x xs, here)
  member_map f (x ∷ xs) y (suc k, inside, here) = let later = member_map f xs y (k, omega arith, here) in (later.0, in_rest x xs later.0 later.1, later.2)

  behind : {Y : Type 0} (f : X → Option Y) (z : X) (zs : List X) (y : Y) → Contains (filter_map f zs) y → Contains (filter_map f (z ∷ zs)) y
  behind {Y = Y} f z zs y rest = by (f z) refl
    where
      by : (o : Option Y) → f z ≡ o → Contains (filter_map f (z ∷ zs)) y
      by None e = rw e rest
      by (Some first) e = rw e (in_rest first (filter_map f zs) y rest)

  pub filter_map_member : {Y : Type 0} (f : X → Option Y) (xs : List X) (x : X) (y : Y) → Contains xs x → f x ≡ Some y → Contains (filter_map f xs) y
  filter_map_member f [] x y held gives = absurd (none_in x held)
  filter_map_member f (z ∷ zs) x y (zero, inside, here) gives = let same : z ≡ x = here in rw (same, gives) (in_first y (filter_map f zs))
  filter_map_member f (z ∷ zs) x y (suc k, inside, here) gives = behind f z zs y (filter_map_member f zs x y (k, omega arith, here) gives)

  behind_from : {Y : Type 0} (f : X → Option Y) (z : X) (zs : List X) (y : Y) → Contains (filter_map f (z ∷ zs)) y → (f z ≡ Some y) ⊎ Contains (filter_map f zs) y
  behind_from {Y = Y} f z zs y held = by (f z) refl
    where
      by : (o : Option Y) → f z ≡ o → (f z ≡ Some y) ⊎ Contains (filter_map f zs) y
      by None e = inr (rw e at held)
      by (Some first) e = elim (first_or_rest first (filter_map f zs) y (rw e at held)) [ inl here ↦ inl (e ∙ ap Some here) | inr later ↦ inr later ]

  pub member_filter_map : {Y : Type 0} (f : X → Option Y) (xs : List X) (y : Y) → Contains (filter_map f xs) y → (x : X) × Contains xs x × (f x ≡ Some y)
  member_filter_map f [] y held = absurd (none_in y held)
  member_filter_map f (z ∷ zs) y held =
      elim (behind_from f z zs y held) [
        | inl here ↦ (z, in_first z zs, here)
        | inr later ↦ let found = member_filter_map f zs y later in (found.0, in_rest z zs found.0 found.1, found.2)
      ]

  -- a list of members of what is made of a list is made of a list of its members
  pub members_from : {Y : Type 0} (f : X → Option Y) (xs : List X) (some : List Y) → All (Contains (filter_map f xs)) some → (from : List X) × All (Contains xs) from × (filter_map f from ≡ some)
  members_from f xs [] members = ([], All-nil (Contains xs), refl)
  members_from f xs (y ∷ ys) members =
      let first = member_filter_map f xs y (All-head (Contains (filter_map f xs)) y ys members) in
      let rest = members_from f xs ys (All-tail (Contains (filter_map f xs)) y ys members) in
      (first.0 ∷ rest.0, All-cons (Contains xs) first.0 rest.0 first.1 rest.1, rw (first.2, rest.2) refl)

-- tests of all numbers below one
pub all_below_at : (n : ℕ) (p : ℕ → Bool) (v : ℕ) → all_below n p ≡ true → v < n → p v ≡ true
all_below_at zero p v all below = absurd (omega arith)
all_below_at (suc n) p v all below =
    let parts = and_parts (all_below n p) (p n) all in
    elim (cases_lt v n) [ inl lt ↦ all_below_at n p v parts.0 lt | inr ge ↦ let same : v ≡ n = omega arith in rw same parts.1 ]

pub all_below_from : (n : ℕ) (p : ℕ → Bool) → ((v : ℕ) → v < n → p v ≡ true) → all_below n p ≡ true
all_below_from zero p each = refl
all_below_from (suc n) p each = and_from (all_below n p) (p n) (all_below_from n p (λ v below. each v (omega arith))) (each n (omega arith))

pub all_below_more : (n : ℕ) (p : ℕ → Bool) → all_below n p ≡ true → p n ≡ true → all_below (n + 1) p ≡ true
all_below_more n p all one = rw add-one (and_from (all_below n p) (p n) all one)

pub all_below_fails : (n : ℕ) (p : ℕ → Bool) (v : ℕ) → v < n → p v ≡ false → all_below n p ≡ false
all_below_fails n p v below fails =
    elim (cases_Bool (all_below n p)) [ inl all ↦ let passes = all_below_at n p v all below in absurd (cc) | inr none ↦ none ]
