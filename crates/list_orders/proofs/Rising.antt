-- Rising lists with the same members.
use Rattle.std.proofs.Common.{◌≡◌, ◌<◌, ℕ, true, List, [], ◌∷◌, refl, sym, arith, inl, inr}
use Rattle.std.specs.Prelude.{◌==◌, nat_lt, Contains}
use Rattle.std.specs.List.{list_all}
use Rattle.std.proofs.lemmas.Bool.{and_from, and_parts, cases_Bool, eq-eqb, eqb-true, ltb-true}
use Rattle.olap_meaning.specs.Covering.{among}
use Rattle.olap_meaning.specs.Legal.{rise}
use Rattle.olap_meaning.proofs.Members.{any_member, in_first, in_rest}
use Rattle.olap_meaning.proofs.Orders.{above_of}
use Rattle.olap_meaning.proofs.Lists.{below_differs}

-- the elements above_of the first of a list that are in it are in its rest
rest_among : (y : ℕ) (ys zs : List ℕ) → list_all (nat_lt y) zs ≡ true → list_all (among (y ∷ ys)) zs ≡ true → list_all (among ys) zs ≡ true
rest_among y ys [] above_of inside = refl
rest_among y ys (z ∷ zs) above_of inside =
    let parts = and_parts (nat_lt y z) (list_all (nat_lt y) zs) above_of in
    let inner = and_parts (among (y ∷ ys) z) (list_all (among (y ∷ ys)) zs) inside in
    let here : among ys z ≡ true = rw (below_differs y z (ltb-true y z parts.0)) at inner.0 in
    rw here (rest_among y ys zs parts.1 inner.1)

-- the first of two rising lists with the same elements are the same
first_same : (x y : ℕ) (xs ys : List ℕ) → list_all (nat_lt x) xs ≡ true → list_all (nat_lt y) ys ≡ true → among (y ∷ ys) x ≡ true → among (x ∷ xs) y ≡ true → x ≡ y
first_same x y xs ys up up' x_in y_in =
    elim (cases_Bool (y == x)) [
      | inl same ↦ sym (eqb-true y x same)
      | inr other ↦
          elim (cases_Bool (x == y)) [
            | inl same ↦ eqb-true x y same
            | inr differs ↦
                let lt : y < x = above_of y ys x up' (rw other at x_in) in
                let gt : x < y = above_of x xs y up (rw differs at y_in) in
                absurd (omega arith)
          ]
    ]

-- rising lists with the same elements are the same
pub same_rising : (xs ys : List ℕ) → rise xs ≡ true → rise ys ≡ true → list_all (among ys) xs ≡ true → list_all (among xs) ys ≡ true → xs ≡ ys
same_rising [] [] up up' xs_in ys_in = refl
same_rising [] (y ∷ ys) up up' xs_in ys_in = absurd (cc)
same_rising (x ∷ xs) [] up up' xs_in ys_in = absurd (cc)
same_rising (x ∷ xs) (y ∷ ys) up up' xs_in ys_in =
    let rises = and_parts (list_all (nat_lt x) xs) (rise xs) up in
    let rises' = and_parts (list_all (nat_lt y) ys) (rise ys) up' in
    let inside = and_parts (among (y ∷ ys) x) (list_all (among (y ∷ ys)) xs) xs_in in
    let inside' = and_parts (among (x ∷ xs) y) (list_all (among (x ∷ xs)) ys) ys_in in
    let first : x ≡ y = first_same x y xs ys rises.0 rises'.0 inside.0 inside'.0 in
    let rest = same_rising xs ys rises.1 rises'.1 (rest_among y ys xs (rw first at rises.0) inside.1) (rest_among x xs ys (rw (← first) at rises'.0) inside'.1) in
    cc

-- the members of one list are among another where they are members of it
pub all_among : (xs ys : List ℕ) → ((x : ℕ) → Contains xs x → Contains ys x) → list_all (among ys) xs ≡ true
all_among [] ys into = refl
all_among (x ∷ xs) ys into =
    and_from (among ys x) (list_all (among ys) xs)
    (any_member (λ v. v == x) ys x (into x (in_first x xs)) (eq-eqb x x refl))
    (all_among xs ys (λ z held. into z (in_rest x xs z held)))

pub rising_same : (xs ys : List ℕ) → rise xs ≡ true → rise ys ≡ true → ((x : ℕ) → Contains xs x → Contains ys x) → ((y : ℕ) → Contains ys y → Contains xs y) → xs ≡ ys
rising_same xs ys up up' into back = same_rising xs ys up up' (all_among xs ys into) (all_among ys xs back)
