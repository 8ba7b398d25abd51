-- Rising lists of the same numbers.
use Rattle.std.proofs.Common.{◌≡◌, refl, sym, ◌∙◌, ap, ℕ, ◌<◌, List, [], ◌∷◌, true, ◌==◌, inl, inr, arith}
use Rattle.std.proofs.lemmas.Bool.{and_parts, eq-eqb, eqb-true, or_cases, or_left, or_right}
use Rattle.olap_meaning.specs.Covering.{among}
use Rattle.olap_meaning.specs.Legal.{rise}
use Rattle.olap_meaning.proofs.Orders.{above_of}

among_rest : (y : ℕ) (ys : List ℕ) (v : ℕ) → y < v → among (y ∷ ys) v ≡ true → among ys v ≡ true
among_rest y ys v l h = elim (or_cases (y == v) (among ys v) h) [ inl here ↦ let e : y ≡ v = eqb-true y v here in absurd (omega (arith, e, l)) | inr there ↦ there ]

-- of two rising lists whose first numbers are among each other's, the first numbers are the same
same_first : (x : ℕ) (xs : List ℕ) (y : ℕ) (ys : List ℕ) → rise (x ∷ xs) ≡ true → rise (y ∷ ys) ≡ true → among (y ∷ ys) x ≡ true → among (x ∷ xs) y ≡ true → x ≡ y
same_first x xs y ys up over h k = elim (or_cases (y == x) (among ys x) h) [
  | inl same ↦ sym (eqb-true y x same)
  | inr there ↦ elim (or_cases (x == y) (among xs y) k) [
    | inl same ↦ eqb-true x y same
    | inr here ↦
        let a : y < x = above_of y ys x (and_parts _ _ over).0 there in
        let b : x < y = above_of x xs y (and_parts _ _ up).0 here in
        absurd (omega (arith, a, b))
  ]
]

-- rising lists of the same numbers are the same
pub same_rising : (xs ys : List ℕ) → rise xs ≡ true → rise ys ≡ true → ((v : ℕ) → among xs v ≡ true → among ys v ≡ true) → ((v : ℕ) → among ys v ≡ true → among xs v ≡ true) → xs ≡ ys
same_rising [] [] up over into back = refl
same_rising [] (y ∷ ys) up over into back = let h : among [] y ≡ true = back y (or_left _ _ (eq-eqb y y refl)) in absurd (cc)
same_rising (x ∷ xs) [] up over into back = let h : among [] x ≡ true = into x (or_left _ _ (eq-eqb x x refl)) in absurd (cc)
same_rising (x ∷ xs) (y ∷ ys) up over into back =
    let same : x ≡ y = same_first x xs y ys up over (into x (or_left _ _ (eq-eqb x x refl))) (back y (or_left _ _ (eq-eqb y y refl))) in
    let rest : xs ≡ ys = same_rising xs ys (and_parts _ _ up).1 (and_parts _ _ over).1
    (λ v h. among_rest y ys v (let l : x < v = above_of x xs v (and_parts _ _ up).0 h in omega (arith, l, same)) (into v (or_right (x == v) (among xs v) h)))
    (λ v h. among_rest x xs v (let l : y < v = above_of y ys v (and_parts _ _ over).0 h in omega (arith, l, same)) (back v (or_right (y == v) (among ys v) h))) in
    ap (λ (n : ℕ). n ∷ xs) same ∙ ap (λ (ns : List ℕ). y ∷ ns) rest
