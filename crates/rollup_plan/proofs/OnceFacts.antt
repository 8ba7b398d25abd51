-- Each element of a list is owned by one of some owners: so the lists of what each owns are the list, in some order.
use Rattle.std.proofs.Common.{◌≡◌, ◌∙◌, suc, Bool, true, false, not, List, [], ◌∷◌, filter, flat_map, refl, sym, arith, inl, inr}
use Rattle.std.specs.Prelude.{◌&&◌, ◌||◌, All, Contains}
use Rattle.std.specs.List.{list_any}
use Rattle.std.specs.List.Sorted.{IsPermutation}
use Rattle.std.proofs.lemmas.Bool.{cases_Bool}
use Rattle.std.proofs.lemmas.List.Sorted.{IsPermutation-append, IsPermutation-filter_both, IsPermutation-refl, IsPermutation-trans}
use Rattle.olap_meaning.proofs.Members.{in_first, in_rest}
use Rattle.list_orders.proofs.Permutations.{IsPermutation-same}

-- a filter of a filter, where both tests together are a third at each member
pub filter_then : {X : Type 0} (q all r : X → Bool) (xs : List X) → ((x : X) → Contains xs x → (all x && q x) ≡ r x) → filter q (filter all xs) ≡ filter r xs
filter_then q all r [] told = refl
filter_then q all r (x ∷ xs) told =
    let rest = filter_then q all r xs (λ y held. told y (in_rest x xs y held)) in
    let here = told x (in_first x xs) in
    elim (cases_Bool (all x)) [
      | inr fails ↦ let out : r x ≡ false = sym here ∙ rw fails refl in rw (fails, out) rest
      | inl passes ↦
          elim (cases_Bool (q x)) [
            | inl also ↦ let is : r x ≡ true = sym here ∙ rw (passes, also) refl in rw (passes, also, is, rest) refl
            | inr fails ↦ let out : r x ≡ false = sym here ∙ rw (passes, fails) refl in rw (passes, fails, out) rest
          ]
    ]

-- tests that agree at each member
pub filter_agree_in : {X : Type 0} (p q : X → Bool) (xs : List X) → ((x : X) → Contains xs x → p x ≡ q x) → filter p xs ≡ filter q xs
filter_agree_in p q [] agree = refl
filter_agree_in p q (x ∷ xs) agree =
    let rest = filter_agree_in p q xs (λ y held. agree y (in_rest x xs y held)) in
    let here = agree x (in_first x xs) in
    elim (cases_Bool (q x)) [ inl passes ↦ rw (here, passes, rest) refl | inr fails ↦ rw (here, fails) rest ]

pub filter_none_in : {X : Type 0} (p : X → Bool) (xs : List X) → ((x : X) → Contains xs x → p x ≡ false) → filter p xs ≡ []
filter_none_in p [] none = refl
filter_none_in p (x ∷ xs) none = rw (none x (in_first x xs), filter_none_in p xs (λ y held. none y (in_rest x xs y held))) refl

-- lists of each element, in some order each
pub each_permutes : {A B : Type 0} (f g : A → List B) (xs : List A) → All (λ x. IsPermutation (f x) (g x)) xs → IsPermutation (flat_map f xs) (flat_map g xs)
each_permutes f g [] each = IsPermutation-refl []
each_permutes f g (x ∷ xs) each = IsPermutation-append _ _ _ _ (each 0 x (omega arith)) (each_permutes f g xs (λ k d inside. each (suc k) d (omega arith)))

module _ {X F : Type 0} (p : X → Bool) (owns : F → X → Bool) where
  -- no two of some owners own an element
  abbrev pub Exclusive : List F → X → Type 0
  Exclusive [] x = Unit {0}
  Exclusive (f ∷ fs) x = (owns f x ≡ true → list_any (λ g. owns g x) fs ≡ false) × Exclusive fs x

  pub owned_once : (fs : List F) (xs : List X) → ((x : X) → Contains xs x → Exclusive fs x)
      → IsPermutation (filter (λ x. p x && list_any (λ f. owns f x) fs) xs) (flat_map (λ f. filter (λ x. p x && owns f x) xs) fs)
  owned_once [] xs apart = IsPermutation-same _ _ (filter_none_in (λ x. p x && false) xs (λ x held. never (p x)))
    where
      never : (b : Bool) → (b && false) ≡ false
      never true = refl
      never false = refl
  owned_once (f ∷ fs) xs apart =
      let all : List X = filter (λ x. p x && (owns f x || list_any (λ g. owns g x) fs)) xs in
      let parted = IsPermutation-filter_both (owns f) (λ x. not (owns f x)) (λ x. refl) all in
      let one : filter (owns f) all ≡ filter (λ x. p x && owns f x) xs = filter_then (owns f) (λ x. p x && (owns f x || list_any (λ g. owns g x) fs)) (λ x. p x && owns f x) xs (λ x held. first (p x) (owns f x) (list_any (λ g. owns g x) fs)) in
      let two : filter (λ x. not (owns f x)) all ≡ filter (λ x. p x && list_any (λ g. owns g x) fs) xs =
      filter_then (λ x. not (owns f x)) (λ x. p x && (owns f x || list_any (λ g. owns g x) fs)) (λ x. p x && list_any (λ g. owns g x) fs) xs (λ x held. others (p x) (owns f x) (list_any (λ g. owns g x) fs) (apart x held).0) in
      IsPermutation-trans _ _ _ parted
      (rw (one, two) (IsPermutation-append _ _ _ _ (IsPermutation-refl (filter (λ x. p x && owns f x) xs)) (owned_once fs xs (λ x held. (apart x held).1))))
    where
      first : (a b c : Bool) → ((a && (b || c)) && b) ≡ (a && b)
      first true true c = refl
      first true false true = refl
      first true false false = refl
      first false b c = refl

      others : (a b c : Bool) → (b ≡ true → c ≡ false) → ((a && (b || c)) && not b) ≡ (a && c)
      others true true true told = let e = told refl in absurd (cc)
      others true true false told = refl
      others true false true told = refl
      others true false false told = refl
      others false b c told = refl
