-- Numbers that rise: where they are found, and what is left where one is put in or taken out.
use Rattle.std.proofs.Common.{◌≡◌, ◌∙◌, ◌<◌, ◌≤◌, ℕ, zero, suc, Bool, true, false, not, List, [], ◌∷◌, refl, sym, arith, inl, inr, get_or, length, insert, remove}
use Rattle.std.specs.Prelude.{◌==◌, ◌&&◌, ◌||◌, nat_lt}
use Rattle.std.specs.List.{list_all}
use Rattle.std.proofs.lemmas.Bool.{and_from, and_parts, cases_Bool, eqb-true, lt-ltb}
use Rattle.std.proofs.lemmas.List.{get_or_default}
use Rattle.std.proofs.lemmas.List.Sorted.{IsPermutation-insert, IsPermutation-remove, list_any-IsPermutation}
use Rattle.olap_meaning.specs.Covering.{among}
use Rattle.olap_meaning.specs.Legal.{rise}
use Rattle.olap_meaning.proofs.Lists.{below_differs, eq_turned}
use Rattle.olap_meaning.proofs.Orders.{above_of, all_above}
use Rattle.cache_flush.proofs.RisingFacts.{among_at}

-- ---- a number is put in

all_inserted : (p : ℕ → Bool) (xs : List ℕ) (i n : ℕ) → list_all p xs ≡ true → p n ≡ true → list_all p (insert xs i n) ≡ true
all_inserted p [] zero n all one = and_from (p n) true one refl
all_inserted p [] (suc i) n all one = and_from (p n) true one refl
all_inserted p (x ∷ xs) zero n all one = and_from (p n) (list_all p (x ∷ xs)) one all
all_inserted p (x ∷ xs) (suc i) n all one =
    let parts = and_parts (p x) (list_all p xs) all in
    and_from (p x) (list_all p (insert xs i n)) parts.0 (all_inserted p xs i n parts.1 one)

pub inserted_rise : (xs : List ℕ) (i n : ℕ) → rise xs ≡ true → ((k : ℕ) → k < i → get_or xs k 0 < n) → ((k : ℕ) → i ≤ k → k < length xs → n < get_or xs k 0) → rise (insert xs i n) ≡ true
inserted_rise [] zero n up below above = refl
inserted_rise [] (suc i) n up below above = refl
inserted_rise (x ∷ xs) zero n up below above =
    let parts = and_parts (list_all (nat_lt x) xs) (rise xs) up in
    let first : n < x = above 0 (omega arith) (omega arith) in
    and_from (list_all (nat_lt n) (x ∷ xs)) (rise (x ∷ xs))
    (and_from (nat_lt n x) (list_all (nat_lt n) xs) (lt-ltb n x first) (all_above n x xs first parts.0))
    up
inserted_rise (x ∷ xs) (suc i) n up below above =
    let parts = and_parts (list_all (nat_lt x) xs) (rise xs) up in
    let first : x < n = below 0 (omega arith) in
    and_from (list_all (nat_lt x) (insert xs i n)) (rise (insert xs i n))
    (all_inserted (nat_lt x) xs i n parts.0 (lt-ltb x n first))
    (inserted_rise xs i n parts.1 (λ k under. below (suc k) (omega arith)) (λ k over inside. above (suc k) (omega arith) (omega arith)))

-- a number that is there already
pub among_still : (xs : List ℕ) (i n m : ℕ) → i < length xs → get_or xs i 0 ≡ n → among xs m ≡ (n == m || among xs m)
among_still xs i n m inside here =
    let there : among xs n ≡ true = rw here at (among_at xs i inside) in
    elim (cases_Bool (n == m)) [
      | inl same ↦ let e : n ≡ m = eqb-true n m same in rw same (rw e at there)
      | inr other ↦ rw other refl
    ]

pub among_inserted : (xs : List ℕ) (i n m : ℕ) → among (insert xs i n) m ≡ (n == m || among xs m)
among_inserted xs i n m = sym (list_any-IsPermutation (λ v. v == m) (n ∷ xs) (insert xs i n) (IsPermutation-insert xs i n))

-- ---- a number is taken out

all_left : (p : ℕ → Bool) (xs : List ℕ) (i : ℕ) → list_all p xs ≡ true → list_all p (remove xs i) ≡ true
all_left p [] zero all = refl
all_left p [] (suc i) all = refl
all_left p (x ∷ xs) zero all = (and_parts (p x) (list_all p xs) all).1
all_left p (x ∷ xs) (suc i) all =
    let parts = and_parts (p x) (list_all p xs) all in
    and_from (p x) (list_all p (remove xs i)) parts.0 (all_left p xs i parts.1)

pub left_rise : (xs : List ℕ) (i : ℕ) → rise xs ≡ true → rise (remove xs i) ≡ true
left_rise [] zero up = refl
left_rise [] (suc i) up = refl
left_rise (x ∷ xs) zero up = (and_parts (list_all (nat_lt x) xs) (rise xs) up).1
left_rise (x ∷ xs) (suc i) up =
    let parts = and_parts (list_all (nat_lt x) xs) (rise xs) up in
    and_from (list_all (nat_lt x) (remove xs i)) (rise (remove xs i)) (all_left (nat_lt x) xs i parts.0) (left_rise xs i parts.1)

-- a number below all others is not among them
below_all : (n : ℕ) (xs : List ℕ) → list_all (nat_lt n) xs ≡ true → among xs n ≡ false
below_all n xs all =
    elim (cases_Bool (among xs n)) [
      | inl there ↦ absurd (let less = above_of n xs n all there in omega (arith, less))
      | inr none ↦ none
    ]

gone : (xs : List ℕ) (i : ℕ) → rise xs ≡ true → i < length xs → among (remove xs i) (get_or xs i 0) ≡ false
gone [] i up inside = absurd (omega arith)
gone (x ∷ xs) zero up inside = below_all x xs (and_parts (list_all (nat_lt x) xs) (rise xs) up).0
gone (x ∷ xs) (suc i) up inside =
    let parts = and_parts (list_all (nat_lt x) xs) (rise xs) up in
    let less = above_of x xs (get_or xs i 0) parts.0 (among_at xs i (omega arith)) in
    rw (below_differs x (get_or xs i 0) less) (gone xs i parts.1 (omega arith))

same_read : (xs : List ℕ) (i n : ℕ) → i < length xs → get_or xs i 0 ≡ n → n ≡ get_or xs i n
same_read xs i n inside here = sym here ∙ get_or_default xs i 0 n inside

pub among_left : (xs : List ℕ) (i n m : ℕ) → rise xs ≡ true → i < length xs → get_or xs i 0 ≡ n → among (remove xs i) m ≡ (not (n == m) && among xs m)
among_left xs i n m up inside here =
    let none : among (remove xs i) n ≡ false = rw here at (gone xs i up inside) in
    let split = list_any-IsPermutation (λ v. v == m) xs (n ∷ remove xs i) (IsPermutation-remove xs i n inside (same_read xs i n inside here)) in
    elim (cases_Bool (n == m)) [
      | inl same ↦
          let e : n ≡ m = eqb-true n m same in
          rw same (rw e at none)
      | inr other ↦ rw other (rw other at (sym split))
    ]

-- a number that is not there
above_all : (xs : List ℕ) (n : ℕ) → ((k : ℕ) → k < length xs → n < get_or xs k 0) → among xs n ≡ false
above_all [] n above = refl
above_all (x ∷ xs) n above =
    let first : n < x = above 0 (omega arith) in
    rw (eq_turned x n, below_differs n x first) (above_all xs n (λ k inside. above (suc k) (omega arith)))

absent : (xs : List ℕ) (i n : ℕ) → ((k : ℕ) → k < i → get_or xs k 0 < n) → ((k : ℕ) → i ≤ k → k < length xs → n < get_or xs k 0) → among xs n ≡ false
absent xs zero n below above = above_all xs n (λ k inside. above k (omega arith) inside)
absent [] (suc i) n below above = refl
absent (x ∷ xs) (suc i) n below above =
    let first : x < n = below 0 (omega arith) in
    rw (below_differs x n first) (absent xs i n (λ k under. below (suc k) (omega arith)) (λ k over inside. above (suc k) (omega arith) (omega arith)))

pub among_others : (xs : List ℕ) (i n m : ℕ) → ((k : ℕ) → k < i → get_or xs k 0 < n) → ((k : ℕ) → i ≤ k → k < length xs → n < get_or xs k 0) → among xs m ≡ (not (n == m) && among xs m)
among_others xs i n m below above =
    let none : among xs n ≡ false = absent xs i n below above in
    elim (cases_Bool (n == m)) [
      | inl same ↦ let e : n ≡ m = eqb-true n m same in rw same (rw e at none)
      | inr other ↦ rw other refl
    ]
