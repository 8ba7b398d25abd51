-- Numbers that rise: what stands at their places, what a search among them finds, and how many are above a number.
use Rattle.std.proofs.Common.{◌≡◌, sym, subst, refl, ◌<◌, ◌≤◌, ◌+◌, ◌++◌, ℕ, zero, suc, Bool, true, false, cond, List, [], ◌∷◌, ◌||◌, arith, inl, inr, get_or, ◌-◌, length, nat_cmp, All}
use Rattle.std.specs.Prelude.{◌==◌, count_by, nat_lt, Result, MatchResult}
use Rattle.std.specs.List.{list_all, list_any}
use Rattle.std.specs.List.Sorted.{IsBinarySearchResult}
use Rattle.std.proofs.lemmas.Bool.{and_from, and_parts, cases_Bool, eq-eqb, lt-ltb}
use Rattle.std.proofs.lemmas.Bool.Decides.{nat_tests}
use Rattle.std.proofs.lemmas.List.{length_push}
use Rattle.std.proofs.lemmas.List.Elements.{All-head, All-tail}
use Rattle.std.proofs.lemmas.List.Sorted.{searched}
use Rattle.std.proofs.lemmas.List.Sums.{sum_by-cons}
use Rattle.olap_meaning.specs.Covering.{among}
use Rattle.olap_meaning.specs.Legal.{rise}
use Rattle.olap_meaning.proofs.Orders.{above_of}

pub among_at : (xs : List ℕ) (i : ℕ) → i < length xs → among xs (get_or xs i 0) ≡ true
among_at [] i inside = absurd (omega arith)
among_at (x ∷ xs) zero inside = rw (eq-eqb x x refl) refl
among_at (x ∷ xs) (suc i) inside =
    let rest = among_at xs i (omega arith) in
    elim (cases_Bool (x == get_or xs i 0)) [ inl same ↦ rw same refl | inr other ↦ rw other rest ]

-- a later number is greater
pub rising_at : (xs : List ℕ) → rise xs ≡ true → (i j : ℕ) → i < j → j < length xs → get_or xs i 0 < get_or xs j 0
rising_at [] up i j later inside = absurd (omega arith)
rising_at (x ∷ xs) up i zero later inside = absurd (omega arith)
rising_at (x ∷ xs) up zero (suc j) later inside =
    above_of x xs (get_or xs j 0) (and_parts (list_all (nat_lt x) xs) (rise xs) up).0 (among_at xs j (omega arith))
rising_at (x ∷ xs) up (suc i) (suc j) later inside =
    rising_at xs (and_parts (list_all (nat_lt x) xs) (rise xs) up).1 i j (omega arith) (omega arith)

pub ordered : (xs : List ℕ) → rise xs ≡ true → (i j : ℕ) → i ≤ j → j < length xs → get_or xs i 0 ≤ get_or xs j 0
ordered xs up i j no_later inside =
    elim (cases_Bool (nat_lt i j)) [
      | inl less ↦ let h = rising_at xs up i j (grind (arith, nat_tests)) inside in omega (arith, h)
      | inr same ↦ let e : i ≡ j = grind (arith, nat_tests) in rw e (omega arith)
    ]

-- what a search among numbers that rise finds
pub found_at : (xs : List ℕ) (n : ℕ) (r : Result ℕ ℕ) → rise xs ≡ true → IsBinarySearchResult (λ y. nat_cmp y n) xs r
    → MatchResult r (λ i. (i < length xs) × (get_or xs i 0 ≡ n)) (λ i. (i ≤ length xs) × ((k : ℕ) → k < i → get_or xs k 0 < n) × ((k : ℕ) → i ≤ k → k < length xs → n < get_or xs k 0))
found_at xs n r up search = searched xs n r search (ordered xs up)

-- ---- a greater number at the end

all_push : (p : ℕ → Bool) (xs : List ℕ) (n : ℕ) → list_all p xs ≡ true → p n ≡ true → list_all p (xs ++ n ∷ []) ≡ true
all_push p [] n all one = and_from (p n) true one refl
all_push p (x ∷ xs) n all one =
    let parts = and_parts (p x) (list_all p xs) all in
    and_from (p x) (list_all p (xs ++ n ∷ [])) parts.0 (all_push p xs n parts.1 one)

pub rise_push : (xs : List ℕ) (n : ℕ) → rise xs ≡ true → All (λ x. x < n) xs → rise (xs ++ n ∷ []) ≡ true
rise_push [] n up below = refl
rise_push (x ∷ xs) n up below =
    let parts = and_parts (list_all (nat_lt x) xs) (rise xs) up in
    and_from (list_all (nat_lt x) (xs ++ n ∷ [])) (rise (xs ++ n ∷ []))
    (all_push (nat_lt x) xs n parts.0 (lt-ltb x n (All-head (λ y. y < n) x xs below)))
    (rise_push xs n parts.1 (All-tail (λ y. y < n) x xs below))

-- ---- the numbers above one

none_above : (xs : List ℕ) (s : ℕ) → ((k : ℕ) → k < length xs → get_or xs k 0 ≤ s) → count_by (λ x. nat_lt s x) xs ≡ 0
none_above [] s below = refl
none_above (x ∷ xs) s below =
    let first : x ≤ s = below 0 (omega arith) in
    let out : nat_lt s x ≡ false = grind (arith, nat_tests) in
    let rest = none_above xs s (λ k inside. below (suc k) (omega arith)) in
    let whole = sum_by-cons (λ (y : ℕ). cond {A = ℕ} (nat_lt s y) 1 0) x xs in
    let one : cond {A = ℕ} (nat_lt s x) 1 0 ≡ 0 = rw out refl in
    omega (arith, whole, rest, one)

-- where those before a place are not above a number, and those from it on are
pub counted_from : (xs : List ℕ) (i s : ℕ) → i ≤ length xs → ((k : ℕ) → k < i → get_or xs k 0 ≤ s) → ((k : ℕ) → i ≤ k → k < length xs → s < get_or xs k 0) → count_by (λ x. nat_lt s x) xs + i ≡ length xs
counted_from [] i s inside below above = omega (arith, inside)
counted_from (x ∷ xs) zero s inside below above =
    let first : s < x = above 0 (omega arith) (omega arith) in
    let up : nat_lt s x ≡ true = lt-ltb s x first in
    let rest = counted_from xs zero s (omega arith) (λ k under. absurd (omega arith)) (λ k over within. above (suc k) (omega arith) (omega arith)) in
    let whole = sum_by-cons (λ (y : ℕ). cond {A = ℕ} (nat_lt s y) 1 0) x xs in
    let one : cond {A = ℕ} (nat_lt s x) 1 0 ≡ 1 = rw up refl in
    omega (arith, whole, rest, one)
counted_from (x ∷ xs) (suc i) s inside below above =
    let first : x ≤ s = below 0 (omega arith) in
    let out : nat_lt s x ≡ false = grind (arith, nat_tests) in
    let rest = counted_from xs i s (omega arith) (λ k under. below (suc k) (omega arith)) (λ k over within. above (suc k) (omega arith) (omega arith)) in
    let whole = sum_by-cons (λ (y : ℕ). cond {A = ℕ} (nat_lt s y) 1 0) x xs in
    let one : cond {A = ℕ} (nat_lt s x) 1 0 ≡ 0 = rw out refl in
    omega (arith, whole, rest, one)

-- the last tells whether one is above
pub any_above : (xs : List ℕ) (i s : ℕ) → rise xs ≡ true → suc i ≡ length xs → list_any (λ x. nat_lt s x) xs ≡ nat_lt s (get_or xs i 0)
any_above [] i s up last = absurd (omega (arith, last))
any_above (x ∷ []) zero s up last = by (nat_lt s x)
  where
    by : (b : Bool) → (b || false) ≡ b
    by true = refl
    by false = refl
any_above (x ∷ []) (suc i) s up last = absurd (omega (arith, last))
any_above (x ∷ y ∷ xs) zero s up last = absurd (omega (arith, last))
any_above (x ∷ y ∷ xs) (suc i) s up last =
    let rest = any_above (y ∷ xs) i s (and_parts (list_all (nat_lt x) (y ∷ xs)) (rise (y ∷ xs)) up).1 (omega (arith, last)) in
    let less = rising_at (x ∷ y ∷ xs) up 0 (suc i) (omega arith) (omega (arith, last)) in
    elim (cases_Bool (nat_lt s x)) [
      | inl above ↦ let there : nat_lt s (get_or (y ∷ xs) i 0) ≡ true = grind (arith, nat_tests) in rw (above, there) refl
      | inr under ↦ rw under rest
    ]

-- the last, 0 where there is none
pub any_last : (xs : List ℕ) (s : ℕ) → rise xs ≡ true → nat_lt s (get_or xs (length xs - 1) 0) ≡ list_any (λ x. nat_lt s x) xs
any_last [] s up = grind (arith, nat_tests)
any_last (x ∷ xs) s up =
    let e : length (x ∷ xs) - 1 ≡ length xs = omega arith in
    subst (λ (i : ℕ). nat_lt s (get_or (x ∷ xs) i 0) ≡ list_any (λ y. nat_lt s y) (x ∷ xs)) (sym e) (sym (any_above (x ∷ xs) (length xs) s up refl))

last_at : (xs : List ℕ) (n : ℕ) → get_or (xs ++ n ∷ []) (length xs) 0 ≡ n
last_at [] n = refl
last_at (x ∷ xs) n = last_at xs n

-- the last of some with one more
pub last_push : (xs : List ℕ) (n : ℕ) → get_or (xs ++ n ∷ []) (length (xs ++ n ∷ []) - 1) 0 ≡ n
last_push xs n =
    let e : length (xs ++ n ∷ []) - 1 ≡ length xs = (let l = length_push xs n in omega (arith, l)) in
    subst (λ (i : ℕ). get_or (xs ++ n ∷ []) i 0 ≡ n) (sym e) (last_at xs n)

-- how many are above one that is found
pub counted_found : (xs : List ℕ) (i s : ℕ) → rise xs ≡ true → i < length xs → get_or xs i 0 ≡ s → count_by (λ x. nat_lt s x) xs + suc i ≡ length xs
counted_found xs i s up inside here =
    counted_from xs (suc i) s (omega (arith, inside))
    (λ k under. let h = ordered xs up k i (omega (arith, under)) inside in omega (arith, h, here))
    (λ k over within. let h = rising_at xs up i k (omega (arith, over)) within in omega (arith, h, here))

-- and above one that is not
pub counted_missed : (xs : List ℕ) (i s : ℕ) → i ≤ length xs → ((k : ℕ) → k < i → get_or xs k 0 < s) → ((k : ℕ) → i ≤ k → k < length xs → s < get_or xs k 0) → count_by (λ x. nat_lt s x) xs + i ≡ length xs
counted_missed xs i s inside below above = counted_from xs i s inside (λ k under. let h = below k under in omega (arith, h)) above
