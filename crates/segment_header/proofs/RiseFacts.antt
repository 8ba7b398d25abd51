-- Rising keys, and what a binary search among them finds.
use Rattle.std.proofs.Common.{◌≡◌, ◌≢◌, ◌∙◌, ◌<◌, ◌≤◌, ℕ, zero, suc, Bool, true, false, List, [], ◌∷◌, Ok, Err, length, map, map-id, drop, get_or, ◌-◌, ◌+◌, refl, sym, arith, inl, inr}
use Rattle.std.specs.Prelude.{nat_lt, is_ok, Result, ◌==◌, ◌&&◌}
use Rattle.std.specs.declared.cmp.Ordering.TheVariants.{Less, Equal, Greater}
use Rattle.std.specs.List.{list_any, list_all}
use Rattle.std.specs.List.Sorted.{IsBinarySearchResult, IsNonDecreasingBy, IsSearchInRange}
use Rattle.std.specs.Ordering.{nat_cmp, ordering_index, is_ge}
use Rattle.std.proofs.Math.Bool.{or-false}
use Rattle.std.proofs.Math.Seq.{drop-nil}
use Rattle.std.proofs.lemmas.Bool.{and_parts, cases_Bool, cases_lt, ltb-true}
use Rattle.std.proofs.lemmas.Bool.Decides.{nat_tests}
use Rattle.std.proofs.lemmas.List.Elements.{All-from_all_within}
use Rattle.std.proofs.lemmas.List.Folds.{list_any_none}
use Rattle.olap_meaning.specs.Covering.{among}
use Rattle.olap_meaning.specs.Legal.{rise}
use Rattle.olap_meaning.proofs.Orders.{all_above}

-- a test that tells a number fails at another number
fails : (n x : ℕ) (b : Bool) → (b ≡ true → n ≡ x) → n ≢ x → b ≡ false
fails n x true told other = absurd (other (told refl))
fails n x false told other = refl

pub found_key : (n x : ℕ) → nat_cmp n x ≡ Equal → n ≡ x
found_key n x h = grind (arith, nat_tests)

-- what holds of each element holds of the one at a place
pub all_at : {X : Type 0} (p : X → Bool) (xs : List X) (i : ℕ) (d : X) → list_all p xs ≡ true → i < length xs → p (get_or xs i d) ≡ true
all_at p [] i d h lt = absurd (omega arith)
all_at p (x ∷ xs) zero d h lt = (and_parts _ _ h).0
all_at p (x ∷ xs) (suc i) d h lt = all_at p xs i d (and_parts _ _ h).1 (omega arith)

module _ {X : Type 0} (key : X → ℕ) where
  -- the first key is below that at a place
  pub first_below : (y : X) (ys : List X) (i : ℕ) (d : X) → list_all (nat_lt (key y)) (map key ys) ≡ true → i < length ys → key y < key (get_or ys i d)
  first_below y [] i d h lt = absurd (omega arith)
  first_below y (z ∷ zs) zero d h lt = ltb-true _ _ (and_parts _ _ h).0
  first_below y (z ∷ zs) (suc i) d h lt = first_below y zs i d (and_parts _ _ h).1 (omega arith)

  rise_ordered : (xs : List X) → rise (map key xs) ≡ true → IsNonDecreasingBy key xs
  rise_ordered [] up i j d le lt = absurd (omega arith)
  rise_ordered (x ∷ xs) up zero zero d le lt = omega arith
  rise_ordered (x ∷ xs) up zero (suc j) d le lt =
      let below = first_below x xs j d (and_parts _ _ up).0 (omega arith) in omega arith
  rise_ordered (x ∷ xs) up (suc i) zero d le lt = absurd (omega arith)
  rise_ordered (x ∷ xs) up (suc i) (suc j) d le lt = rise_ordered xs (and_parts _ _ up).1 i j d (omega arith) (omega arith)

  module _ (x : ℕ) (test : X → Bool) (told : (y : X) → test y ≡ true → key y ≡ x) where
    -- no element passes where all keys are above
    none_above : (ys : List X) → list_all (nat_lt x) (map key ys) ≡ true → list_any test ys ≡ false
    none_above [] h = refl
    none_above (y ∷ ys) h =
        let parts = and_parts (nat_lt x (key y)) (list_all (nat_lt x) (map key ys)) h in
        let above : x < key y = ltb-true x (key y) parts.0 in
        let failed : test y ≡ false = fails (key y) x (test y) (told y) (λ same. absurd (omega arith)) in
        rw (failed, none_above ys parts.1) refl

    -- where the keys rise, only the element with the key may pass
    pub found_at : (ys : List X) (i : ℕ) (d : X) → rise (map key ys) ≡ true → i < length ys → key (get_or ys i d) ≡ x → list_any test ys ≡ test (get_or ys i d)
    found_at [] i d up lt here = absurd (omega arith)
    found_at (y ∷ ys) zero d up lt here =
        let above : list_all (nat_lt (key y)) (map key ys) ≡ true = (and_parts _ _ up).0 in
        rw (none_above ys (rw here at above)) (or-false (test y))
    found_at (y ∷ ys) (suc i) d up lt here =
        let below : key y < key (get_or ys i d) = first_below y ys i d (and_parts _ _ up).0 (omega arith) in
        let failed : test y ≡ false = fails (key y) x (test y) (told y) (λ same. absurd (omega arith)) in
        rw failed (found_at ys i d (and_parts _ _ up).1 (omega arith) here)

    index_rises : (a b : ℕ) → a ≤ b → ordering_index (nat_cmp a x) ≤ ordering_index (nat_cmp b x)
    index_rises a b le = grind (arith, nat_tests)

    less_other : (n : ℕ) → nat_cmp n x ≡ Less → n ≢ x
    less_other n h = grind (arith, nat_tests)

    greater_other : (n : ℕ) → nat_cmp n x ≡ Greater → n ≢ x
    greater_other n h = grind (arith, nat_tests)

    -- a search that finds the key
    pub search_found : (ys : List X) (i : ℕ) (d : X) → rise (map key ys) ≡ true → i < length ys → IsBinarySearchResult (λ y. nat_cmp (key y) x) ys (Ok i) → list_any test ys ≡ test (get_or ys i d)
    search_found ys i d up lt found = found_at ys i d up lt (found_key _ _ (found d))

    -- a search that does not find it
    pub search_missed : (ys : List X) (i : ℕ) → rise (map key ys) ≡ true → IsBinarySearchResult (λ y. nat_cmp (key y) x) ys (Err i) → list_any test ys ≡ false
    search_missed ys i up missed =
        let apart = missed (λ a b d le lt. index_rises _ _ (rise_ordered ys up a b d le lt)) in
        list_any_none test ys
        (All-from_all_within (λ y. test y ≡ false) ys
        (λ k d low high.
        elim (cases_lt k i) [
          | inl lt ↦ fails _ x _ (told _) (less_other _ (apart.0 k d low lt))
          | inr ge ↦ fails _ x _ (told _) (greater_other _ (apart.1 k d ge high))
        ]))

-- a test of a key and of something else tells the key, and is decided by the other test where the key is found
pub key_told : (n x : ℕ) (b : Bool) → (n == x && b) ≡ true → n ≡ x
key_told n x b h = let found : (n == x) ≡ true = (and_parts (n == x) b h).0 in grind (arith, nat_tests)

pub key_here : (n x : ℕ) (b : Bool) → n ≡ x → (n == x && b) ≡ b
key_here n x b here = let same : (n == x) ≡ true = grind (arith, nat_tests) in rw same refl

-- a search in a rising list tells whether a number is one of the list
pub search_tells : (xs : List ℕ) (x : ℕ) (r : Result ℕ ℕ) → rise xs ≡ true → IsSearchInRange r (length xs) → IsBinarySearchResult (λ y. nat_cmp y x) xs r → is_ok r ≡ among xs x
search_tells xs x (Ok i) up lt found =
    sym (search_found (λ n. n) x (λ n. n == x) (λ n h. grind (arith, nat_tests)) xs i x (rw (map-id xs) up) lt found ∙ (let e = found x in grind (arith, nat_tests)))
search_tells xs x (Err i) up le missed = sym (search_missed (λ n. n) x (λ n. n == x) (λ n h. grind (arith, nat_tests)) xs i (rw (map-id xs) up) missed)

-- a number that is not at least another is below it
pub below_from : (a b : ℕ) (r : Bool) → r ≡ is_ge (nat_cmp a b) → r ≡ false → nat_lt a b ≡ true
below_from a b r told fails = let e : is_ge (nat_cmp a b) ≡ false = sym told ∙ fails in grind (arith, nat_tests)

below_both : (a b c : Bool) → (b ≡ true → a ≡ true) → (a && (b && c)) ≡ (b && c)
below_both a true c h = rw (h refl) refl
below_both true false c h = refl
below_both false false c h = refl

-- numbers rise where the first is below the second, and those from the second on rise
rise-two : (x y : ℕ) (zs : List ℕ) → rise (x ∷ y ∷ zs) ≡ (nat_lt x y && rise (y ∷ zs))
rise-two x y zs =
    elim (cases_Bool (nat_lt x y)) [
      | inl below ↦ rw below (below_both (list_all (nat_lt x) zs) (list_all (nat_lt y) zs) (rise zs) (all_above x y zs (ltb-true x y below)))
      | inr above ↦ rw above refl
    ]

module _ {X : Type 0} (key : X → ℕ) where
  pub rise_next : (xs : List X) (i : ℕ) (d e : X) → suc i < length xs → rise (map key (drop i xs)) ≡ (nat_lt (key (get_or xs i d)) (key (get_or xs (suc i) e)) && rise (map key (drop (suc i) xs)))
  rise_next [] i d e lt = absurd (omega arith)
  rise_next (x ∷ []) i d e lt = absurd (omega arith)
  rise_next (x ∷ y ∷ zs) zero d e lt = rise-two (key x) (key y) (map key zs)
  rise_next (x ∷ y ∷ zs) (suc i) d e lt = rise_next (y ∷ zs) i d e (omega arith)

  pub rise_short : (xs : List X) (i : ℕ) → length xs ≤ suc i → rise (map key (drop i xs)) ≡ true
  rise_short [] i le = rw (drop-nil i) refl
  rise_short (x ∷ []) zero le = refl
  rise_short (x ∷ y ∷ zs) zero le = absurd (omega arith)
  rise_short (x ∷ xs) (suc i) le = rise_short xs i (omega arith)

  pub rise_on : (xs : List X) (i : ℕ) (x y : X) → 1 ≤ i → i < length xs → x ≡ get_or xs (i - 1) x → y ≡ get_or xs i y → rise (map key (drop (i - 1) xs)) ≡ (nat_lt (key x) (key y) && rise (map key (drop (i + 1 - 1) xs)))
  rise_on xs zero x y from lt first second = absurd (omega arith)
  rise_on xs (suc i) x y from lt first second =
      let before : suc i - 1 ≡ i = omega arith in
      let after : suc i + 1 - 1 ≡ suc i = omega arith in
      let here : x ≡ get_or xs i x = rw before at first in
      let next = rise_next xs i x y lt in
      rw (before, after) (rw (← here, ← second) at next)

  pub rise_end : (xs : List X) (i : ℕ) → 1 ≤ i → length xs ≤ i → rise (map key (drop (i - 1) xs)) ≡ true
  rise_end xs i from le = rise_short xs (i - 1) (omega arith)
