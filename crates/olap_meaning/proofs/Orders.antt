-- Facts of numbers that rise, of numbers among others, and of sums, that proofs of several crates use.
use Rattle.std.proofs.Common.{◌≡◌, ◌<◌, ◌+◌, ◌==◌, ◌++◌, ℕ, ℤ, suc, pos, ◌+ℤ◌, true, List, [], ◌∷◌, fold, refl, subst, arith, inl, inr, nat_eq, nat_lt}
use Rattle.std.specs.Prelude.{Contains, slice_index}
use Rattle.std.specs.List.{dedup, list_all}
use Rattle.std.specs.List.Sorted.{IsStrictlyIncreasing}
use Rattle.std.proofs.lemmas.Bool.{and_from, and_parts, eq-eqb, eqb-true, lt-ltb, ltb-true, or_cases, or_left, or_right}
use Rattle.std.proofs.lemmas.Int.{ints}
use Rattle.std.proofs.lemmas.List.Kept.{Contains-dedup_nat, Contains-from_dedup}
use Rattle.olap_meaning.specs.Covering.{among}
use Rattle.olap_meaning.specs.Legal.{rise}
use Rattle.olap_meaning.specs.Values.{total}
use Rattle.olap_meaning.proofs.Lists.{same_bool}
use Rattle.olap_meaning.proofs.Members.{any_member, member_any}

-- ---- numbers that rise

pub all_above : (n m : ℕ) (ns : List ℕ) → n < m → list_all (nat_lt m) ns ≡ true → list_all (nat_lt n) ns ≡ true
all_above n m [] lt all = refl
all_above n m (k ∷ ns) lt all =
    let parts = and_parts (nat_lt m k) (list_all (nat_lt m) ns) all in
    let up : m < k = ltb-true m k parts.0 in
    and_from (nat_lt n k) (list_all (nat_lt n) ns) (lt-ltb n k (omega arith)) (all_above n m ns lt parts.1)

pub above_of : (n : ℕ) (ns : List ℕ) (k : ℕ) → list_all (nat_lt n) ns ≡ true → among ns k ≡ true → n < k
above_of n [] k all h = absurd (cc)
above_of n (m ∷ ns) k all h = elim (or_cases (m == k) (among ns k) h) [
  | inl here ↦ let e : m ≡ k = eqb-true m k here in let l : n < m = ltb-true n m (and_parts _ _ all).0 in omega (arith, e, l)
  | inr there ↦ above_of n ns k (and_parts _ _ all).1 there
]

pub rise_rest : (ns ms : List ℕ) → rise (ns ++ ms) ≡ true → rise ms ≡ true
rise_rest [] ms up = up
rise_rest (n ∷ ns) ms up = rise_rest ns ms (and_parts (list_all (nat_lt n) (ns ++ ms)) (rise (ns ++ ms)) up).1

pub increasing_rest : (n : ℕ) (ns : List ℕ) → IsStrictlyIncreasing (n ∷ ns) → IsStrictlyIncreasing ns
increasing_rest n ns up k below =
    let e : suc k + 1 ≡ suc (k + 1) = omega arith in
    subst (λ (j : ℕ). slice_index ns k < slice_index (n ∷ ns) j) e (up (suc k) (omega arith))

pub rise_from : (ns : List ℕ) → IsStrictlyIncreasing ns → rise ns ≡ true
rise_from [] up = refl
rise_from (n ∷ []) up = refl
rise_from (n ∷ m ∷ ns) up =
    let first : n < m = up 0 (omega arith) in
    let rest = rise_from (m ∷ ns) (increasing_rest n (m ∷ ns) up) in
    let parts = and_parts (list_all (nat_lt m) ns) (rise ns) rest in
    and_from (list_all (nat_lt n) (m ∷ ns)) (rise (m ∷ ns))
    (and_from (nat_lt n m) (list_all (nat_lt n) ns) (lt-ltb n m first) (all_above n m ns first parts.0))
    rest

-- ---- numbers among others

pub among_held : (ns : List ℕ) (n : ℕ) → among ns n ≡ true → Contains ns n
among_held ns n h = let found = member_any (λ m. m == n) ns h in subst (Contains ns) (eqb-true found.0 n found.2) found.1

pub among_still : (ns : List ℕ) (m n : ℕ) → among ns n ≡ true → among (ns ++ m ∷ []) n ≡ true
among_still [] m n there = absurd (cc)
among_still (k ∷ ns) m n there = elim (or_cases (k == n) (among ns n) there) [
  | inl same ↦ or_left _ _ same
  | inr other ↦ or_right _ _ (among_still ns m n other)
]

-- `dedup` leaves the same numbers
pub among_once : (ns : List ℕ) (n : ℕ) → among (dedup nat_eq ns) n ≡ among ns n
among_once ns n =
    same_bool (among (dedup nat_eq ns) n) (among ns n)
    (λ h. any_member (λ v. v == n) ns n (Contains-from_dedup nat_eq ns n (among_held (dedup nat_eq ns) n h)) (eq-eqb n n refl))
    (λ h. any_member (λ v. v == n) (dedup nat_eq ns) n (Contains-dedup_nat ns n (among_held ns n h)) (eq-eqb n n refl))

-- ---- sums

pub total-from : (s : ℤ) (ns : List ℤ) → fold (λ sum n. sum +ℤ n) s ns ≡ s +ℤ total ns
total-from s [] = omega (arith, ints)
total-from s (n ∷ ns) = omega (arith, ints, total-from (s +ℤ n) ns, total-from (pos 0 +ℤ n) ns)
