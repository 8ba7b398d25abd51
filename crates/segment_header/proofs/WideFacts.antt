-- Wanted values and the number of a column's values.
use Rattle.std.proofs.Common.{◌≡◌, ◌<◌, ◌≤◌, ℕ, suc, ◌+◌, true, false, List, [], ◌∷◌, Result, Ok, Err, length, refl, sym, subst, arith, inl, inr}
use Rattle.std.specs.Prelude.{IfOk, ◌&&◌, ◌==◌, IsTrue, nat_le, nat_lt}
use Rattle.std.specs.List.{list_all}
use Rattle.std.proofs.lemmas.Bool.{and_from, and_parts, cases_Bool, cases_lt, eqb-true, leb-true, ltb-true}
use Rattle.std.proofs.lemmas.Bool.Decides.{nat_tests}
use Rattle.olap_meaning.specs.declared.OutOfMemory.{OutOfMemory}
use Rattle.olap_meaning.specs.declared.schema.TheConstants.{RECORD_LIMIT}
use Rattle.olap_meaning.specs.declared.cells.Allowed.{Allowed}
use Rattle.olap_meaning.specs.declared.cells.Allowed.TheVariants.{Any, Set}
use Rattle.olap_meaning.specs.Covering.{allows, among}
use Rattle.olap_meaning.specs.Legal.{rise}
use Rattle.list_orders.proofs.Rising.{all_among}
use Rattle.segment_header.specs.Widening.{Serves, WidensPlainly, are_below, are_wanted}

le_from : (a b : ℕ) → nat_lt a b ≡ true → nat_le (suc a) b ≡ true
le_from a b h = grind (arith, nat_tests)

eq_not : (a b : ℕ) → (a == b) ≡ false → a ≡ b → ⊥
eq_not a b h e = grind (arith, nat_tests)

-- what is above a number is at least the next
next_above : (x : ℕ) (ys : List ℕ) → list_all (nat_lt x) ys ≡ true → list_all (nat_le (suc x)) ys ≡ true
next_above x [] up = refl
next_above x (y ∷ ys) up =
    let parts = and_parts (nat_lt x y) (list_all (nat_lt x) ys) up in
    and_from (nat_le (suc x) y) (list_all (nat_le (suc x)) ys) (le_from x y parts.0) (next_above x ys parts.1)

-- no number below the first of those above it is among them
none_below : (v : ℕ) (ys : List ℕ) → list_all (nat_le (suc v)) ys ≡ true → among ys v ≡ false
none_below v [] up = refl
none_below v (y ∷ ys) up =
    let parts = and_parts (nat_le (suc v) y) (list_all (nat_le (suc v)) ys) up in
    let less : suc v ≤ y = leb-true (suc v) y parts.0 in
    elim (cases_Bool (y == v)) [
      | inl same ↦ let e : y ≡ v = eqb-true y v same in absurd (omega arith)
      | inr other ↦ rw other (none_below v ys parts.1)
    ]

-- rising values from one number on and below another are no more than lie between
room : (xs : List ℕ) (k n : ℕ) → rise xs ≡ true → list_all (nat_le k) xs ≡ true → are_below n xs ≡ true → k ≤ n → length xs + k ≤ n
room [] k n up above below h = omega arith
room (x ∷ xs) k n up above below h =
    let rises = and_parts (list_all (nat_lt x) xs) (rise xs) up in
    let least = and_parts (nat_le k x) (list_all (nat_le k) xs) above in
    let most = and_parts (nat_lt x n) (are_below n xs) below in
    let lt : x < n = ltb-true x n most.0 in
    let le : k ≤ x = leb-true k x least.0 in
    let rest = room xs (suc x) n rises.1 (next_above x xs rises.0) most.1 (omega arith) in
    omega (arith, rest)

-- where they are as many, each number between is one of them
full : (xs : List ℕ) (k n v : ℕ) → rise xs ≡ true → list_all (nat_le k) xs ≡ true → are_below n xs ≡ true → length xs + k ≡ n → k ≤ v → v < n → among xs v ≡ true
full [] k n v up above below long from to = absurd (omega arith)
full (x ∷ xs) k n v up above below long from to =
    let rises = and_parts (list_all (nat_lt x) xs) (rise xs) up in
    let least = and_parts (nat_le k x) (list_all (nat_le k) xs) above in
    let most = and_parts (nat_lt x n) (are_below n xs) below in
    let lt : x < n = ltb-true x n most.0 in
    let le : k ≤ x = leb-true k x least.0 in
    let few = room xs (suc x) n rises.1 (next_above x xs rises.0) most.1 (omega arith) in
    elim (cases_Bool (x == v)) [
      | inl same ↦ rw same refl
      | inr other ↦
          let apart = eq_not x v other in
          let more : suc x ≤ v = elim (cases_lt x v) [ inl less ↦ omega arith | inr ge ↦ absurd (apart (omega (arith, few))) ] in
          rw other (full xs (suc x) n v rises.1 (next_above x xs rises.0) most.1 (omega (arith, few)) more to)
    ]

-- where each number between is one of them, they are as many
filled : (xs : List ℕ) (k n : ℕ) → rise xs ≡ true → list_all (nat_le k) xs ≡ true → ((v : ℕ) → k ≤ v → v < n → among xs v ≡ true) → n ≤ length xs + k
filled [] k n up above each =
    elim (cases_lt k n) [ inl less ↦ let here = each k (omega arith) less in absurd (cc) | inr ge ↦ omega arith ]
filled (x ∷ xs) k n up above each =
    let rises = and_parts (list_all (nat_lt x) xs) (rise xs) up in
    let least = and_parts (nat_le k x) (list_all (nat_le k) xs) above in
    let le : k ≤ x = leb-true k x least.0 in
    elim (cases_lt k n) [
      | inr ge ↦ omega arith
      | inl less ↦
          elim (cases_lt k x) [
            | inl lower ↦
                let above_all : list_all (nat_le (suc k)) (x ∷ xs) ≡ true = all_from k x xs lower rises.0 in
                let none = none_below k (x ∷ xs) above_all in
                let here = each k (omega arith) less in
                absurd (cc)
            | inr ge ↦
                let rest = filled xs (suc x) n rises.1 (next_above x xs rises.0) (λ v from to. later v from to) in
                omega (arith, rest)
          ]
    ]
  where
    all_from : (k x : ℕ) (ys : List ℕ) → k < x → list_all (nat_lt x) ys ≡ true → list_all (nat_le (suc k)) (x ∷ ys) ≡ true
    all_from k x ys lower up = and_from (nat_le (suc k) x) (list_all (nat_le (suc k)) ys) (grind (arith, nat_tests)) (weaken k x ys lower up)
      where
        weaken : (k x : ℕ) (ys : List ℕ) → k < x → list_all (nat_lt x) ys ≡ true → list_all (nat_le (suc k)) ys ≡ true
        weaken k x [] lower up = refl
        weaken k x (y ∷ ys) lower up =
            let parts = and_parts (nat_lt x y) (list_all (nat_lt x) ys) up in
            let more = ltb-true x y parts.0 in
            and_from (nat_le (suc k) y) (list_all (nat_le (suc k)) ys) (grind (arith, nat_tests)) (weaken k x ys lower parts.1)

    later : (v : ℕ) → suc x ≤ v → v < n → among xs v ≡ true
    later v from to =
        let here : among (x ∷ xs) v ≡ true = each v (omega (arith, leb-true k x (and_parts (nat_le k x) (list_all (nat_le k) xs) above).0)) to in
        elim (cases_Bool (x == v)) [
          | inl same ↦ let e : x ≡ v = eqb-true x v same in absurd (omega arith)
          | inr other ↦ rw other at here
        ]

-- the parts of wanted values
record Parted (wanted : List ℕ) (count : ℕ) : Type 0 where
  pub rising : rise wanted ≡ true
  pub below : are_below count wanted ≡ true
  pub some : nat_lt 0 (length wanted) ≡ true

parted : (wanted : List ℕ) (count : ℕ) → IsTrue (are_wanted wanted count) → Parted wanted count
parted wanted count asked =
    let one = and_parts (nat_lt 0 (length wanted) && rise wanted && are_below count wanted) (nat_le count RECORD_LIMIT) asked in
    let two = and_parts (nat_lt 0 (length wanted) && rise wanted) (are_below count wanted) one.0 in
    let three = and_parts (nat_lt 0 (length wanted)) (rise wanted) two.0 in
    record { rising = three.1; below = two.1; some = three.0 }

zero_le : (xs : List ℕ) → list_all (nat_le 0) xs ≡ true
zero_le [] = refl
zero_le (x ∷ xs) = and_from (nat_le 0 x) (list_all (nat_le 0) xs) (grind (arith, nat_tests)) (zero_le xs)

any_all : (xs : List ℕ) → list_all (allows Any) xs ≡ true
any_all [] = refl
any_all (x ∷ xs) = any_all xs

-- any value serves
pub any_serves : (wanted : List ℕ) (count : ℕ) → Serves wanted count Any
any_serves wanted count = record { formed = refl; wide = any_all wanted; within = refl }

-- the wanted set serves
pub set_serves : (wanted : List ℕ) (count : ℕ) → IsTrue (are_wanted wanted count) → Serves wanted count (Set wanted)
set_serves wanted count asked =
    let parts = parted wanted count asked in
    record {
      formed = and_from (nat_lt 0 (length wanted)) (rise wanted) parts.some parts.rising;
      wide = all_among wanted wanted (λ x held. held);
      within = parts.below;
    }

pub any_plain : (wanted : List ℕ) (count : ℕ) → IsTrue (are_wanted wanted count) → length wanted ≡ count → WidensPlainly wanted count Any
any_plain wanted count asked long =
    let parts = parted wanted count asked in
    record {
      any = (λ e v below. full wanted 0 count v parts.rising (zero_le wanted) parts.below (omega arith) (omega arith) below, λ each. refl);
      set = inl refl;
    }

pub set_plain : (wanted : List ℕ) (count : ℕ) → IsTrue (are_wanted wanted count) → (length wanted ≡ count → ⊥) → WidensPlainly wanted count (Set wanted)
set_plain wanted count asked apart =
    let parts = parted wanted count asked in
    record {
      any = (λ e. absurd (cc), λ each. absurd (apart (same parts each)));
      set = inr refl;
    }
  where
    same : Parted wanted count → ((v : ℕ) → v < count → IsTrue (among wanted v)) → length wanted ≡ count
    same parts each =
        let few = room wanted 0 count parts.rising (zero_le wanted) parts.below (omega arith) in
        let many = filled wanted 0 count parts.rising (zero_le wanted) (λ v from to. each v to) in
        omega (arith, few, many)

-- what is answered plainly serves
pub plain_serves : (wanted : List ℕ) (count : ℕ) (answer : Result Allowed OutOfMemory) → IsTrue (are_wanted wanted count) → IfOk answer (WidensPlainly wanted count) → IfOk answer (Serves wanted count)
plain_serves wanted count (Err e) asked plain = tt
plain_serves wanted count (Ok allowed) asked plain =
    elim plain.set [
      | inl any ↦ subst (Serves wanted count) (sym any) (any_serves wanted count)
      | inr set ↦ subst (Serves wanted count) (sym set) (set_serves wanted count asked)
    ]
