-- The earliest position that passes a test.
use Rattle.std.proofs.Common.{◌≡◌, refl, sym, ◌∙◌, ap, ℕ, zero, suc, ◌<◌, ◌≤◌, Bool, true, false, cond, ◌⊎◌, inl, inr, Option, Some, None, arith}
use Rattle.std.specs.Option.{option_or}
use Rattle.std.proofs.lemmas.Bool.{both_ways, cases_eq}
use Rattle.olap_meaning.specs.History.{earliest}

-- a position up to n is that one, or one before it
up_to : (k n : ℕ) → k ≤ suc n → (k ≤ n) ⊎ (k ≡ suc n)
up_to k n l = elim (cases_eq k (suc n)) [ inl same ↦ inr same | inr other ↦ inl (omega (arith, other, l)) ]

-- where there is no earliest position, none passes
pub earliest_none : (n : ℕ) (test : ℕ → Bool) (k : ℕ) → earliest n test ≡ None → 1 ≤ k → k ≤ n → test k ≡ false
earliest_none zero test k h one l = absurd (omega (arith, one, l))
earliest_none (suc n) test k h one l = by (earliest n test) (test (suc n)) refl (earliest_none n test k) refl h
  where
    by : (o : Option ℕ) (b : Bool) → earliest n test ≡ o → (earliest n test ≡ None → 1 ≤ k → k ≤ n → test k ≡ false) → test (suc n) ≡ b → option_or o (cond b (Some (suc n)) None) ≡ None → test k ≡ false
    by None false e rest t s = elim (up_to k n l) [ inl here ↦ rest e one here | inr same ↦ ap test same ∙ t ]
    by None true e rest t s = absurd (cc)
    by (Some m) b e rest t s = absurd (cc)

-- what is known of the earliest position
pub record IsEarliest (n : ℕ) (test : ℕ → Bool) (k : ℕ) : Type 0 where
  pub passes : test k ≡ true
  pub positive : 1 ≤ k
  pub within : k ≤ n
  pub first : (i : ℕ) → 1 ≤ i → i < k → test i ≡ false

pub earliest_found : (n : ℕ) (test : ℕ → Bool) (k : ℕ) → earliest n test ≡ Some k → IsEarliest n test k
earliest_found zero test k h = absurd (cc)
earliest_found (suc n) test k h = by (earliest n test) (test (suc n)) refl (earliest_found n test k) refl h
  where
    by : (o : Option ℕ) (b : Bool) → earliest n test ≡ o → (earliest n test ≡ Some k → IsEarliest n test k) → test (suc n) ≡ b → option_or o (cond b (Some (suc n)) None) ≡ Some k → IsEarliest (suc n) test k
    by None false e rest t s = absurd (cc)
    by None true e rest t s =
        let same : suc n ≡ k = cc in
        record { passes = ap test (sym same) ∙ t; positive = omega (arith, same); within = omega (arith, same); first = λ i one l. earliest_none n test i e one (omega (arith, l, same)) }
    by (Some m) b e rest t s =
        let same : Some m ≡ Some k = s in
        let is : IsEarliest n test k = rest (e ∙ same) in
        record { passes = is.passes; positive = is.positive; within = omega (arith, is.within); first = is.first }

-- the earliest position, by its facts
pub earliest_is : (n : ℕ) (test : ℕ → Bool) (k : ℕ) → test k ≡ true → 1 ≤ k → k ≤ n → ((i : ℕ) → 1 ≤ i → i ≤ n → test i ≡ true → k ≤ i) → earliest n test ≡ Some k
earliest_is n test k t one l least = by (earliest n test) refl
  where
    by : (o : Option ℕ) → earliest n test ≡ o → earliest n test ≡ Some k
    by None e = absurd (both_ways (test k) (earliest_none n test k e one l) t)
    by (Some m) e = e ∙ ap Some (same (earliest_found n test m e))
      where
        same : IsEarliest n test m → m ≡ k
        same is = elim (cases_eq m k) [
          | inl here ↦ here
          | inr other ↦
              let low : k ≤ m = least m is.positive is.within is.passes in
              absurd (both_ways (test k) (is.first k one (omega (arith, other, low))) t)
        ]

-- there is none where none passes
pub none_earliest : (n : ℕ) (test : ℕ → Bool) → ((k : ℕ) → 1 ≤ k → k ≤ n → test k ≡ false) → earliest n test ≡ None
none_earliest n test none = by (earliest n test) refl
  where
    by : (o : Option ℕ) → earliest n test ≡ o → earliest n test ≡ None
    by None e = e
    by (Some m) e = let is : IsEarliest n test m = earliest_found n test m e in absurd (both_ways (test m) (none m is.positive is.within) is.passes)

-- tests that agree up to n have one earliest position
pub earliest_agree : (n : ℕ) (f g : ℕ → Bool) → ((k : ℕ) → k ≤ n → f k ≡ g k) → earliest n f ≡ earliest n g
earliest_agree zero f g same = refl
earliest_agree (suc n) f g same =
    ap (λ b. option_or (earliest n f) (cond b (Some (suc n)) None)) (same (suc n) (omega arith)) ∙ ap (λ o. option_or o (cond (g (suc n)) (Some (suc n)) None)) (earliest_agree n f g (λ k l. same k (omega (arith, l))))
