-- How many elements of a list pass a test: where one is taken out, and where none does.
use Rattle.std.proofs.Common.{◌≡◌, ◌+◌, ◌++◌, ℕ, zero, suc, Bool, false, List, [], ◌∷◌, Some, arith, inl, inr, take, drop, slice_get, All, cond}
use Rattle.std.specs.Prelude.{count_by}
use Rattle.std.specs.List.{sum_by}
use Rattle.std.proofs.lemmas.Bool.{cases_Bool}
use Rattle.std.proofs.lemmas.List.Elements.{All-cons}
use Rattle.std.proofs.lemmas.List.Sums.{sum_by-cons}

module _ {X : Type 0} where
  -- a sum is that of the elements without the one at a place, and what that one adds
  pub sum_without : (f : X → ℕ) (xs : List X) (i : ℕ) (x : X) → slice_get xs i ≡ Some x → sum_by f xs ≡ sum_by f (take i xs ++ drop (suc i) xs) + f x
  sum_without f [] i x is = absurd (cc)
  sum_without f (y ∷ xs) zero x is =
      let same : y ≡ x = cc in
      let all = sum_by-cons f x xs in
      rw (same, all) (omega arith)
  sum_without f (y ∷ xs) (suc i) x is =
      let rest = sum_without f xs i x is in
      let all = sum_by-cons f y xs in
      let left = sum_by-cons f y (take i xs ++ drop (suc i) xs) in
      rw (all, left, rest) (omega arith)

  -- where none is counted, none passes
  pub none_counted : (p : X → Bool) (xs : List X) → count_by p xs ≡ 0 → All (λ x. p x ≡ false) xs
  none_counted p [] none = λ k d below. absurd (omega (arith, below))
  none_counted p (x ∷ xs) none =
      let all : cond (p x) 1 0 + count_by p xs ≡ 0 = rw (sum_by-cons (λ x. cond (p x) 1 0) x xs) at none in
      elim (cases_Bool (p x)) [
        | inl passes ↦ let some : 1 + count_by p xs ≡ 0 = rw passes at all in absurd (omega (arith, some))
        | inr fails ↦ let rest : 0 + count_by p xs ≡ 0 = rw fails at all in All-cons (λ x. p x ≡ false) x xs fails (none_counted p xs (omega (arith, rest)))
      ]
