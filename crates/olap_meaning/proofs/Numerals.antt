-- What parsing a text of decimal digits gives: the number that it spells, where that is in bounds.
use Rattle.std.proofs.Common.{◌≡◌, ◌<◌, ℕ, true, List, [], ◌∷◌, Some, Result, Ok, Err, option_map, nat_lt, length, refl, ap, arith, inl, inr}
use Rattle.std.proofs.lemmas.Bool.{cases_Bool}
use Rattle.std.proofs.lemmas.Bool.Decides.{nat_tests}
use Rattle.std.proofs.lemmas.Str.Parse.{IsNumeralModel, numerals_by_value, tells_all_ascii_digits}
use Rattle.std.specs.Result.{OkIff, result_ok}
use Rattle.std.specs.Str.{all_ascii_digits}
use Rattle.std.specs.Str.Parse.{digits_value}
use Rattle.olap_meaning.specs.Records.{digits_below}

pub all_digits_model : IsNumeralModel (λ ds. all_ascii_digits ds ≡ true) (digits_value 10)
all_digits_model = numerals_by_value _ tells_all_ascii_digits

-- parsing digits gives what they spell below the limit
pub spelled : {A E : Type 0} (r : Result A E) (limit : ℕ) (f : ℕ → A) (ds : List ℕ) → OkIff r ((all_ascii_digits ds ≡ true) × (0 < length ds) × (digits_value 10 ds < limit)) (f (digits_value 10 ds))
    → result_ok r ≡ option_map f (digits_below limit ds)
spelled (Ok x) limit f [] h = absurd (omega (arith, h.0.1))
spelled (Err e) limit f [] h = refl
spelled (Ok x) limit f (d ∷ ds) h =
    let small : nat_lt (digits_value 10 (d ∷ ds)) limit ≡ true = grind (arith, nat_tests, h.0.2) in
    rw (h.0.0, small) (ap Some h.1)
spelled (Err e) limit f (d ∷ ds) h = elim (cases_Bool (all_ascii_digits (d ∷ ds))) [
  | inr fails ↦ rw fails refl
  | inl holds ↦ elim (cases_Bool (nat_lt (digits_value 10 (d ∷ ds)) limit)) [
    | inr fails ↦ rw (holds, fails) refl
    | inl small ↦ absurd (h (holds, (omega arith), (grind (arith, nat_tests))))
  ]
]

pub same_told : {A E : Type 0} (r : Result A E) (P Q : Type 0) (v : A) → (P → Q) → (Q → P) → OkIff r P v → OkIff r Q v
same_told (Ok x) P Q v to from h = (to h.0, h.1)
same_told (Err e) P Q v to from h = λ q. h (from q)
