-- Where a text has its first =, and whether anything stands after it.
use Rattle.std.proofs.Common.{◌≡◌, ◌∙◌, ◌+◌, ◌-◌, ◌<◌, ◌||◌, ℕ, zero, suc, Bool, true, false, List, [], ◌∷◌, not, is_some, None, Some, refl, sym, ap, inl, inr, drop, length, nat_eq, nat_lt, get_or, position, true≢false, arith, cond, if◌then◌else◌}
use Rattle.std.proofs.lemmas.Bool.Decides.{nat_tests}
use Rattle.std.specs.List.{after_first, before_first, list_any, position_or_len}
use Rattle.std.proofs.lemmas.Bool.{cases_Bool}
use Rattle.std.proofs.lemmas.Grind.{common_steps}
use Rattle.std.proofs.lemmas.List.{length-drop}
use Rattle.std.proofs.lemmas.List.Quantifiers.{position-Some}
use Rattle.command_words.specs.Options.{Text, is_equals, joined_value, option_parts}

or_true : (b : Bool) → (b || true) ≡ true
or_true true = refl
or_true false = refl

any_at : (xs : List ℕ) (i : ℕ) → i < length xs → is_equals (get_or xs i 0) ≡ true → list_any is_equals xs ≡ true
any_at [] i h e = absurd (omega arith)
any_at (x ∷ xs) zero h e = rw e refl
any_at (x ∷ xs) (suc i) h e = rw (any_at xs i (omega arith) e) (or_true (is_equals x))

place_of : (b : Bool) (n i : ℕ) → cond b (Some n) None ≡ Some i → n ≡ i
place_of true n i e = cc e
place_of false n i e = absurd (cc e)

no_place : (b : Bool) (n : ℕ) → cond b (Some n) None ≡ None → b ≡ false
no_place true n e = absurd (cc e)
no_place false n e = refl

is_empty_value : (name t : Text) → not (is_some (joined_value name t)) ≡ nat_eq (length t) 0
is_empty_value name [] = refl
is_empty_value name (b ∷ bs) = grind (arith, common_steps)

value_test : (name rest text : Text) (h : Bool) → h ≡ true
    → not (is_some (if h then joined_value name rest else Some (text, None))) ≡ nat_eq (length rest) 0
value_test name rest text h e = rw e (is_empty_value name rest)

no_value_test : (name rest text : Text) (h : Bool) → h ≡ false
    → not (is_some (if h then joined_value name rest else Some (text, None))) ≡ false
no_value_test name rest text h e = rw e refl

place_within : (xs : List ℕ) → list_any is_equals xs ≡ true → nat_lt (position_or_len is_equals xs) (length xs) ≡ true
place_within [] h = absurd (true≢false (sym h))
place_within (x ∷ xs) h =
    elim (cases_Bool (is_equals x)) [
      | inl here ↦ rw here (grind (arith, nat_tests))
      | inr other ↦
          let later = place_within xs (rw other at h) in
          rw other (grind (arith, nat_tests))
    ]

any_none : (xs : List ℕ) → nat_lt (position_or_len is_equals xs) (length xs) ≡ false → list_any is_equals xs ≡ false
any_none xs h =
    elim (cases_Bool (list_any is_equals xs)) [
      | inl has ↦ absurd (true≢false (sym (place_within xs has) ∙ h))
      | inr has ↦ has
    ]

pub equals_some : (xs : List ℕ) (i : ℕ) → position is_equals xs ≡ Some i → not (is_some (option_parts xs)) ≡ nat_eq (length xs - i) 1
equals_some xs i e =
    let at = position-Some is_equals xs i 0 e in
    let has = any_at xs i at.0 at.1 in
    let place = place_of _ (position_or_len is_equals xs) i e in
    let short = length-drop (i + 1) xs in
    let lengths : nat_eq (length (drop (i + 1) xs)) 0 ≡ nat_eq (length xs - i) 1 = grind (arith, nat_tests) in
    value_test (before_first is_equals xs) (after_first is_equals xs) xs (list_any is_equals xs) has ∙ ap (λ n. nat_eq (length (drop (n + 1) xs)) 0) place ∙ lengths

pub equals_none : (xs : List ℕ) → position is_equals xs ≡ None → not (is_some (option_parts xs)) ≡ false
equals_none xs e = no_value_test (before_first is_equals xs) (after_first is_equals xs) xs (list_any is_equals xs) (any_none xs (no_place _ (position_or_len is_equals xs) e))
