-- What the bytes of a number say, and what parsing them gives.
use Rattle.std.proofs.Common.{◌≡◌, ◌≢◌, ◌==◌, ◌<◌, ◌≤◌, ◌+◌, ◌^◌, ◌*◌, ◌-◌, ℕ, zero, suc, ℤ, pos, neg_ℤ, true, false, List, [], ◌∷◌, Some, None, Result, nat_lt, length, length-take, take, take_all, get_or, refl, sym, subst, arith, inl, inr}
use Rattle.std.proofs.lemmas.Bool.{cases_Bool, eqb-true}
use Rattle.std.proofs.lemmas.Bool.Decides.{nat_tests}
use Rattle.std.proofs.lemmas.Str.{IsUtf8-from_is_utf8, is_utf8-from_IsUtf8, IsUtf8-from_ascii, digit_value_digit}
use Rattle.std.proofs.lemmas.Str.Parse.{IsNumeralModel, numerals_by_value, tells_digits, digits_value_short, not_in_digits, digit_from_value, parse_signed_minus, parse_signed_plain}
use Rattle.std.proofs.lemmas.Fmt.{IsAscii-from_digits}
use Rattle.std.proofs.lemmas.Int.Digits.{digits_value_more}
use Rattle.std.specs.Char.{digit_value}
use Rattle.std.specs.Int.{w64}
use Rattle.std.specs.Result.{result_ok}
use Rattle.std.specs.Str.{is_utf8, IsUtf8, IsAscii, all_ascii_digits}
use Rattle.std.specs.Str.Parse.{digits_value, AllDigits, ParsesSigned}
use Rattle.olap_meaning.specs.Records.{digits_below, number}
use Rattle.olap_meaning.proofs.Numerals.{all_digits_model, same_told, spelled}

pub text_yes : (bytes : List ℕ) → IsUtf8 bytes → true ≡ is_utf8 bytes
text_yes bytes h = sym (is_utf8-from_IsUtf8 bytes h)

pub text_no : (bytes : List ℕ) → ¬ (IsUtf8 bytes) → false ≡ is_utf8 bytes
text_no bytes h = elim (cases_Bool (is_utf8 bytes)) [
  | inl holds ↦ absurd (h (IsUtf8-from_is_utf8 bytes holds))
  | inr fails ↦ sym fails
]

-- digits are text
digits_ascii : (ds : List ℕ) → all_ascii_digits ds ≡ true → IsAscii ds
digits_ascii ds h = IsAscii-from_digits ds (all_digits_model.to ds h)

none_below : (limit : ℕ) (ds : List ℕ) → ¬ (IsAscii ds) → digits_below limit ds ≡ None
none_below limit [] h = refl
none_below limit (d ∷ ds) h = elim (cases_Bool (all_ascii_digits (d ∷ ds))) [
  | inl holds ↦ absurd (h (digits_ascii (d ∷ ds) holds))
  | inr fails ↦ rw fails refl
]

minus_ascii : (c : ℕ) (cs : List ℕ) → c < 128 → IsAscii cs → IsAscii (c ∷ cs)
minus_ascii c cs low h zero = low
minus_ascii c cs low h (suc i) = h i

-- what is no text is no number
pub number_of_no_text : (field : List ℕ) → ¬ (IsUtf8 field) → None ≡ number field
number_of_no_text [] h = refl
number_of_no_text (c ∷ cs) h = elim (cases_Bool (c == 45)) [
  | inl holds ↦
      let low : c < 128 = grind (arith, nat_tests) in
      rw (holds, none_below (2 ^ 63 + 1) cs (λ a. h (IsUtf8-from_ascii (c ∷ cs) (minus_ascii c cs low a)))) refl
  | inr fails ↦ rw (fails, none_below (2 ^ 63) (c ∷ cs) (λ a. h (IsUtf8-from_ascii (c ∷ cs) a))) refl
]

-- a text that does not begin with a plus sign parses as its number
number_parsed : {E : Type 0} (r : Result ℤ E) (field : List ℕ) → get_or field 0 0 ≢ 43 → ParsesSigned w64 10 field r → result_ok r ≡ number field
number_parsed r [] plus h = spelled r (2 ^ 63) pos [] (parse_signed_plain all_digits_model w64 [] r h plus (λ e. cc))
number_parsed r (c ∷ cs) plus h = elim (cases_Bool (c == 45)) [
  | inl holds ↦
      let minus : c ≡ 45 = eqb-true c 45 holds in
      let told = parse_signed_minus all_digits_model w64 (c ∷ cs) r h minus in
      rw holds (spelled r (2 ^ 63 + 1) (λ n. neg_ℤ (pos n)) cs (same_told r _ _ _ (λ q. (q.0, q.1, (omega (arith, q.2)))) (λ q. (q.0, q.1, (omega (arith, q.2)))) told))
  | inr fails ↦ rw fails (spelled r (2 ^ 63) pos (c ∷ cs) (parse_signed_plain all_digits_model w64 (c ∷ cs) r h plus (λ e. let same : (45 == 45) ≡ false = rw e at fails in cc)))
]

-- the same of a text that stands for the field's bytes
pub number_of_text : {E : Type 0} (r : Result ℤ E) (text field : List ℕ) → text ≡ field → (get_or field 0 0 == 43) ≡ false → ParsesSigned w64 10 text r → result_ok r ≡ number field
number_of_text r text field same first h =
    number_parsed r field (λ e. let both : (43 == 43) ≡ false = rw e at first in cc) (subst (λ bytes. ParsesSigned w64 10 bytes r) same h)

digits : IsNumeralModel (AllDigits 10) (digits_value 10)
digits = numerals_by_value _ tells_digits

-- a few digits spell a small number
pub few_digits : (ds : List ℕ) → AllDigits 10 ds → length ds ≤ 18 → digits_value 10 ds < 10 ^ 18
few_digits ds h few = digits_value_short digits ds 18 h few

-- digits are the number that they spell
pub number_of_digits : (field : List ℕ) → 0 < length field → AllDigits 10 field → digits_value 10 field < 2 ^ 63 → number field ≡ Some (pos (digits_value 10 field))
number_of_digits [] some h small = absurd (omega arith)
number_of_digits (c ∷ cs) some h small = elim (cases_Bool (c == 45)) [
  | inl holds ↦ absurd (not_in_digits digits (c ∷ cs) 45 h (λ r. omega (arith, r)) 0 (omega arith) (eqb-true c 45 holds))
  | inr fails ↦
      let all : all_ascii_digits (c ∷ cs) ≡ true = all_digits_model.from (c ∷ cs) h in
      let below : nat_lt (digits_value 10 (c ∷ cs)) (2 ^ 63) ≡ true = grind (arith, nat_tests) in
      rw (fails, all, below) refl
]

-- the digits so far spell a small number
pub small_so_far : (field : List ℕ) (i value : ℕ) → length field ≤ 18 → AllDigits 10 (take i field) → value ≡ digits_value 10 (take i field) → value < 10 ^ 18
small_so_far field i value few h spelled =
    let short : length (take i field) ≤ 18 = simp length-take (omega arith) in
    rw spelled (few_digits (take i field) h short)

-- one digit more
pub one_more : (field : List ℕ) (i value digit : ℕ) → i < length field → digit_value (get_or field i 0) < 10 → digit ≡ get_or field i 0 - 48 → value ≡ digits_value 10 (take i field)
    → value * 10 + digit ≡ digits_value 10 (take (i + 1) field)
one_more field i value digit h small is spelled =
    let worth = digit_value_digit (get_or field i 0) (digit_from_value (get_or field i 0) small) in
    let same : digit ≡ digit_value (get_or field i 0) = omega arith in
    rw (digits_value_more 10 field i h, spelled, same) refl

pub all_digits : (field : List ℕ) (i : ℕ) → length field ≤ i → AllDigits 10 (take i field) → 0 < length field → length field ≤ 18 → number field ≡ Some (pos (digits_value 10 (take i field)))
all_digits field i whole h some few =
    let all : take i field ≡ field = take_all i field whole in
    let own_digits : AllDigits 10 field = rw all at h in
    let small = few_digits field own_digits few in
    rw all (number_of_digits field some own_digits (omega arith))
