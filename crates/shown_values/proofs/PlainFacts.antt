-- What plain texts are made of.
use Rattle.std.proofs.Common.{inl, inr, ◌⊎◌, Result, Ok, ◌≡◌, ◌∙◌, ◌+◌, ◌<◌, ◌≤◌, ◌/◌, ◌%◌, ◌^◌, ◌++◌, ◌==◌, ◌||◌, ℕ, zero, suc, Bool, true, false, cond, List, [], ◌∷◌, sym, ap, refl, ℤ, pos, negsuc, codes, filter, length, arith, append_assoc}
use Rattle.std.proofs.Math.Bool.{or-false}
use Rattle.std.proofs.lemmas.Grind.{common_steps}
use Rattle.std.specs.Char.{is_ascii_digit, digit_value}
use Rattle.std.specs.Int.{IsInRange}
use Rattle.std.specs.Int.{w128}
use Rattle.std.specs.Int.RustNames.{FitsSigned}
use Rattle.std.specs.List.{list_any}
use Rattle.std.specs.Fmt.{decimal}
use Rattle.std.specs.Str.Parse.{AllDigits, ParsesUnsigned, digits_value}
use Rattle.std.proofs.lemmas.Str.{digit_value_digit}
use Rattle.std.proofs.lemmas.Str.Parse.{digit_from_value, numerals_by_value, tells_digits, parse_gives}
use Rattle.std.proofs.lemmas.Int.Digits.{digits_push, digits_value_push}
use Rattle.std.proofs.lemmas.Fmt.{decimal_is_IsNumeral_wide, decimal_digit}
use Rattle.std.proofs.lemmas.List.Elements.{filter-append}
use Rattle.std.proofs.lemmas.List.Folds.{list_any-append}
use Rattle.olap_meaning.specs.declared.CellValue.{CellValue}
use Rattle.olap_meaning.specs.declared.CellValue.TheVariants.{Empty, Whole, Hundredths}
use Rattle.olap_meaning.specs.Texts.{CanBeShown, sign, two_digits, plain_text}
use Rattle.query_meaning.specs.Shown.{is_kept, bare, is_break, breaks, Shows}
use Rattle.shown_values.specs.Shown.{signed}

-- a filter that all digits pass keeps a text of digits
pub kept : (p : ℕ → Bool) → ((c : ℕ) → IsInRange 48 57 c → p c ≡ true) → (ds : List ℕ) → AllDigits 10 ds → filter p ds ≡ ds
kept p h [] all = refl
kept p h (c ∷ ds) all = ap (λ b. cond b (c ∷ filter p ds) (filter p ds)) (h c (digit_from_value c all.0)) ∙ ap (λ t. c ∷ t) (kept p h ds all.1)

-- and one that none passes keeps nothing
pub none : (p : ℕ → Bool) → ((c : ℕ) → IsInRange 48 57 c → p c ≡ false) → (ds : List ℕ) → AllDigits 10 ds → filter p ds ≡ []
none p h [] all = refl
none p h (c ∷ ds) all = ap (λ b. cond b (c ∷ filter p ds) (filter p ds)) (h c (digit_from_value c all.0)) ∙ none p h ds all.1

-- no other byte is in a text of digits
pub absent : (p : ℕ → Bool) → ((c : ℕ) → IsInRange 48 57 c → p c ≡ false) → (ds : List ℕ) → AllDigits 10 ds → list_any p ds ≡ false
absent p h [] all = refl
absent p h (c ∷ ds) all = ap (λ b. b || list_any p ds) (h c (digit_from_value c all.0)) ∙ absent p h ds all.1

digit_kept : (c : ℕ) → IsInRange 48 57 c → is_kept c ≡ true
digit_kept c h = grind (arith, common_steps)

digit_no_break : (c : ℕ) → IsInRange 48 57 c → is_break c ≡ false
digit_no_break c h = grind (arith, common_steps)

digit_is : (c : ℕ) → IsInRange 48 57 c → is_ascii_digit c ≡ true
digit_is c h = grind (arith, common_steps)

digit_no_minus : (c : ℕ) → IsInRange 48 57 c → (c == 45) ≡ false
digit_no_minus c h = grind (arith, common_steps)

digit_no_dot : (c : ℕ) → IsInRange 48 57 c → (c == 46) ≡ false
digit_no_dot c h = grind (arith, common_steps)

digits_join : (xs ys : List ℕ) → AllDigits 10 xs → AllDigits 10 ys → AllDigits 10 (xs ++ ys)
digits_join [] ys a b = b
digits_join (x ∷ xs) ys a b = (a.0, digits_join xs ys a.1 b)

-- one digit
digit_decimal : (d : ℕ) → d < 10 → (decimal d ≡ (48 + d) ∷ []) × (digit_value (48 + d) < 10) × (digit_value (48 + d) ≡ d)
digit_decimal d h =
    let own = digit_value_digit (48 + d) (omega arith, omega arith) in
    let is : digit_value (48 + d) ≡ d = omega (arith, own) in
    (decimal_digit d h, omega (arith, is, h), is)

value_of : (u : ℕ) (ds : List ℕ) (a b : ℕ) → digits_value 10 ds ≡ u / 100 → digit_value a ≡ u % 100 / 10 → digit_value b ≡ u % 100 % 10 → digits_value 10 ((ds ++ a ∷ []) ++ b ∷ []) ≡ u
value_of u ds a b front tens ones =
    let last = digits_value_push 10 (ds ++ a ∷ []) b in
    let first = digits_value_push 10 ds a in
    omega (arith, last, first, front, tens, ones)

-- the digits of a number of hundredths
pub hundredth_digits : (u : ℕ) → u ≤ 2 ^ 100 → AllDigits 10 (decimal (u / 100) ++ two_digits (u % 100)) × (digits_value 10 (decimal (u / 100) ++ two_digits (u % 100)) ≡ u)
hundredth_digits u h =
    let front = decimal_is_IsNumeral_wide (u / 100) (omega arith) in
    let tens = digit_decimal (u % 100 / 10) (omega arith) in
    let ones = digit_decimal (u % 100 % 10) (omega arith) in
    let whole = digits_push 10 (decimal (u / 100)) (48 + u % 100 / 10) front.0.1 tens.1 in
    let value : digits_value 10 ((decimal (u / 100) ++ (48 + u % 100 / 10) ∷ []) ++ (48 + u % 100 % 10) ∷ []) ≡ u =
    value_of u (decimal (u / 100)) (48 + u % 100 / 10) (48 + u % 100 % 10) front.1 tens.2 ones.2 in
    let joined : (decimal (u / 100) ++ (48 + u % 100 / 10) ∷ []) ++ (48 + u % 100 % 10) ∷ [] ≡ decimal (u / 100) ++ two_digits (u % 100) =
    append_assoc (decimal (u / 100)) ((48 + u % 100 / 10) ∷ []) ((48 + u % 100 % 10) ∷ []) ∙ ap (λ t. decimal (u / 100) ++ t) (ap (λ t. t ++ (48 + u % 100 % 10) ∷ []) (sym tens.0) ∙ ap (λ t. decimal (u % 100 / 10) ++ t) (sym ones.0)) in
    (rw (← joined) (digits_push 10 (decimal (u / 100) ++ (48 + u % 100 / 10) ∷ []) (48 + u % 100 % 10) whole ones.1), ap (digits_value 10) (sym joined) ∙ value)

-- a number, or a number of hundredths
abbrev pub numbered : Bool → ℤ → CellValue
numbered true n = Hundredths n
numbered false n = Whole n

-- whether a byte is in a text
abbrev pub has : List ℕ → ℕ → Bool
has t byte = list_any (λ b. b == byte) t

-- a text gives a value back: by its digits, its minus sign and its dot
record Undone (value : CellValue) (t : List ℕ) : Type 0 where
  all : AllDigits 10 (filter is_ascii_digit t)
  some : 0 < length (filter is_ascii_digit t)
  small : digits_value 10 (filter is_ascii_digit t) ≤ 2 ^ 100
  back : numbered (has t 46) (signed (has t 45) (digits_value 10 (filter is_ascii_digit t))) ≡ value

gather : (t ds : List ℕ) (dot minus : Bool) (u : ℕ) (value : CellValue) → filter is_ascii_digit t ≡ ds → has t 45 ≡ minus → has t 46 ≡ dot → AllDigits 10 ds → 0 < length ds → digits_value 10 ds ≡ u → u ≤ 2 ^ 100 → numbered dot (signed minus u) ≡ value → Undone value t
gather t ds dot minus u value own sign point all some is small back = record {
  all = rw own all;
  some = rw own some;
  small = rw (own, is) small;
  back = rw (own, is, sign, point) back;
}

longer : (xs ys : List ℕ) → 0 < length xs → 0 < length (xs ++ ys)
longer [] ys h = absurd (omega (arith, h))
longer (x ∷ xs) ys h = omega arith

no_length : (t : List ℕ) → t ≡ [] → 0 < length t → ⊥
no_length [] e h = omega (arith, h)
no_length (x ∷ xs) e h = cc e

-- a text of digits
digits_own : (ds : List ℕ) → AllDigits 10 ds → (filter is_ascii_digit ds ≡ ds) × (has ds 45 ≡ false) × (has ds 46 ≡ false)
digits_own ds all = (kept is_ascii_digit digit_is ds all, absent (λ b. b == 45) digit_no_minus ds all, absent (λ b. b == 46) digit_no_dot ds all)

-- digits after a sign
fronted : (front ds : List ℕ) (minus : Bool) → filter is_ascii_digit front ≡ [] → has front 45 ≡ minus → has front 46 ≡ false → AllDigits 10 ds → (filter is_ascii_digit (front ++ ds) ≡ ds) × (has (front ++ ds) 45 ≡ minus) × (has (front ++ ds) 46 ≡ false)
fronted front ds minus void own point all =
    let d = digits_own ds all in (
      filter-append is_ascii_digit front ds ∙ ap (λ t. t ++ filter is_ascii_digit ds) void ∙ d.0,
      list_any-append (λ b. b == 45) front ds ∙ ap (λ t. has front 45 || t) d.1 ∙ or-false (has front 45) ∙ own,
      list_any-append (λ b. b == 46) front ds ∙ ap (λ t. t || has ds 46) point ∙ d.2,
    )

-- a dot and digits after these
dotted : (xs ds ys : List ℕ) (minus : Bool) → filter is_ascii_digit xs ≡ ds → has xs 45 ≡ minus → has xs 46 ≡ false → AllDigits 10 ys → (filter is_ascii_digit (xs ++ codes "." ++ ys) ≡ ds ++ ys) × (has (xs ++ codes "." ++ ys) 45 ≡ minus) × (has (xs ++ codes "." ++ ys) 46 ≡ true)
dotted xs ds ys minus kept' own point all =
    let y = digits_own ys all in
    let right : xs ++ codes "." ++ ys ≡ xs ++ (codes "." ++ ys) = append_assoc xs (codes ".") ys in (
      ap (filter is_ascii_digit) right ∙ filter-append is_ascii_digit xs (codes "." ++ ys) ∙ ap (λ t. t ++ filter is_ascii_digit ys) kept' ∙ ap (λ t. ds ++ t) y.0,
      ap (λ t. has t 45) right ∙ list_any-append (λ b. b == 45) xs (codes "." ++ ys) ∙ ap (λ t. has xs 45 || t) y.1 ∙ or-false (has xs 45) ∙ own,
      ap (λ t. has t 46) right ∙ list_any-append (λ b. b == 46) xs (codes "." ++ ys) ∙ ap (λ t. t || true) point,
    )

two_all : (u : ℕ) → AllDigits 10 (two_digits (u % 100))
two_all u =
    let tens = decimal_is_IsNumeral_wide (u % 100 / 10) (omega arith) in
    let ones = decimal_is_IsNumeral_wide (u % 100 % 10) (omega arith) in
    digits_join (decimal (u % 100 / 10)) (decimal (u % 100 % 10)) tens.0.1 ones.0.1

whole_back : (u : ℕ) (minus : Bool) (front : List ℕ) → u ≤ 2 ^ 100 → filter is_ascii_digit front ≡ [] → has front 45 ≡ minus → has front 46 ≡ false → Undone (Whole (signed minus u)) (front ++ decimal u)
whole_back u minus front small void own point =
    let number = decimal_is_IsNumeral_wide u (omega (arith, small)) in
    let d = fronted front (decimal u) minus void own point number.0.1 in
    gather (front ++ decimal u) (decimal u) false minus u (Whole (signed minus u)) d.0 d.1 d.2 number.0.1 number.0.0 number.1 small refl

hundredths_back : (u : ℕ) (minus : Bool) (front : List ℕ) → u ≤ 2 ^ 100 → filter is_ascii_digit front ≡ [] → has front 45 ≡ minus → has front 46 ≡ false → Undone (Hundredths (signed minus u)) (front ++ decimal (u / 100) ++ codes "." ++ two_digits (u % 100))
hundredths_back u minus front small void own point =
    let number = decimal_is_IsNumeral_wide (u / 100) (omega (arith, small)) in
    let before = fronted front (decimal (u / 100)) minus void own point number.0.1 in
    let d = dotted (front ++ decimal (u / 100)) (decimal (u / 100)) (two_digits (u % 100)) minus before.0 before.1 before.2 (two_all u) in
    let h = hundredth_digits u small in
    gather (front ++ decimal (u / 100) ++ codes "." ++ two_digits (u % 100)) (decimal (u / 100) ++ two_digits (u % 100)) true minus u (Hundredths (signed minus u)) d.0 d.1 d.2
    h.0 (longer (decimal (u / 100)) (two_digits (u % 100)) number.0.0) h.1 small refl

-- a plain text gives its value back
undone : (value : CellValue) → CanBeShown value → (value ≡ Empty) ⊎ Undone value (plain_text value)
undone Empty h = inl refl
undone (Whole (pos n)) h = inr (whole_back n false [] h refl refl refl)
undone (Whole (negsuc n)) h = inr (whole_back (suc n) true (45 ∷ []) h refl refl refl)
undone (Hundredths (pos n)) h = inr (hundredths_back n false [] h refl refl refl)
undone (Hundredths (negsuc n)) h = inr (hundredths_back (suc n) true (45 ∷ []) h refl refl refl)

no_text : (value : CellValue) (t : List ℕ) → Undone value t → length t ≡ 0 → ⊥
no_text value [] back none = omega (arith, back.some)
no_text value (x ∷ xs) back none = omega (arith, none)

read_so : {E : Type 0} (value : CellValue) (t ds : List ℕ) (r : Result ℕ E) → Undone value t → ds ≡ filter is_ascii_digit t → ParsesUnsigned 128 10 ds r → (r ≡ Ok (digits_value 10 ds)) × (digits_value 10 ds ≤ 2 ^ 100) × (numbered (has t 46) (signed (has t 45) (digits_value 10 ds)) ≡ value)
read_so value t ds r back are parses =
    let small : digits_value 10 ds ≤ 2 ^ 100 = rw are back.small in
    (parse_gives (numerals_by_value (AllDigits 10) tells_digits) 128 ds r parses (rw are back.all) (rw are back.some) (omega (arith, small)), small, rw are back.back)

-- only an empty cell has no text
pub empty_back : (value : CellValue) (t : List ℕ) → CanBeShown value → t ≡ plain_text value → length t ≡ 0 → Empty ≡ value
empty_back value t h own none = elim (undone value h) [
  | inl e ↦ sym e
  | inr back ↦ absurd (no_text value (plain_text value) back (ap length (sym own) ∙ none))
]

-- what a text of digits is read as, where it is the plain text of a value
pub reads : {E : Type 0} (value : CellValue) (t ds : List ℕ) (r : Result ℕ E) → CanBeShown value → t ≡ plain_text value → 0 < length t → ds ≡ filter is_ascii_digit t → ParsesUnsigned 128 10 ds r → (r ≡ Ok (digits_value 10 ds)) × (digits_value 10 ds ≤ 2 ^ 100) × (numbered (has t 46) (signed (has t 45) (digits_value 10 ds)) ≡ value)
reads value t ds r h own some are parses = elim (undone value h) [
  | inl e ↦ absurd (no_length t (own ∙ ap plain_text e) some)
  | inr back ↦ read_so value t ds r (rw own back) are parses
]

-- a text that is not empty
pub not_none : (b : Bool) (n : ℕ) → b ≡ (n == 0) → b ≡ false → 0 < n
not_none b n is own = grind (arith, common_steps)

pub is_none : (b : Bool) (n : ℕ) → b ≡ (n == 0) → b ≡ true → n ≡ 0
is_none b n is own = grind (arith, common_steps)

-- the value that is built of what was read
pub built : (value : CellValue) (t : List ℕ) (minus point dot : Bool) (n : ℤ) (size number : ℕ) → n ≡ signed minus size → minus ≡ has t 45 → point ≡ has t 46 → point ≡ dot → size ≡ number → numbered (has t 46) (signed (has t 45) number) ≡ value → numbered dot n ≡ value
built value t minus point dot n size number is sign here own same back =
    ap (λ d. numbered d n) (sym own ∙ here) ∙ ap (numbered (has t 46)) (is ∙ ap (λ m. signed m size) sign ∙ ap (signed (has t 45)) same) ∙ back

kept_join : (p : ℕ → Bool) (xs ys : List ℕ) → filter p xs ≡ xs → filter p ys ≡ ys → filter p (xs ++ ys) ≡ xs ++ ys
kept_join p xs ys x y = filter-append p xs ys ∙ ap (λ t. t ++ filter p ys) x ∙ ap (λ t. xs ++ t) y

none_join : (p : ℕ → Bool) (xs ys : List ℕ) → filter p xs ≡ [] → filter p ys ≡ [] → filter p (xs ++ ys) ≡ []
none_join p xs ys x y = filter-append p xs ys ∙ ap (λ t. t ++ filter p ys) x ∙ y

hundredths_bare : (front : List ℕ) (u : ℕ) → u ≤ 2 ^ 100 → bare front ≡ front → bare (front ++ decimal (u / 100) ++ codes "." ++ two_digits (u % 100)) ≡ front ++ decimal (u / 100) ++ codes "." ++ two_digits (u % 100)
hundredths_bare front u small own =
    let number = decimal_is_IsNumeral_wide (u / 100) (omega (arith, small)) in
    kept_join is_kept (front ++ decimal (u / 100) ++ codes ".") (two_digits (u % 100))
    (kept_join is_kept (front ++ decimal (u / 100)) (codes ".") (kept_join is_kept front (decimal (u / 100)) own (kept is_kept digit_kept (decimal (u / 100)) number.0.1)) refl)
    (kept is_kept digit_kept (two_digits (u % 100)) (two_all u))

hundredths_breaks : (front : List ℕ) (u : ℕ) → u ≤ 2 ^ 100 → breaks front ≡ [] → breaks (front ++ decimal (u / 100) ++ codes "." ++ two_digits (u % 100)) ≡ []
hundredths_breaks front u small own =
    let number = decimal_is_IsNumeral_wide (u / 100) (omega (arith, small)) in
    none_join is_break (front ++ decimal (u / 100) ++ codes ".") (two_digits (u % 100))
    (none_join is_break (front ++ decimal (u / 100)) (codes ".") (none_join is_break front (decimal (u / 100)) own (none is_break digit_no_break (decimal (u / 100)) number.0.1)) refl)
    (none is_break digit_no_break (two_digits (u % 100)) (two_all u))

-- a plain text has no comma and no space
pub plain_is_bare : (value : CellValue) → CanBeShown value → bare (plain_text value) ≡ plain_text value
plain_is_bare Empty h = refl
plain_is_bare (Whole (pos n)) h = kept is_kept digit_kept (decimal n) (decimal_is_IsNumeral_wide n (omega (arith, h))).0.1
plain_is_bare (Whole (negsuc n)) h = ap (λ t. 45 ∷ t) (kept is_kept digit_kept (decimal (suc n)) (decimal_is_IsNumeral_wide (suc n) (omega (arith, h))).0.1)
plain_is_bare (Hundredths (pos n)) h = hundredths_bare [] n h refl
plain_is_bare (Hundredths (negsuc n)) h = hundredths_bare (45 ∷ []) (suc n) h refl

-- and no tab and no end of a line
pub plain_has_no_break : (value : CellValue) → CanBeShown value → breaks (plain_text value) ≡ []
plain_has_no_break Empty h = refl
plain_has_no_break (Whole (pos n)) h = none is_break digit_no_break (decimal n) (decimal_is_IsNumeral_wide n (omega (arith, h))).0.1
plain_has_no_break (Whole (negsuc n)) h = none is_break digit_no_break (decimal (suc n)) (decimal_is_IsNumeral_wide (suc n) (omega (arith, h))).0.1
plain_has_no_break (Hundredths (pos n)) h = hundredths_breaks [] n h refl
plain_has_no_break (Hundredths (negsuc n)) h = hundredths_breaks (45 ∷ []) (suc n) h refl

-- a text that is shown as the plain text, apart from commas and spaces, shows the value
pub shows : (value : CellValue) (plain text : List ℕ) → CanBeShown value → plain ≡ plain_text value → bare text ≡ bare plain → breaks text ≡ breaks plain → Shows value text
shows value plain text h own same none' = (none' ∙ ap breaks own ∙ plain_has_no_break value h, same ∙ ap bare own ∙ plain_is_bare value h)

fits : (minus : Bool) (size : ℕ) → size ≤ 2 ^ 100 → FitsSigned w128 (signed minus size)
fits true zero small = omega arith
fits true (suc n) small = omega (arith, small)
fits false n small = omega (arith, small)

-- it fits in 128 bits
pub signed_fits : (minus : Bool) (size : ℕ) (n : ℤ) → size ≤ 2 ^ 100 → n ≡ signed minus size → FitsSigned w128 n
signed_fits minus size n small is = rw is (fits minus size small)
