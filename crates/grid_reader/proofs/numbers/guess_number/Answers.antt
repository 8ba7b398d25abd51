-- That `guess_number` reads the text of a number.
use Rattle.std.proofs.Common.{Bor, Result, Ok, Err, ◌≡◌, ◌∙◌, ◌<◌, ◌^◌, ℕ, List, Some, None, ap}
use Rattle.std.specs.Fmt.{decimal}
use Rattle.std.specs.Result.{MatchResult, result_ok}
use Rattle.std.specs.Str.{IsUtf8}
use Rattle.std.proofs.lemmas.Fmt.{parse-decimal, IsAscii-decimal}
use Rattle.std.proofs.lemmas.Str.{IsUtf8-from_ascii}
use Rattle.grid_reader.proofs.numbers.guess_number.Goals as goal

-- digits are a text
is_text : (field : List ℕ) (n : ℕ) → n < 2 ^ 64 → field ≡ decimal n → IsUtf8 field
is_text field n small own = rw own (IsUtf8-from_ascii (decimal n) (IsAscii-decimal n small))

-- so they are read as one
is_read : {E : Type 0} (field : List ℕ) (r : Result (Bor (List ℕ)) E) (P : E → Type 0) → IsUtf8 field → MatchResult r (λ s. (s.now ≡ field) × IsUtf8 field) (λ e. ¬ IsUtf8 field × P e) → None ≡ result_ok r → ⊥
is_read field (Ok s) P own told e = absurd cc
is_read field (Err x) P own told e = told.0 own

same_text : {E : Type 0} (field : List ℕ) (r : Result (Bor (List ℕ)) E) (P : E → Type 0) (text : Bor (List ℕ)) → MatchResult r (λ s. (s.now ≡ field) × IsUtf8 field) (λ e. ¬ IsUtf8 field × P e) → Some text ≡ result_ok r → text.now ≡ field
same_text field (Ok s) P text told e = let same : text ≡ s = cc in ap (λ t. t.now) same ∙ told.0
same_text field (Err x) P text told e = absurd cc

pub returns-in_err-text : goal.returns-in_err-text
returns-in_err-text c n small own =
    absurd (is_read c.args.field.now c.from_utf8.result _ (is_text c.args.field.now n small own) c.from_utf8.ensures.cases c.in_err-text.ensures.value)

pub returns : goal.returns
returns c n small own =
    let same = same_text c.args.field.now c.from_utf8.result _ c.in_ok-text.text c.from_utf8.ensures.cases c.in_ok-text.ensures.value in
    c.ok-2.ensures.value ∙ ap result_ok (parse-decimal 64 n c.in_ok-text.text.now c.parse.result small small (same ∙ own) c.parse.ensures.value.0)
