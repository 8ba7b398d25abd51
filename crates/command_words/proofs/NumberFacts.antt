-- What the value of an option parses as.
use Rattle.std.proofs.Common.{◌≡◌, ◌∙◌, ◌==◌, ◌^◌, ℕ, false, List, Option, Some, None, Result, get_or, option_map, refl}
use Rattle.std.proofs.lemmas.Str.Parse.{parse_plain}
use Rattle.std.specs.Result.{result_ok}
use Rattle.std.specs.Str.Parse.{ParsesUnsigned}
use Rattle.olap_meaning.specs.Records.{digits_below}
use Rattle.olap_meaning.proofs.Numerals.{all_digits_model, spelled}

same_option : {X : Type 0} (o : Option X) → option_map (λ x. x) o ≡ o
same_option None = refl
same_option (Some x) = refl

-- a text that does not begin with a plus sign parses as what it spells
pub parsed : {E : Type 0} (r : Result ℕ E) (text : List ℕ) → (get_or text 0 0 == 43) ≡ false → ParsesUnsigned 64 10 text r → result_ok r ≡ digits_below (2 ^ 64) text
parsed r text first h =
    spelled r (2 ^ 64) (λ n. n) text (parse_plain all_digits_model 64 text r h (λ e. let both : (43 == 43) ≡ false = rw e at first in cc))
    ∙ same_option (digits_below (2 ^ 64) text)
