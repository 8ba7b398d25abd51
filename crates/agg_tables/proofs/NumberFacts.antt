-- What parsing a text of at most 128 bits gives.
use Rattle.std.proofs.Common.{◌≡◌, ◌≢◌, ◌==◌, ◌+◌, ◌^◌, ℕ, ℤ, pos, neg_ℤ, false, List, [], ◌∷◌, Result, get_or, subst, arith, inl, inr}
use Rattle.std.proofs.lemmas.Bool.{cases_Bool, eqb-true}
use Rattle.std.proofs.lemmas.Str.Parse.{parse_signed_minus, parse_signed_plain}
use Rattle.std.specs.Int.{w128}
use Rattle.std.specs.Result.{result_ok}
use Rattle.std.specs.Str.Parse.{ParsesSigned}
use Rattle.olap_meaning.proofs.Numerals.{all_digits_model, same_told, spelled}
use Rattle.agg_tables.specs.Files.{wide_number}

-- a text that does not begin with a plus sign parses as its number
wide_parsed : {E : Type 0} (r : Result ℤ E) (field : List ℕ) → get_or field 0 0 ≢ 43 → ParsesSigned w128 10 field r → result_ok r ≡ wide_number field
wide_parsed r [] plus h = spelled r (2 ^ 127) pos [] (parse_signed_plain all_digits_model w128 [] r h plus (λ e. cc))
wide_parsed r (c ∷ cs) plus h = elim (cases_Bool (c == 45)) [
  | inl holds ↦
      let minus : c ≡ 45 = eqb-true c 45 holds in
      let told = parse_signed_minus all_digits_model w128 (c ∷ cs) r h minus in
      rw holds (spelled r (2 ^ 127 + 1) (λ n. neg_ℤ (pos n)) cs (same_told r _ _ _ (λ q. (q.0, q.1, (omega (arith, q.2)))) (λ q. (q.0, q.1, (omega (arith, q.2)))) told))
  | inr fails ↦ rw fails (spelled r (2 ^ 127) pos (c ∷ cs) (parse_signed_plain all_digits_model w128 (c ∷ cs) r h plus (λ e. let same : (45 == 45) ≡ false = rw e at fails in cc)))
]

-- the same of a text that stands for the field's bytes
pub wide_of_text : {E : Type 0} (r : Result ℤ E) (text field : List ℕ) → text ≡ field → (get_or field 0 0 == 43) ≡ false → ParsesSigned w128 10 text r → result_ok r ≡ wide_number field
wide_of_text r text field same first h =
    wide_parsed r field (λ e. let both : (43 == 43) ≡ false = rw e at first in cc) (subst (λ bytes. ParsesSigned w128 10 bytes r) same h)
