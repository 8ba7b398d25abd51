-- That `guess` ensures what it says.
use Rattle.std.proofs.Common.{true, false, ◌≡◌, ◌∙◌, Some, sym, ap, length, arith, Ok}
use Rattle.olap_meaning.specs.declared.CellValue.TheVariants.{Whole, Hundredths}
use Rattle.std.specs.Str.Parse.{digits_value}
use Rattle.std.proofs.lemmas.Int.{to_z-of_z}
use Rattle.std.specs.Int.{w128}
use Rattle.shown_values.proofs.PlainFacts.{empty_back, reads, not_none, is_none, built, signed_fits}
use Rattle.shown_values.proofs.reading.guess.Goals as goal

pub returns-then-is_empty-clause-undoes : goal.returns-then-is_empty-clause-undoes
returns-then-is_empty-clause-undoes c value h own = ap (λ v. Some v) (empty_back value c.args.bare.now h own (is_none c.is_empty.result (length c.args.bare.now) c.is_empty.ensures c.if-is_empty.true))

pub returns-in_default-clause-undoes : goal.returns-in_default-clause-undoes
returns-in_default-clause-undoes c value h own =
    let some = not_none c.is_empty.result (length c.args.bare.now) c.is_empty.ensures c.if-is_empty.false in
    let back = reads value c.args.bare.now c.as_str.result.now c.parse.result h own some (c.as_str.ensures.value ∙ c.in_ok-digits.ensures) c.parse.ensures.value.0 in
    absurd (c.in_default.not-Ok (digits_value 10 c.as_str.result.now) back.0)

pub returns-then-size-gt-LIMIT-clause-undoes : goal.returns-then-size-gt-LIMIT-clause-undoes
returns-then-size-gt-LIMIT-clause-undoes c value h own =
    let some = not_none c.is_empty.result (length c.args.bare.now) c.is_empty.ensures c.if-is_empty.false in
    let back = reads value c.args.bare.now c.as_str.result.now c.parse.result h own some (c.as_str.ensures.value ∙ c.in_ok-digits.ensures) c.parse.ensures.value.0 in
    let same : Ok c.in-Ok.size ≡ Ok (digits_value 10 c.as_str.result.now) = sym c.in-Ok.is ∙ back.0 in
    let size : c.in-Ok.size ≡ digits_value 10 c.as_str.result.now = cc same in
    absurd (omega (arith, size, back.1, c.if-size-gt-LIMIT.true))

pub returns-then-has-clause-undoes : goal.returns-then-has-clause-undoes
returns-then-has-clause-undoes c value h own =
    let some = not_none c.is_empty.result (length c.args.bare.now) c.is_empty.ensures c.if-is_empty.false in
    let back = reads value c.args.bare.now c.as_str.result.now c.parse.result h own some (c.as_str.ensures.value ∙ c.in_ok-digits.ensures) c.parse.ensures.value.0 in
    let same : Ok c.in-Ok.size ≡ Ok (digits_value 10 c.as_str.result.now) = sym c.in-Ok.is ∙ back.0 in
    let size : c.in-Ok.size ≡ digits_value 10 c.as_str.result.now = cc same in
    let fits = to_z-of_z w128 c.signed-number.result (signed_fits c.has.result c.in-Ok.size c.signed-number.result (omega (arith, c.if-size-gt-LIMIT.false)) c.signed-number.ensures.value) in
    ap (λ n. Some (Hundredths n)) fits
    ∙ ap (λ v. Some v)
    (built value c.args.bare.now c.has.result c.has-2.result true c.signed-number.result c.in-Ok.size (digits_value 10 c.as_str.result.now) c.signed-number.ensures.value c.has.ensures c.has-2.ensures c.if-has.true size back.2)

pub returns-clause-undoes : goal.returns-clause-undoes
returns-clause-undoes c value h own =
    let some = not_none c.is_empty.result (length c.args.bare.now) c.is_empty.ensures c.if-is_empty.false in
    let back = reads value c.args.bare.now c.as_str.result.now c.parse.result h own some (c.as_str.ensures.value ∙ c.in_ok-digits.ensures) c.parse.ensures.value.0 in
    let same : Ok c.in-Ok.size ≡ Ok (digits_value 10 c.as_str.result.now) = sym c.in-Ok.is ∙ back.0 in
    let size : c.in-Ok.size ≡ digits_value 10 c.as_str.result.now = cc same in
    let fits = to_z-of_z w128 c.signed-number.result (signed_fits c.has.result c.in-Ok.size c.signed-number.result (omega (arith, c.if-size-gt-LIMIT.false)) c.signed-number.ensures.value) in
    ap (λ n. Some (Whole n)) fits
    ∙ ap (λ v. Some v)
    (built value c.args.bare.now c.has.result c.has-2.result false c.signed-number.result c.in-Ok.size (digits_value 10 c.as_str.result.now) c.signed-number.ensures.value c.has.ensures c.has-2.ensures c.if-has.false size back.2)
