-- That `white_length` ensures `value` and `within`.
use Rattle.std.proofs.Common.{◌∙◌, sym, arith, not}
use Rattle.query_meaning.specs.Tokens.{is_white}
use Rattle.input_lines.proofs.Words.{found_place, no_place, position_within}
use Rattle.input_lines.proofs.argument.white_length.Goals as goal

pub returns-in-Some-clause-value : goal.returns-in-Some-clause-value
returns-in-Some-clause-value c = found_place _ c.args.text.now _ (sym c.in-Some.is ∙ c.place_behind_white.ensures)

pub returns-in-None-clause-value : goal.returns-in-None-clause-value
returns-in-None-clause-value c = no_place _ c.args.text.now (sym c.in-None.is ∙ c.place_behind_white.ensures)

pub returns-in-Some-clause-within : goal.returns-in-Some-clause-within
returns-in-Some-clause-within c =
    let at = found_place (λ b. not (is_white b)) c.args.text.now _ (sym c.in-Some.is ∙ c.place_behind_white.ensures) in
    let most = position_within (λ b. not (is_white b)) c.args.text.now in
    omega (arith, at, most)
