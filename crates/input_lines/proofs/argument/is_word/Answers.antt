-- That `is_word` ensures what it says.
use Rattle.std.proofs.Common.{◌∙◌, sym, arith}
use Rattle.std.specs.Char.{to_ascii_uppercase}
use Rattle.input_lines.proofs.Words.{mapped_eq, mapped_ne}
use Rattle.input_lines.proofs.argument.is_word.Goals as goal

pub returns-then-to_ascii_uppercase-word : goal.returns-then-to_ascii_uppercase-word
returns-then-to_ascii_uppercase-word c = sym (mapped_ne to_ascii_uppercase c.args.text.now c.args.word.now c.loop-i.i (omega (arith, c.loop-i-test.true)) (λ same. c.if-to_ascii_uppercase-word.true (c.to_ascii_uppercase.ensures.value ∙ same)))

pub returns : goal.returns
returns c = sym (mapped_eq to_ascii_uppercase c.args.text.now c.args.word.now c.if-text-word.false (λ j l. c.loop-i.invariant j (omega (arith, l, c.loop-i-test.false))))
