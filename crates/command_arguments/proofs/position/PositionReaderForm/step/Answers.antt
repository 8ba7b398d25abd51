-- That the reader's `step` ensures `kept`, and that its number fits.
use Rattle.std.proofs.Common.{◌≤◌, subst, arith}
use Rattle.command_arguments.specs.Position.{fits}
use Rattle.command_arguments.proofs.Numbers.{number_fits}
use Rattle.command_arguments.proofs.position.PositionReaderForm.step.Goals as goal

pub overflow_mul-result : goal.overflow_mul-result
overflow_mul-result c =
    let d = c.in-Digits in
    let k = subst fits d.is c.requires.stands in
    let f = number_fits d.number d.left 0 c.if-left-gt0.true k.0 k.1 (omega arith) in
    omega (arith, f.1)

pub overflow_add-result : goal.overflow_add-result
overflow_add-result c =
    let d = c.in-Digits in
    let k = subst fits d.is c.requires.stands in
    let s = c.in-Some-digit_of in
    let low : s.digit ≤ 9 = omega (arith, s.ensures.1, s.ensures.0.1) in
    let f = number_fits d.number d.left s.digit c.if-left-gt0.true k.0 k.1 low in
    omega (arith, f.1)

pub returns-in-Some-digit_of-clause-kept : goal.returns-in-Some-digit_of-clause-kept
returns-in-Some-digit_of-clause-kept c =
    let d = c.in-Digits in
    let k = subst fits d.is c.requires.stands in
    let s = c.in-Some-digit_of in
    let low : s.digit ≤ 9 = omega (arith, s.ensures.1, s.ensures.0.1) in
    let f = number_fits d.number d.left s.digit c.if-left-gt0.true k.0 k.1 low in
    (omega (arith, k.0), f.0)
