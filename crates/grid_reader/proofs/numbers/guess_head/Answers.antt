-- That `guess_head` reads the numbers of a first line.
use Rattle.std.proofs.Common.{arith}
use Rattle.grid_reader.proofs.Heads.{head_parts, same_head, same_number}
use Rattle.grid_reader.proofs.numbers.guess_head.Goals as goal

pub returns-then-len-ne4 : goal.returns-then-len-ne4
returns-then-len-ne4 c head own =
    let h = head_parts c.in_ok-fields.fields.items c.args.line.now head c.in_ok-fields.ensures own in
    absurd (c.if-len-ne4.true (omega (arith, h.four, c.in_ok-fields.fields.ok.0, c.len.ensures)))

pub returns-in_default : goal.returns-in_default
returns-in_default c head own =
    let h = head_parts c.in_ok-fields.fields.items c.args.line.now head c.in_ok-fields.ensures own in
    absurd (c.in_default.not-Some head.position (c.guess_number.ensures head.position own.last (h.position c.index.result.now c.index.ensures)))

pub returns-in_default-guess_number : goal.returns-in_default-guess_number
returns-in_default-guess_number c head own =
    let h = head_parts c.in_ok-fields.fields.items c.args.line.now head c.in_ok-fields.ensures own in
    absurd (c.in_default-guess_number.not-Some head.columns (c.guess_number-2.ensures head.columns own.columns (h.columns c.index-2.result.now c.index-2.ensures)))

pub returns-in_default-guess_number-2 : goal.returns-in_default-guess_number-2
returns-in_default-guess_number-2 c head own =
    let h = head_parts c.in_ok-fields.fields.items c.args.line.now head c.in_ok-fields.ensures own in
    absurd (c.in_default-guess_number-2.not-Some head.rows (c.guess_number-3.ensures head.rows own.rows (h.rows c.index-3.result.now c.index-3.ensures)))

pub returns : goal.returns
returns c head own =
    let h = head_parts c.in_ok-fields.fields.items c.args.line.now head c.in_ok-fields.ensures own in
    same_head head c.in-Some.position c.in-Some-guess_number.columns c.in-Some-guess_number-2.rows
    (same_number c.guess_number.result c.in-Some.position head.position c.in-Some.is (c.guess_number.ensures head.position own.last (h.position c.index.result.now c.index.ensures)))
    (same_number c.guess_number-2.result c.in-Some-guess_number.columns head.columns c.in-Some-guess_number.is (c.guess_number-2.ensures head.columns own.columns (h.columns c.index-2.result.now c.index-2.ensures)))
    (same_number c.guess_number-3.result c.in-Some-guess_number-2.rows head.rows c.in-Some-guess_number-2.is (c.guess_number-3.ensures head.rows own.rows (h.rows c.index-3.result.now c.index-3.ensures)))
