-- That `is_head` tells whether a line is a first line with these numbers.
use Rattle.std.proofs.Common.{◌∙◌, arith}
use Rattle.grid_reader.proofs.Heads.{head_told}
use Rattle.grid_reader.proofs.numbers.is_head.Goals as goal

pub returns : goal.returns
returns c =
    head_told c.args.line.now c.as_bytes.result.now c.args.head c.eq.result (omega arith) (omega arith) (omega arith) (omega arith) (c.as_bytes.ensures.value ∙ c.as_str.ensures.value ∙ c.in_ok-again.ensures.ok) c.eq.ensures
