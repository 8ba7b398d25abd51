-- That `read_behind` ensures `kept`, `taken` and `gave`.
use Rattle.std.proofs.Common.{ap, ◌∙◌, take, arith}
use Rattle.input_lines.proofs.Taking.{gave-written, slice_range-written, taken-written}
use Rattle.input_lines.proofs.reader.read_behind.Goals as goal

pub returns-clause-kept : goal.returns-clause-kept
returns-clause-kept g c =
    slice_range-written c.args.bytes.now.items c.read_to.new.bytes c.args.start c.args.end c.args.bytes.now.len (omega arith) (c.read_to.ensures.before ∙ ap (take c.args.end) c.deref_mut.ensures.value)

pub returns-clause-taken : goal.returns-clause-taken
returns-clause-taken g c =
    taken-written c.read_to.result _ _ c.args.bytes.now.items c.read_to.new.bytes c.args.end c.args.bytes.now.len (omega arith) c.read_to.ensures.taken

pub returns-clause-gave : goal.returns-clause-gave
returns-clause-gave g c =
    gave-written c.read_to.result _ _ c.args.bytes.now.items c.read_to.new.bytes c.args.end c.args.bytes.now.len (omega arith) c.read_to.ensures.gave
