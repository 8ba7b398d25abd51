-- That `first_repeat` ensures what it says, and what holds at each turn.
use Rattle.std.proofs.Common.{◌∙◌, sym}
use Rattle.cell_request.proofs.RootFacts.{passes, repeats}
use Rattle.cell_request.proofs.roots.first_repeat.Goals as goal

pub returns-then-is_among-clause-first : goal.returns-then-is_among-clause-first
returns-then-is_among-clause-first c = sym (c.loop-i.invariant ∙ repeats c.args.roots.now c.loop-i.i c.index-roots-i.result c.loop-i-test.true c.index-roots-i.is (sym c.if-is_among.ensures))

pub loop-i-preserved : goal.loop-i-preserved
loop-i-preserved c = c.loop-i.invariant ∙ passes c.args.roots.now c.loop-i.i c.index-roots-i.result c.loop-i-test.true c.index-roots-i.is (sym c.if-is_among.ensures)
