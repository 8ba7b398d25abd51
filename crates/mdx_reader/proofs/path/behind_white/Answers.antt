-- That `behind_white` keeps what holds at each turn.
use Rattle.mdx_reader.proofs.Whites.{white_more}
use Rattle.mdx_reader.proofs.path.behind_white.Goals as goal

pub loop-at-preserved : goal.loop-at-preserved
loop-at-preserved c = white_more c.args.text.now c.args.from c.loop-at.at c.utf8.text c.loop-at.invariant c.loop-at-test.ensures
