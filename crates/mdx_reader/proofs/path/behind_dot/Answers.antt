-- That `behind_dot` ensures what it says and may call `behind_white`.
use Rattle.std.proofs.Common.{arith}
use Rattle.mdx_reader.proofs.TextPlaces.{behind_byte}
use Rattle.mdx_reader.proofs.Whites.{no_dot, behind_dot}
use Rattle.mdx_reader.proofs.path.behind_dot.Goals as goal

pub returns-then-not-has : goal.returns-then-not-has
returns-then-not-has c = no_dot c.args.text.now c.args.from c.behind_white-dot.result c.behind_white-dot.ensures c.if-not-has.ensures

pub behind_white-requires : goal.behind_white-requires
behind_white-requires c = behind_byte c.args.text.now c.behind_white-dot.result 46 c.utf8.text (omega arith) c.if-not-has.ensures

pub returns : goal.returns
returns c = behind_dot c.args.text.now c.args.from c.behind_white-dot.result c.behind_white.result c.behind_white-dot.ensures c.if-not-has.ensures c.behind_white.ensures
