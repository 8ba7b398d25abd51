-- That `read_columns` reads the titles of lines of columns.
use Rattle.std.proofs.Common.{get_or}
use Rattle.grid_reader.specs.Lines.{IsColumnLine}
use Rattle.grid_reader.proofs.Lists.{bytes_of, past, at_start, turn, stops, ends, read_none}
use Rattle.grid_reader.proofs.columns.read_columns.Goals as goal

pub loop-line-init : goal.loop-line-init
loop-line-init c = rw c.new-titles.ensures (at_start IsColumnLine (bytes_of c.args.lines.now))

pub returns-in-None : goal.returns-in-None
returns-in-None c =
    stops IsColumnLine c.args.lines.now c.loop-line.line-index c.loop-line.titles c.loop-line.invariant c.loop-line-test.true (read_none IsColumnLine (get_or c.args.lines.now c.loop-line.line-index past).now c.in_ok-read_column.field-0 c.in_ok-read_column.ensures c.in-None.is)

pub loop-line-preserved : goal.loop-line-preserved
loop-line-preserved c =
    rw c.in_ok-push-in-Some.ensures.ok (turn IsColumnLine c.args.lines.now c.loop-line.line-index c.loop-line.titles c.in_ok-read_column.field-0 c.in-Some.title c.loop-line.invariant c.loop-line-test.true c.in_ok-read_column.ensures c.in-Some.is)

pub returns : goal.returns
returns c = ends IsColumnLine c.args.lines.now c.loop-line.line-index c.loop-line.titles c.loop-line.invariant c.loop-line-test.false
