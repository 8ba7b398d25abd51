-- That `read_rows` reads the rows of lines.
use Rattle.std.proofs.Common.{get_or}
use Rattle.grid_reader.specs.Lines.{IsRowLine}
use Rattle.grid_reader.proofs.Lists.{bytes_of, past, at_start, turn, stops, ends, read_none}
use Rattle.grid_reader.proofs.rows.read_rows.Goals as goal

pub loop-line-init : goal.loop-line-init
loop-line-init c = rw c.new-rows.ensures (at_start (IsRowLine c.args.columns) (bytes_of c.args.lines.now))

pub returns-in-None : goal.returns-in-None
returns-in-None c =
    stops (IsRowLine c.args.columns) c.args.lines.now c.loop-line.line-index c.loop-line.rows c.loop-line.invariant c.loop-line-test.true (read_none (IsRowLine c.args.columns) (get_or c.args.lines.now c.loop-line.line-index past).now c.in_ok-read_row.field-0 c.in_ok-read_row.ensures c.in-None.is)

pub loop-line-preserved : goal.loop-line-preserved
loop-line-preserved c =
    rw c.in_ok-push-in-Some.ensures.ok (turn (IsRowLine c.args.columns) c.args.lines.now c.loop-line.line-index c.loop-line.rows c.in_ok-read_row.field-0 c.in-Some.row c.loop-line.invariant c.loop-line-test.true c.in_ok-read_row.ensures c.in-Some.is)

pub returns : goal.returns
returns c = ends (IsRowLine c.args.columns) c.args.lines.now c.loop-line.line-index c.loop-line.rows c.loop-line.invariant c.loop-line-test.false
