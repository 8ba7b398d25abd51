-- That `read_lines` reads the grid of lines.
use Rattle.std.proofs.Common.{get_or, length, ◌-◌, ◌+◌, codes}
use Rattle.grid_reader.specs.Lines.{AreGridLines, IsInnerOf}
use Rattle.grid_reader.specs.Reading.{ReadsAs}
use Rattle.grid_reader.proofs.Lists.{bytes_of, past}
use Rattle.grid_reader.proofs.RowFacts.{other_text, this_text}
use Rattle.grid_reader.proofs.GridFacts.{inner_of, lines_refused, lines_read, ok_then, not_empty, is_empty}
use Rattle.grid_reader.proofs.grid.read_lines.Goals.{then-ne-via-then-ne, then-ne-via-else-ne+then-not-is_empty}
use Rattle.grid_reader.proofs.grid.read_lines.Goals as goal

pub returns-then-ne : goal.returns-then-ne
returns-then-ne c =
    lines_refused c.args.lines.now c.if-lines-lt3.false (λ grid own. elim c.then-ne.branch [
      | then-ne-via-then-ne w ↦ other_text (get_or c.args.lines.now (length c.args.lines.now - 2) past).now c.as_slice.result.now (codes ".") c.ne.result c.as_slice.ensures c.ne.ensures w.if-ne.true own.dot
      | then-ne-via-else-ne+then-not-is_empty w ↦ not_empty (get_or c.args.lines.now (length c.args.lines.now - 2 + 1) past).now w.is_empty.result w.is_empty.ensures w.if-not-is_empty.true own.last
    ])

pub returns : goal.returns
returns c =
    ok_then c.read_inner.result (ReadsAs (IsInnerOf c.in-Some.head) (bytes_of (inner_of c.args.lines.now))) (ReadsAs AreGridLines (bytes_of c.args.lines.now)) c.read_inner.ensures
    (λ r own. lines_read c.args.lines.now c.in_ok-head.field-0 c.in-Some.head r c.if-lines-lt3.false c.in_ok-head.ensures c.in-Some.is
    (this_text (get_or c.args.lines.now (length c.args.lines.now - 2) past).now c.as_slice.result.now (codes ".") c.ne.result c.as_slice.ensures c.ne.ensures c.if-ne.false)
    (is_empty (get_or c.args.lines.now (length c.args.lines.now - 2 + 1) past).now c.is_empty.result c.is_empty.ensures c.if-not-is_empty.false)
    own)
