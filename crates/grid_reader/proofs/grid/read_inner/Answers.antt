-- That `read_inner` reads the columns and rows of a grid.
use Rattle.std.proofs.Common.{◌≡◌, ◌+◌, length, take, drop, subst, arith, ◌∙◌, sym}
use Rattle.std.proofs.lemmas.List.{length-map}
use Rattle.grid_reader.specs.Lines.{AreColumnLines, AreRowLines}
use Rattle.grid_reader.specs.Reading.{ReadsAs}
use Rattle.grid_reader.proofs.Lists.{bytes_of, read_none}
use Rattle.grid_reader.proofs.GridFacts.{inner_refused, inner_read, front_bytes, back_bytes}
use Rattle.grid_reader.proofs.grid.read_inner.Goals.{then-lines-width-via-then-lines-width, then-lines-width-via-else-lines-width+then-lines-width-2}
use Rattle.grid_reader.proofs.grid.read_inner.Goals as goal

pub returns-then-lines-width : goal.returns-then-lines-width
returns-then-lines-width c =
    inner_refused c.args.head (bytes_of c.args.lines.now) (λ grid own.
    let size : length c.args.lines.now ≡ c.args.head.columns + c.args.head.rows = sym (length-map c.args.lines.now (λ t. t.now)) ∙ own.size in
    elim c.then-lines-width.branch [
      | then-lines-width-via-then-lines-width w ↦ omega (arith, size, w.if-lines-width.true)
      | then-lines-width-via-else-lines-width+then-lines-width-2 w ↦ w.if-lines-width-2.true (omega (arith, size))
    ])

pub returns-in_default : goal.returns-in_default
returns-in_default c =
    inner_refused c.args.head (bytes_of c.args.lines.now) (λ grid own.
    read_none AreColumnLines (take c.args.head.columns (bytes_of c.args.lines.now)) c.in_ok-columns.field-0 (subst (λ t. ReadsAs AreColumnLines t c.in_ok-columns.field-0) (front_bytes c.args.lines.now c.split_at.result.0.now c.args.head.columns c.split_at.ensures.front) c.in_ok-columns.ensures) c.in_default.is grid.columns own.titles)

pub returns-in_default-2 : goal.returns-in_default-2
returns-in_default-2 c =
    inner_refused c.args.head (bytes_of c.args.lines.now) (λ grid own.
    read_none (AreRowLines c.args.head.columns) (drop c.args.head.columns (bytes_of c.args.lines.now)) c.in_ok-rows.field-0 (subst (λ t. ReadsAs (AreRowLines c.args.head.columns) t c.in_ok-rows.field-0) (back_bytes c.args.lines.now c.split_at.result.1.now c.args.head.columns c.split_at.ensures.back) c.in_ok-rows.ensures) c.in_default-2.is grid.rows own.each)

pub returns : goal.returns
returns c =
    let size : length c.args.lines.now ≡ c.args.head.columns + c.args.head.rows = omega (arith, c.if-lines-width.false, c.if-lines-width-2.false) in
    inner_read c.args.head (bytes_of c.args.lines.now) c.in_ok-columns.field-0 c.in_ok-rows.field-0 c.in-Some.columns c.in-Some-2.rows (length-map c.args.lines.now (λ t. t.now) ∙ size)
    (subst (λ t. ReadsAs AreColumnLines t c.in_ok-columns.field-0) (front_bytes c.args.lines.now c.split_at.result.0.now c.args.head.columns c.split_at.ensures.front) c.in_ok-columns.ensures)
    (subst (λ t. ReadsAs (AreRowLines c.args.head.columns) t c.in_ok-rows.field-0) (back_bytes c.args.lines.now c.split_at.result.1.now c.args.head.columns c.split_at.ensures.back) c.in_ok-rows.ensures)
    c.in-Some.is c.in-Some-2.is
