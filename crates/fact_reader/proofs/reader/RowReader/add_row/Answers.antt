-- That `add_row` may call `add`.
use Rattle.olap_meaning.specs.Worth.{row_value}
use Rattle.fact_reader.specs.Reading.{row_at}
use Rattle.segment_body.proofs.ValueFacts.{are_allowed_of}
use Rattle.fact_reader.proofs.reader.RowReader.add_row.Goals as goal

pub add-requires-clause-allowed : goal.add-requires-clause-allowed
add-requires-clause-allowed c =
    let kept = rw c.if-kept.true at c.in_ok-kept.ensures in
    rw (c.requires.same, c.as_slice.ensures.value)
    (are_allowed_of (row_value c.args.self.now.catalog c.args.self.now.header.cube (row_at c.args.piece.now c.args.i)) c.args.self.now.header.columns c.values.new.values.items kept)
