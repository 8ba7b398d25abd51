-- Each field is text, so that the field at the place is.
use Rattle.std.specs.Str.{is_utf8}
use Rattle.olap_meaning.proofs.Lists.{passes_at}
use Rattle.csv_records.proofs.NumberFacts.{text_no}
use Rattle.csv_records.proofs.record.Record.text.Goals as goal

pub unreachable-requires : goal.unreachable-requires
unreachable-requires c =
    let not_text = text_no c.field.result.now c.in-Err.ensures.cases.0 in
    let text = passes_at is_utf8 c.args.self.now c.args.i c.field.result.now c.requires.utf8 c.field.ensures in
    cc
