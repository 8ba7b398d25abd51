-- That `reply_to_file` ensures what it says.
use Rattle.std.proofs.Common.{◌∙◌, sym}
use Rattle.csv_records.specs.Files.{file_records}
use Rattle.olap_server.proofs.ReplyFacts.{answer_of_parts, value_told, refusal_told}
use Rattle.olap_server.proofs.top_call.reply_to_file.Goals as goal

pub returns-in-Ok : goal.returns-in-Ok
returns-in-Ok g c =
    let parts = answer_of_parts c.args.command.now.query (file_records c.args.bytes.now) _ _ _ c.column.ensures c.aggregator.ensures c.pairs.ensures in
    value_told c.value_line.result c.made.result c.args.command.now.file _ c.in-Ok.value (sym parts ∙ c.in-Ok.ensures.value) c.value_line.ensures c.made.ensures

pub returns-in-Err : goal.returns-in-Err
returns-in-Err g c =
    let parts = answer_of_parts c.args.command.now.query (file_records c.args.bytes.now) _ _ _ c.column.ensures c.aggregator.ensures c.pairs.ensures in
    let said = rw c.file.ensures at c.reply_to_fault.ensures in
    refusal_told c.in-Err.fault c.reply_to_fault.result c.args.command.now.file _ _ parts c.in-Err.ensures.fault said
