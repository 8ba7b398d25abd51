-- That `has_text_fields` ensures what it says and keeps what holds at each turn.
use Rattle.std.proofs.Common.{◌≡◌, ◌∙◌, true, false, sym}
use Rattle.std.specs.Str.{is_utf8}
use Rattle.csv_records.proofs.FieldFacts.{list_all_drop}
use Rattle.csv_records.proofs.record.Record.has_text_fields.Goals as goal

pub returns-then-not-is_text : goal.returns-then-not-is_text
returns-then-not-is_text c =
    let here = list_all_drop is_utf8 c.args.self.now c.loop-i.i c.field.result.now c.field.ensures in
    let told : is_utf8 c.field.result.now ≡ false = cc in
    sym (rw told at here) ∙ c.loop-i.invariant

pub loop-i-preserved : goal.loop-i-preserved
loop-i-preserved c =
    let here = list_all_drop is_utf8 c.args.self.now c.loop-i.i c.field.result.now c.field.ensures in
    let told : is_utf8 c.field.result.now ≡ true = cc in
    sym (rw told at here) ∙ c.loop-i.invariant
