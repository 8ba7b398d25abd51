-- That `find` ensures what it says and keeps what holds at each turn.
use Rattle.std.proofs.Common.{◌≡◌, ◌∙◌, true, false, sym, bytes_eq}
use Rattle.csv_records.proofs.FieldFacts.{position_from_drop}
use Rattle.csv_records.proofs.record.Record.find.Goals as goal

pub returns-then-eq : goal.returns-then-eq
returns-then-eq c =
    let here = position_from_drop (bytes_eq c.args.name.now) c.args.self.now c.loop-i.i c.field.result.now c.field.ensures in
    let told : bytes_eq c.args.name.now c.field.result.now ≡ true = cc in
    sym (rw told at here) ∙ c.loop-i.invariant

pub loop-i-preserved : goal.loop-i-preserved
loop-i-preserved c =
    let here = position_from_drop (bytes_eq c.args.name.now) c.args.self.now c.loop-i.i c.field.result.now c.field.ensures in
    let told : bytes_eq c.args.name.now c.field.result.now ≡ false = cc in
    sym (rw told at here) ∙ c.loop-i.invariant
