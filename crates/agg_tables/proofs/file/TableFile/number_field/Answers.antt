-- That `number_field` ensures what it says and may call `text`.
use Rattle.std.proofs.Common.{◌∙◌, List, ℕ, Option, Some, ap, sym, option_map}
use Rattle.csv_records.proofs.PlaceFacts.{field_there, place_in_row}
use Rattle.olap_meaning.specs.Records.{field_in}
use Rattle.agg_tables.specs.declared.declared.FileColumn.{FileColumn}
use Rattle.agg_tables.proofs.ReadFacts.{number_placed}
use Rattle.agg_tables.proofs.file.TableFile.number_field.Goals as goal

pub text-requires-clause-within : goal.text-requires-clause-within
text-requires-clause-within c =
    let a = c.self.inside in
    let csv = rw (← c.self.view_is) at c.requires.csv in
    let within = rw (← c.self.view_is, ← c.self.invariant.columned) at c.requires.column in
    let there = number_placed a.header a.columns.items a.column_places.items c.args.j c.index.result.now c.self.invariant.numbers_placed within c.index.ensures in
    place_in_row a.header c.args.row.now there.0.name c.index.result.now csv there.2

pub returns : goal.returns
returns c =
    let a = c.self.inside in
    let within = rw (← c.self.view_is, ← c.self.invariant.columned) at c.requires.column in
    let there = number_placed a.header a.columns.items a.column_places.items c.args.j c.index.result.now c.self.invariant.numbers_placed within c.index.ensures in
    let field = field_there a.header c.args.row.now there.0.name c.text.result.now c.index.result.now there.2 c.text.ensures in
    rw (← c.self.view_is, ← c.self.invariant.columned)
    (sym (ap (λ (o : Option FileColumn). option_map (λ (column : FileColumn). field_in a.header column.name c.args.row.now) o) there.1 ∙ ap (λ (f : List ℕ). Some f) field))
