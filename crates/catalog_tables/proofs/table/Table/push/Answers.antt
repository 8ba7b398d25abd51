-- That `push` leaves a value that is whole.
use Rattle.std.proofs.Common.{◌<◌, ◌≡◌, ◌∙◌, ◌++◌, ◌∷◌, [], length, ap, false}
use Rattle.std.specs.List.{list_any}
use Rattle.olap_meaning.specs.declared.schema.TheConstants.{RECORD_LIMIT}
use Rattle.olap_meaning.specs.Records.{is_null}
use Rattle.catalog_tables.specs.Tables.{seen_with, has_key, TableOf}
use Rattle.catalog_tables.proofs.RecordFacts.{records_push}
use Rattle.catalog_tables.proofs.table.Table.push.Goals as goal

pub invariant_of-self-2 : goal.invariant_of-self-2
invariant_of-self-2 c =
    let items : c.push.new.self.items ≡ c.self.inside.fields.items ++ c.in_ok-copied.field-0 ∷ [] = (rw c.unwrap.ensures at c.push.ensures.items) ∙ ap (λ fs. fs ++ c.in_ok-copied.field-0 ∷ []) c.reserve.ensures.items in
    let levels : c.self.inside.levels ≡ c.args.self.now.levels = ap (λ (t : TableOf). t.levels) c.self.view_is in
    let records : c.self.inside.of.items ≡ c.args.self.now.records = ap (λ (t : TableOf). t.records) c.self.view_is in
    let new : has_key c.self.inside.of.items c.in_ok-from_str.field-0 ≡ false = rw (c.in_ok-from_str.ensures, records) c.requires.new in
    let whole : length c.in_ok-copied.field-0 ≡ c.self.inside.levels = rw (c.in_ok-copied.ensures, levels) c.requires.whole in
    let full : list_any is_null c.in_ok-copied.field-0 ≡ false = ap (list_any is_null) c.in_ok-copied.ensures ∙ c.requires.filled in
    let room : length c.self.inside.of.items < RECORD_LIMIT = rw records c.requires.room in
    let seen : c.add.new.self ≡ seen_with c.self.inside.keys c.in_ok-from_str.field-0 = c.in_ok-add.ensures.ok ∙ ap (seen_with c.self.inside.keys) c.into_string.ensures in
    rw (items, c.and-of.ensures)
    (records_push c.self.inside.levels c.self.inside.keys c.add.new.self c.self.inside.fields.items c.self.inside.of.items c.in_ok-from_str.field-0 c.in_ok-copied.field-0 c.self.invariant new whole full room seen)
