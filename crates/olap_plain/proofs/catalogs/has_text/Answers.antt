-- That `has_text` ensures what it says.
use Rattle.std.proofs.Common.{sym, ◌∙◌, bytes_eq, slice_get}
use Rattle.olap_plain.proofs.Fields.{any-filter_map}
use Rattle.olap_plain.proofs.catalogs.has_text.Goals as goal

pub returns : goal.returns
returns c = c.some_field_is.ensures ∙ sym (any-filter_map (bytes_eq c.args.text.now) (λ r. slice_get r.fields c.args.field) c.args.records.now)
