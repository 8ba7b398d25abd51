-- That `has_fact_column` ensures what it says.
use Rattle.std.proofs.Common.{sym, ◌∙◌, bytes_eq}
use Rattle.olap_meaning.proofs.Lists.{any_map}
use Rattle.olap_plain.proofs.catalogs.has_fact_column.Goals as goal

pub returns : goal.returns
returns c = c.names_fact_column.ensures ∙ sym (any_map (bytes_eq c.args.column.now) (λ m. m.column) c.args.measures.now)
