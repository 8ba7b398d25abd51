-- That `contains` ensures what it says.
use Rattle.std.proofs.Common.{◌∙◌, sym, string_bytes, bytes_eq}
use Rattle.catalog_tables.proofs.SeenFacts.{list_any-map}
use Rattle.catalog_tables.proofs.names.Names.contains.Goals as goal

pub returns : goal.returns
returns c = rw (← c.self.view_is) (c.contains.ensures ∙ sym (list_any-map string_bytes (bytes_eq c.args.name.now) c.self.inside.set.keys))
