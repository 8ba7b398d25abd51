-- That `find` ensures what it says.
use Rattle.std.proofs.Common.{◌∙◌, sym, string_bytes}
use Rattle.std.specs.Str.{bytes_eq}
use Rattle.catalog_tables.proofs.SeenFacts.{position-map}
use Rattle.catalog_tables.proofs.names.Names.find.Goals as goal

pub returns : goal.returns
returns c = rw (← c.self.view_is) (c.get_index_of.ensures.index ∙ sym (position-map string_bytes (bytes_eq c.args.name.now) c.self.inside.set.keys))
