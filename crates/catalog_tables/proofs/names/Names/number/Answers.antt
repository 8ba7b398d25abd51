-- That `number` ensures `number` and `seen`.
use Rattle.std.proofs.Common.{◌∙◌, is_some, sym, ap, string_bytes, map}
use Rattle.std.specs.Str.{bytes_eq}
use Rattle.catalog_tables.proofs.SeenFacts.{position-map, list_any-map, seen-kept, seen-insert, number-added}
use Rattle.catalog_tables.proofs.names.Names.number.Goals as goal

pub returns-in-Some-clause-number : goal.returns-in-Some-clause-number
returns-in-Some-clause-number c =
    rw (← c.self.view_is) (position-map string_bytes (bytes_eq c.args.name.now) c.self.inside.set.keys ∙ sym c.get_index_of.ensures.index ∙ c.in-Some.is)

pub returns-in-Some-clause-seen : goal.returns-in-Some-clause-seen
returns-in-Some-clause-seen c =
    rw (← c.self.view_is) (seen-kept c.args.name.now (map string_bytes c.self.inside.set.keys)
    (list_any-map string_bytes (bytes_eq c.args.name.now) c.self.inside.set.keys ∙ sym c.get_index_of.ensures.found ∙ ap is_some c.in-Some.is))

pub returns-clause-seen : goal.returns-clause-seen
returns-clause-seen c =
    rw (← c.self.view_is, c.in_ok-i.ensures.keys, ← c.in_ok-key.ensures.ok) (seen-insert c.self.inside.set.keys c.in_ok-key.key)

pub returns-clause-number : goal.returns-clause-number
returns-clause-number c =
    rw (c.in_ok-i.ensures.keys, c.in_ok-i.ensures.index)
    (number-added c.self.inside.set.keys c.in_ok-key.key c.args.name.now c.in_ok-key.ensures.ok (sym c.get_index_of.ensures.found ∙ ap is_some c.in_default.is))
