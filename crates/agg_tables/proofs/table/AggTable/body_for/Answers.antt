-- That `body_for` ensures what it says.
use Rattle.std.proofs.Common.{◌∙◌, refl, sym}
use Rattle.std.specs.List.{list_any}
use Rattle.std.proofs.lemmas.Bool.{and_parts}
use Rattle.std.proofs.lemmas.List.Elements.{Contains-get_or}
use Rattle.std.proofs.lemmas.List.Quantifiers.{position-Some}
use Rattle.olap_meaning.proofs.Lists.{position_there}
use Rattle.agg_tables.specs.Costs.{serves}
use Rattle.agg_tables.proofs.TableFacts.{groups_shared}
use Rattle.agg_tables.proofs.table.AggTable.body_for.Goals as goal

pub unwrap-requires : goal.unwrap-requires
unwrap-requires c =
    let some = (and_parts c.args.self.now.measured (list_any (serves c.args.header.now) c.args.self.now.bodies) c.requires).1 in
    let at = position_there (serves c.args.header.now) c.args.self.now.bodies some in
    rw (c.place_serving.ensures, c.bodies-bodies.ensures.bodies, at.1) refl

pub returns-clause-serves : goal.returns-clause-serves
returns-clause-serves c =
    let found = position-Some (serves c.args.header.now) c.bodies-bodies.result.now c.unwrap.result c.index-bodies-unwrap.result (sym c.place_serving.ensures ∙ c.unwrap.ensures) in
    rw c.index-bodies-unwrap.is found.1

pub returns-clause-groups : goal.returns-clause-groups
returns-clause-groups c =
    let found = position-Some (serves c.args.header.now) c.bodies-bodies.result.now c.unwrap.result c.index-bodies-unwrap.result (sym c.place_serving.ensures ∙ c.unwrap.ensures) in
    let inside = Contains-get_or c.bodies-bodies.result.now c.unwrap.result c.index-bodies-unwrap.result found.0 in
    groups_shared c.args.self.now.bodies c.index-bodies-unwrap.result c.bodies-bodies.ensures.alike (rw (← c.bodies-bodies.ensures.bodies, c.index-bodies-unwrap.is) inside)
