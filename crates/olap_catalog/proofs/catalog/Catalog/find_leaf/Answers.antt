-- That `find_leaf` ensures `found` and `known`.
use Rattle.std.proofs.Common.{◌∙◌, ap, sym}
use Rattle.std.specs.Option.{option_copied}
use Rattle.olap_meaning.specs.Catalog.{find_leaf}
use Rattle.catalog_tables.specs.Tables.{find_key}
use Rattle.olap_catalog.proofs.ValueFacts.{records_here, records_none, leaf_known}
use Rattle.olap_catalog.proofs.catalog.Catalog.find_leaf.Goals as goal

pub returns-in-None-clause-found : goal.returns-in-None-clause-found
returns-in-None-clause-found c =
    ap (λ rs. find_key rs c.args.key.now) (sym (records_none c.self.inside.schema c.self.inside.tables c.self.inside.columns c.self.inside.hierarchies c.self.inside.cubes c.args.dimension (sym c.get.ensures ∙ ap option_copied c.in-None.is)))
    ∙ ap (λ k. find_leaf k c.args.dimension c.args.key.now) c.self.view_is

pub returns-in-Some-clause-found : goal.returns-in-Some-clause-found
returns-in-Some-clause-found c =
    c.find_key.ensures
    ∙ ap (λ rs. find_key rs c.args.key.now) (sym (records_here c.self.inside.schema c.self.inside.tables c.self.inside.columns c.self.inside.hierarchies c.self.inside.cubes c.args.dimension c.in-Some.table.now c.self.invariant.paired (sym c.get.ensures ∙ ap option_copied c.in-Some.is)))
    ∙ ap (λ k. find_leaf k c.args.dimension c.args.key.now) c.self.view_is

pub returns-in-Some-clause-known : goal.returns-in-Some-clause-known
returns-in-Some-clause-known c =
    leaf_known c.args.self.now c.args.dimension c.args.key.now c.find_key.result
    (c.find_key.ensures
    ∙ ap (λ rs. find_key rs c.args.key.now) (sym (records_here c.self.inside.schema c.self.inside.tables c.self.inside.columns c.self.inside.hierarchies c.self.inside.cubes c.args.dimension c.in-Some.table.now c.self.invariant.paired (sym c.get.ensures ∙ ap option_copied c.in-Some.is)))
    ∙ ap (λ k. find_leaf k c.args.dimension c.args.key.now) c.self.view_is)
