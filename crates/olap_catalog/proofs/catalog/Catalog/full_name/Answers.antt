-- That `full_name` ensures what it says.
use Rattle.std.proofs.Common.{◌≡◌, ◌∙◌, ◌<◌, ap, length, get_or}
use Rattle.olap_meaning.specs.declared.tables.Catalog.{Catalog}
use Rattle.olap_meaning.specs.declared.cells.LevelRef.TheVariants.{Whole}
use Rattle.olap_meaning.specs.Catalog.{root_name}
use Rattle.olap_catalog.proofs.RootFacts.{name_kept}
use Rattle.olap_catalog.proofs.catalog.Catalog.full_name.Goals as goal

pub returns : goal.returns
returns c =
    let within : c.args.h < length c.self.inside.hierarchies = rw (ap (λ (k : Catalog). k.hierarchies) c.self.view_is) c.requires in
    let name_at : c.index-as_slice-h.result ≡ get_or c.self.inside.full_names c.args.h c.index-as_slice-h.result =
    c.index-as_slice-h.is ∙ ap (λ xs. get_or xs c.h.inside.0 c.index-as_slice-h.result) c.as_slice.ensures ∙ ap (λ n. get_or c.self.inside.full_names n c.index-as_slice-h.result) c.h.view_is in
    c.as_str.ensures
    ∙ name_kept c.self.inside.schema c.self.inside.tables c.self.inside.columns c.self.inside.hierarchies c.self.inside.cubes c.self.inside.full_names c.args.h c.index-as_slice-h.result
    c.self.invariant.paired c.self.invariant.named within name_at
    ∙ ap (λ k. root_name k (Whole c.args.h)) c.self.view_is
