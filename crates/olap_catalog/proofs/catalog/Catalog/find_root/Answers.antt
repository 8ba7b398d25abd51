-- That `find_root` ensures what it says and may call `root_at`.
use Rattle.std.proofs.Common.{◌≡◌, ◌∙◌, ◌<◌, ap, length, get_or, option_and_then, slice_get, ◌∷◌, map}
use Rattle.olap_meaning.specs.declared.tables.Catalog.{Catalog}
use Rattle.olap_meaning.specs.declared.cells.LevelRef.TheVariants.{Measures, Whole}
use Rattle.olap_meaning.specs.Catalog.{find_root, match_of}
use Rattle.olap_catalog.proofs.RootFacts.{root_found, root_count}
use Rattle.olap_catalog.proofs.catalog.Catalog.find_root.Goals as goal

pub root_at-requires : goal.root_at-requires
root_at-requires c =
    let within : c.args.cube < length c.self.inside.cubes = rw (ap (λ (k : Catalog). k.cubes) c.self.view_is) c.requires in
    let names_at : c.index-as_slice-cube.result ≡ get_or c.self.inside.root_names c.args.cube c.index-as_slice-cube.result =
    c.index-as_slice-cube.is ∙ ap (λ xs. get_or xs c.cube.inside.0 c.index-as_slice-cube.result) c.as_slice.ensures ∙ ap (λ n. get_or c.self.inside.root_names n c.index-as_slice-cube.result) c.cube.view_is in
    let hs_at : c.index-as_slice-cube-2.result ≡ get_or c.self.inside.roots c.args.cube c.index-as_slice-cube-2.result =
    c.index-as_slice-cube-2.is ∙ ap (λ xs. get_or xs c.cube.inside.0 c.index-as_slice-cube-2.result) c.as_slice-2.ensures ∙ ap (λ n. get_or c.self.inside.roots n c.index-as_slice-cube-2.result) c.cube.view_is in
    rw (c.as_slice-3.ensures, c.as_slice-4.ensures)
    (root_count c.self.inside.hierarchies c.self.inside.cubes c.self.inside.full_names c.self.inside.roots c.self.inside.root_names c.args.cube c.index-as_slice-cube-2.result c.index-as_slice-cube.result
    c.self.invariant.rooted c.self.invariant.roots_named within hs_at names_at)

pub returns : goal.returns
returns c =
    let within : c.args.cube < length c.self.inside.cubes = rw (ap (λ (k : Catalog). k.cubes) c.self.view_is) c.requires in
    let names_at : c.index-as_slice-cube.result ≡ get_or c.self.inside.root_names c.args.cube c.index-as_slice-cube.result =
    c.index-as_slice-cube.is ∙ ap (λ xs. get_or xs c.cube.inside.0 c.index-as_slice-cube.result) c.as_slice.ensures ∙ ap (λ n. get_or c.self.inside.root_names n c.index-as_slice-cube.result) c.cube.view_is in
    let hs_at : c.index-as_slice-cube-2.result ≡ get_or c.self.inside.roots c.args.cube c.index-as_slice-cube-2.result =
    c.index-as_slice-cube-2.is ∙ ap (λ xs. get_or xs c.cube.inside.0 c.index-as_slice-cube-2.result) c.as_slice-2.ensures ∙ ap (λ n. get_or c.self.inside.roots n c.index-as_slice-cube-2.result) c.cube.view_is in
    c.root_at.ensures
    ∙ ap (λ ns. option_and_then (slice_get (Measures ∷ map Whole c.as_slice-4.result.now)) (match_of c.args.name.now ns)) c.as_slice-3.ensures
    ∙ ap (λ hs. option_and_then (slice_get (Measures ∷ map Whole hs)) (match_of c.args.name.now c.index-as_slice-cube.result)) c.as_slice-4.ensures
    ∙ root_found c.self.inside.schema c.self.inside.tables c.self.inside.columns c.self.inside.hierarchies c.self.inside.cubes c.self.inside.full_names c.self.inside.roots c.self.inside.root_names
    c.args.cube c.index-as_slice-cube-2.result c.index-as_slice-cube.result c.args.name.now c.self.invariant.paired c.self.invariant.named c.self.invariant.rooted c.self.invariant.roots_named within hs_at names_at
    ∙ ap (λ k. find_root k c.args.cube c.args.name.now) c.self.view_is
