-- That `fact_place` ensures what it says and may call `unwrap`.
use Rattle.std.proofs.Common.{◌≡◌, ◌∙◌, Some, slice_get, ap, sym, refl}
use Rattle.olap_meaning.specs.declared.cells.Header.{Header}
use Rattle.fact_reader.proofs.FactPlaces.{measure_same}
use Rattle.fact_reader.proofs.places.fact_place.Goals as goal

pub unwrap-requires : goal.unwrap-requires
unwrap-requires c =
    let at : c.from.result ≡ c.args.header.now.measure = c.from.ensures ∙ ap (λ (h : Header). h.measure) c.header.view_is in
    let known : slice_get c.args.catalog.now.cubes c.args.header.now.cube ≡ Some c.cube.result.now = ap (λ (h : Header). slice_get c.args.catalog.now.cubes h.cube) (sym c.header.view_is) ∙ c.cube.ensures in
    let is = rw (c.as_slice-measures.ensures, at) at c.index-measures-from.is in
    let place = measure_same c.args.catalog.now c.args.header.now c.cube.result.now c.index-measures-from.result c.requires known is in
    rw (c.place_among.ensures, c.as_str.ensures, c.as_slice-measures.ensures, place.1) refl

pub returns : goal.returns
returns c =
    let at : c.from.result ≡ c.args.header.now.measure = c.from.ensures ∙ ap (λ (h : Header). h.measure) c.header.view_is in
    let known : slice_get c.args.catalog.now.cubes c.args.header.now.cube ≡ Some c.cube.result.now = ap (λ (h : Header). slice_get c.args.catalog.now.cubes h.cube) (sym c.header.view_is) ∙ c.cube.ensures in
    let is = rw (c.as_slice-measures.ensures, at) at c.index-measures-from.is in
    let place = measure_same c.args.catalog.now c.args.header.now c.cube.result.now c.index-measures-from.result c.requires known is in
    let found : c.place_among.result ≡ Some place.0 = rw (c.place_among.ensures, c.as_str.ensures, c.as_slice-measures.ensures) place.1 in
    place.2 ∙ sym found ∙ c.unwrap.ensures
