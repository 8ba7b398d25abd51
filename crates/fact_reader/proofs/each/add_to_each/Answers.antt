-- That `add_to_each` may call `readers_of` and `add_pieces_to_each`.
use Rattle.std.proofs.Common.{◌≡◌, ◌∙◌, List, All, map, ap, sym, subst}
use Rattle.std.specs.Prelude.{IsTrue}
use Rattle.std.proofs.lemmas.List.Elements.{All-map}
use Rattle.olap_meaning.specs.declared.cells.Header.{Header}
use Rattle.segment_body.specs.BodyOf.{BodyOf}
use Rattle.fact_reader.specs.BodyRows.{is_loadable}
use Rattle.fact_reader.proofs.BlockFacts.{readers_for}
use Rattle.fact_reader.proofs.each.add_to_each.Goals as goal

pub readers_of-requires-clause-loadable : goal.readers_of-requires-clause-loadable
readers_of-requires-clause-loadable g c =
    let headers : c.as_slice.result.now ≡ map (λ (body : BodyOf). body.header) c.args.bodies.now = c.as_slice.ensures.value ∙ c.in_ok-headers.ensures.headers in
    subst (λ (headers : List Header). All (λ (header : Header). IsTrue (is_loadable c.args.catalog.now header)) headers) (sym headers)
    (All-map (λ (header : Header). IsTrue (is_loadable c.args.catalog.now header)) (λ (body : BodyOf). body.header) c.args.bodies.now c.requires.loadable)

pub add_pieces_to_each-requires-clause-readers : goal.add_pieces_to_each-requires-clause-readers
add_pieces_to_each-requires-clause-readers g c =
    let headers : c.as_slice.result.now ≡ map (λ (body : BodyOf). body.header) c.args.bodies.now = c.as_slice.ensures.value ∙ c.in_ok-headers.ensures.headers in
    c.as_slice-2.ensures.value ∙ c.in_ok-readers.ensures ∙ ap (map (λ (header : Header). record { catalog = c.args.catalog.now; header = header })) headers ∙ readers_for c.args.catalog.now c.args.bodies.now
