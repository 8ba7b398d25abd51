-- That `joined` ensures `fault`, `ok` and `own`.
use Rattle.std.proofs.Common.{◌∙◌, [], true, false, ap, find, map, min, option_map, sum}
use Rattle.std.specs.Option.{option_map_or}
use Rattle.query_meaning.specs.Resolution.{most_told}
use Rattle.cell_request.specs.Parts.{is_other}
use Rattle.cell_request.proofs.BraceFacts.{braces_joined, braces_mixed, braces_own, first_closed, opens}
use Rattle.cell_request.proofs.braces.joined.Goals as goal

pub returns-in-Some-clause-fault : goal.returns-in-Some-clause-fault
returns-in-Some-clause-fault c =
    let led = c.leading-leading.ensures ∙ ap first_closed c.as_slice.ensures in
    let roots = c.in_ok-roots.ensures ∙ ap (λ o. option_map_or (λ item. item.part.roots) o []) led in
    braces_mixed c.args.catalog.now c.args.cube c.args.items c.in_ok-roots.roots c.in-Some.at roots
    (c.in-Some.ensures ∙ ap (λ r. option_map (λ item. item.at) (find (is_other r) c.as_slice-3.result.now)) c.as_slice-2.ensures ∙ ap (λ xs. option_map (λ item. item.at) (find (is_other c.in_ok-roots.roots) xs)) c.as_slice-3.ensures)

pub returns-clause-ok : goal.returns-clause-ok
returns-clause-ok c =
    let led = c.leading-leading.ensures ∙ ap first_closed c.as_slice.ensures in
    let roots = c.in_ok-roots.ensures ∙ ap (λ o. option_map_or (λ item. item.part.roots) o []) led in
    braces_joined c.args.catalog.now c.args.cube c.args.items c.in_ok-roots.roots c.is_none-is_open.result c.count_of-count.result c.into_vec.result roots
    (opens c.leading-leading.result c.is_none-is_open.result c.is_none-is_open.ensures ∙ ap (λ o. option_map_or (λ item. false) o true) led) (c.into_vec.ensures ∙ c.in_ok-plans.ensures)
    (c.in_default.ensures ∙ ap (λ r. option_map (λ item. item.at) (find (is_other r) c.as_slice-3.result.now)) c.as_slice-2.ensures ∙ ap (λ xs. option_map (λ item. item.at) (find (is_other c.in_ok-roots.roots) xs)) c.as_slice-3.ensures)

pub returns-clause-own : goal.returns-clause-own
returns-clause-own c =
    let led = c.leading-leading.ensures ∙ ap first_closed c.as_slice.ensures in
    let roots = c.in_ok-roots.ensures ∙ ap (λ o. option_map_or (λ item. item.part.roots) o []) led in
    braces_own c.args.catalog.now c.args.cube c.args.items c.in_ok-roots.roots c.is_none-is_open.result c.count_of-count.result c.into_vec.result c.requires roots (c.into_vec.ensures ∙ c.in_ok-plans.ensures)
    (c.count_of-count.ensures ∙ ap (λ xs. min (sum (map (λ item. item.part.count) xs)) most_told) c.as_slice-4.ensures)
