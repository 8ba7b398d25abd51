-- That `place_fields` ensures `fault` and keeps what holds at each turn.
use Rattle.std.proofs.Common.{◌∙◌, sym, append_assoc}
use Rattle.std.proofs.lemmas.Result.{err_from_is_err_and}
use Rattle.olap_meaning.specs.Records.{column_place}
use Rattle.dim_tables.proofs.PlaceFacts.{flat_missing, flat_placed, first_missing, none_missing}
use Rattle.dim_tables.proofs.bound.place_fields.Goals as goal

pub returns-in_err-place_levels-clause-fault : goal.returns-in_err-place_levels-clause-fault
returns-in_err-place_levels-clause-fault c =
    let p = err_from_is_err_and c.from_residual.result c.from_residual.ensures.1 in
    let h = c.hierarchy-item.result in
    let step = flat_missing c.args.header.now c.args.hierarchies.now c.loop-hierarchy.hierarchy-index h c.loop-hierarchy-test.true c.hierarchy-item.is in
    let told = rw c.as_slice.ensures at c.in_err-place_levels.ensures.fault in
    rw (p.1, p.2) (first_missing _ _ _ _ (sym c.loop-hierarchy.invariant.rest_missing ∙ step) told)

pub loop-hierarchy-preserved : goal.loop-hierarchy-preserved
loop-hierarchy-preserved c =
    let h = c.hierarchy-item.result in
    let missing = flat_missing c.args.header.now c.args.hierarchies.now c.loop-hierarchy.hierarchy-index h c.loop-hierarchy-test.true c.hierarchy-item.is in
    let none = rw c.as_slice.ensures at c.in_ok-place_levels.ensures.all_there in
    let placed = flat_placed (λ level. column_place level.column c.args.header.now) c.args.hierarchies.now c.loop-hierarchy.hierarchy-index h c.loop-hierarchy-test.true c.hierarchy-item.is in
    record {
      placed = rw (c.in_ok-place_levels.ensures.placed, c.as_slice.ensures, append_assoc, ← placed) c.loop-hierarchy.invariant.placed;
      rest_missing = sym (none_missing _ _ _ missing none) ∙ c.loop-hierarchy.invariant.rest_missing;
    }
