-- That `bind` ensures `fault` and `sound`.
use Rattle.std.proofs.Common.{◌∙◌, sym}
use Rattle.std.proofs.lemmas.Result.{err_from_is_err_and}
use Rattle.fact_rows.proofs.PlaceFacts.{first_missing, header_told, none_missing, other_missing}
use Rattle.fact_rows.proofs.bound.BoundCube.bind.Goals as goal

pub returns-in_err-keys-clause-fault : goal.returns-in_err-keys-clause-fault
returns-in_err-keys-clause-fault c =
    let p = err_from_is_err_and c.from_residual.result c.from_residual.ensures.1 in
    let told = header_told c.args.catalog.now c.args.cube c.args.header c.cube-parts.result.now (sym c.is_csv.ensures ∙ c.if-not-is_csv.false) c.cube-parts.ensures in
    let fault = rw c.uses_of.ensures at c.in_err-keys.ensures.fault in
    rw (p.1, p.2) (first_missing _ _ _ _ told fault)

pub returns-in_err-numbers-clause-fault : goal.returns-in_err-numbers-clause-fault
returns-in_err-numbers-clause-fault c =
    let p = err_from_is_err_and c.from_residual-in_err-numbers.result c.from_residual-in_err-numbers.ensures.1 in
    let told = header_told c.args.catalog.now c.args.cube c.args.header c.cube-parts.result.now (sym c.is_csv.ensures ∙ c.if-not-is_csv.false) c.cube-parts.ensures in
    let there = rw c.uses_of.ensures at c.in_ok-keys.ensures.all_there in
    let fault = rw c.as_slice-2.ensures at c.in_err-numbers.ensures.fault in
    rw (p.1, p.2) (other_missing _ _ _ _ told there fault)

pub returns-clause-sound : goal.returns-clause-sound
returns-clause-sound c =
    let told = header_told c.args.catalog.now c.args.cube c.args.header c.cube-parts.result.now (sym c.is_csv.ensures ∙ c.if-not-is_csv.false) c.cube-parts.ensures in
    let there = rw c.uses_of.ensures at c.in_ok-keys.ensures.all_there in
    let last = rw c.as_slice-2.ensures at c.in_ok-numbers.ensures.all_there in
    none_missing _ _ _ told there last
