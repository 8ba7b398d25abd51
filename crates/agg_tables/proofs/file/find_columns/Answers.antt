-- That `find_columns` ensures `fault` and `sound`.
use Rattle.std.proofs.Common.{◌∙◌, sym}
use Rattle.std.proofs.lemmas.Result.{err_from_is_err_and}
use Rattle.agg_tables.proofs.PlaceFacts.{first_missing, header_told, last_missing, one_there, then_others}
use Rattle.agg_tables.proofs.file.find_columns.Goals as goal

pub returns-in_err-level_places-clause-fault : goal.returns-in_err-level_places-clause-fault
returns-in_err-level_places-clause-fault c =
    let p = err_from_is_err_and c.from_residual.result c.from_residual.ensures.1 in
    let told = header_told c.args.declared.now c.args.header.now (sym c.is_csv.ensures ∙ c.if-not-is_csv.false) in
    let fault = rw c.as_slice.ensures at c.in_err-level_places.ensures.fault in
    rw (p.1, p.2) (first_missing _ _ _ _ told fault)

pub returns-in_err-count_place-clause-fault : goal.returns-in_err-count_place-clause-fault
returns-in_err-count_place-clause-fault c =
    let p = err_from_is_err_and c.from_residual-in_err-count_place.result c.from_residual-in_err-count_place.ensures.1 in
    let told = header_told c.args.declared.now c.args.header.now (sym c.is_csv.ensures ∙ c.if-not-is_csv.false) in
    let there = rw c.as_slice.ensures at c.in_ok-level_places.ensures.all_there in
    let next = then_others _ _ _ told there in
    rw (p.1, p.2) (first_missing _ _ _ _ next c.in_err-count_place.ensures.fault)

pub returns-in_err-column_places-clause-fault : goal.returns-in_err-column_places-clause-fault
returns-in_err-column_places-clause-fault c =
    let p = err_from_is_err_and c.from_residual-in_err-column_places.result c.from_residual-in_err-column_places.ensures.1 in
    let told = header_told c.args.declared.now c.args.header.now (sym c.is_csv.ensures ∙ c.if-not-is_csv.false) in
    let there = rw c.as_slice.ensures at c.in_ok-level_places.ensures.all_there in
    let next = then_others _ _ _ told there in
    let last = then_others _ _ _ next (one_there c.args.declared.now.fact_count c.args.header.now c.in_ok-count_place.count_place c.in_ok-count_place.ensures.placed) in
    let fault = rw (c.as_slice-3.ensures.value, c.in_ok-columns.ensures, c.as_slice-2.ensures) at c.in_err-column_places.ensures.fault in
    rw (p.1, p.2) (last_missing _ _ _ last fault)

pub returns-clause-sound : goal.returns-clause-sound
returns-clause-sound c =
    let told = header_told c.args.declared.now c.args.header.now (sym c.is_csv.ensures ∙ c.if-not-is_csv.false) in
    let there = rw c.as_slice.ensures at c.in_ok-level_places.ensures.all_there in
    let next = then_others _ _ _ told there in
    let last = then_others _ _ _ next (one_there c.args.declared.now.fact_count c.args.header.now c.in_ok-count_place.count_place c.in_ok-count_place.ensures.placed) in
    let none = rw (c.as_slice-3.ensures.value, c.in_ok-columns.ensures, c.as_slice-2.ensures) at c.in_ok-column_places.ensures.all_there in
    rw none at last
