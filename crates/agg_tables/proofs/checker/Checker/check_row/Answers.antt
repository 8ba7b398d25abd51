-- That `check_row` ensures `sound` and `err`.
use Rattle.std.proofs.Common.{◌∙◌, sym, inr}
use Rattle.fact_reader.specs.BodyRows.{values_in}
use Rattle.agg_tables.proofs.CheckFacts.{if_err, on_ok, row_on, row_twice, same_told, was_seen}
use Rattle.agg_tables.proofs.checker.Checker.check_row.Goals as goal

pub returns-then-is_some-clause-err : goal.returns-then-is_some-clause-err
returns-then-is_some-clause-err c =
    let a = c.self.inside in
    let v = c.args.self.now in
    let values = c.as_slice.ensures.value ∙ c.in_ok-read_values.ensures.values in
    let told = sym c.get.ensures.found ∙ sym c.is_some.ensures ∙ c.if-is_some.true in
    let twice = rw (was_seen, values) at told in
    let csv = sym c.is_csv.ensures ∙ c.if-not-is_csv.false in
    rw (← c.self.view_is) (inr (row_twice a.file.catalog a.file.declared a.file.header _ c.args.n (values_in c.args.seen.now) c.args.row.now csv c.in_ok-read_values.ensures.sound twice))

pub returns-clause-sound : goal.returns-clause-sound
returns-clause-sound c =
    let a = c.self.inside in
    let values = c.as_slice.ensures.value ∙ c.in_ok-read_values.ensures.values in
    let told = sym c.get.ensures.found ∙ sym c.is_some.ensures ∙ c.if-is_some.false in
    let once = rw (was_seen, values) at told in
    let csv = sym c.is_csv.ensures ∙ c.if-not-is_csv.false in
    let on = row_on a.file.catalog a.file.declared a.file.header _ c.args.n (values_in c.args.seen.now) c.args.row.now csv c.in_ok-read_values.ensures.sound once in
    let same = c.as_slice-2.ensures.value ∙ c.in_ok-read_values.ensures.values in
    let sound = rw (same, ← c.self.view_is) at c.check_group.ensures.sound in
    rw (← c.self.view_is) (on_ok c.check_group.result _ _ (λ none. on ∙ none) sound)

pub returns-clause-err : goal.returns-clause-err
returns-clause-err c =
    let a = c.self.inside in
    let values = c.as_slice.ensures.value ∙ c.in_ok-read_values.ensures.values in
    let told = sym c.get.ensures.found ∙ sym c.is_some.ensures ∙ c.if-is_some.false in
    let once = rw (was_seen, values) at told in
    let csv = sym c.is_csv.ensures ∙ c.if-not-is_csv.false in
    let on = row_on a.file.catalog a.file.declared a.file.header _ c.args.n (values_in c.args.seen.now) c.args.row.now csv c.in_ok-read_values.ensures.sound once in
    let same = c.as_slice-2.ensures.value ∙ c.in_ok-read_values.ensures.values in
    let err = rw (same, ← c.self.view_is) at c.check_group.ensures.err in
    rw (← c.self.view_is) (if_err c.check_group.result _ _ (λ e is. same_told _ _ e on is) err)
