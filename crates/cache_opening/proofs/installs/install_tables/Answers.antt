-- That `install_tables` ensures `ok`, `fault` and `at_most`, may call `install_table`, and keeps what holds at each turn.
use Rattle.std.proofs.Common.{◌≡◌, ◌≤◌, ◌+◌, ◌∙◌, ap, arith, length, refl, slice_get, subst, Err}
use Rattle.std.specs.Option.{IsSomeAnd}
use Rattle.std.proofs.lemmas.Result.{err_from_is_err_and}
use Rattle.cache_opening.specs.Asking.{Leads}
use Rattle.cache_opening.specs.Opening.{Base, checked_from, rows_checked, rows_for}
use Rattle.cache_opening.specs.Steps.{AreInstalled, FilesCame, ReadsFew, base_in, batches_in, files_for}
use Rattle.cache_opening.proofs.CameFacts.{rows_end, rows_turn}
use Rattle.cache_opening.proofs.CheckSteps.{all_checked, base_stays, check_fails, few_first, few_now, few_then, more_checked, none_checked, still_based}
use Rattle.cache_opening.proofs.installs.install_tables.Goals as goal

pub loop-table-init : goal.loop-table-init
loop-table-init g c = record {
  same = refl;
  setting = refl;
  are = none_checked (g.D.Depot.files c.args.depot.now) (g.D.Depot.answers c.args.depot.now) (base_in c.args.manager.now) c.args.manager.now.entries c.args.steps.now c.requires.first;
  short = few_first c.args.manager.now c.deref.result.now (c.deref.ensures ∙ c.catalog.ensures) c.requires.based c.requires.first c.is_whole.ensures.schema c.is_whole.ensures.cubes;
  at_least = omega arith;
  cost = refl;
}

pub install_table-requires-clause-based : goal.install_table-requires-clause-based
install_table-requires-clause-based g c =
    still_based (g.D.Depot.files c.args.depot.now) (g.D.Depot.answers c.args.depot.now) (g.D.Depot.answers c.loop-table.depot) (base_in c.args.manager.now) c.loop-table.table c.loop-table.manager.entries c.args.steps.now c.loop-table.steps c.loop-table.invariant.are
    c.loop-table.manager refl (ap (λ s. s.catalog) c.loop-table.invariant.setting) c.requires.based.count

pub returns-in_err-install_table-clause-fault : goal.returns-in_err-install_table-clause-fault
returns-in_err-install_table-clause-fault g c =
    let stays =
    base_stays (g.D.Depot.files c.args.depot.now) (g.D.Depot.answers c.args.depot.now) (g.D.Depot.answers c.loop-table.depot) (base_in c.args.manager.now) c.loop-table.table c.loop-table.manager.entries c.args.steps.now c.loop-table.steps c.loop-table.invariant.are
    c.loop-table.manager.setting.catalog (ap (λ s. s.catalog) c.loop-table.invariant.setting) in
    let P : Base → Type 0 = λ b. IsSomeAnd (slice_get b.catalog.schema.aggregates c.loop-table.table) (λ own. Leads (g.D.Depot.files c.args.depot.now) (g.D.Depot.answers c.loop-table.depot) (g.D.Depot.answers c.install_table.new.depot) (checked_from b c.loop-table.table own.file) (Err c.in_err-install_table.field-0.0)) in
    let p = err_from_is_err_and c.from_residual.result c.from_residual.ensures.1 in rw (p.1, p.2)
    (check_fails (g.D.Depot.files c.args.depot.now) (g.D.Depot.answers c.args.depot.now) (g.D.Depot.answers c.loop-table.depot) (g.D.Depot.answers c.install_table.new.depot) (base_in c.args.manager.now) c.loop-table.table c.loop-table.manager.entries c.args.steps.now c.loop-table.steps
    c.loop-table.invariant.are c.in_err-install_table.field-0.0 (subst P stays (rw c.loop-table.invariant.same at c.in_err-install_table.ensures.fault)))

pub returns-in_err-install_table-clause-at_most : goal.returns-in_err-install_table-clause-at_most
returns-in_err-install_table-clause-at_most g c =
    let stays =
    base_stays (g.D.Depot.files c.args.depot.now) (g.D.Depot.answers c.args.depot.now) (g.D.Depot.answers c.loop-table.depot) (base_in c.args.manager.now) c.loop-table.table c.loop-table.manager.entries c.args.steps.now c.loop-table.steps c.loop-table.invariant.are
    c.loop-table.manager.setting.catalog (ap (λ s. s.catalog) c.loop-table.invariant.setting) in
    let P : Base → Type 0 = λ b. IsSomeAnd (slice_get b.catalog.schema.aggregates c.loop-table.table) (λ own. ReadsFew (g.D.Depot.answers c.loop-table.depot) (g.D.Depot.answers c.install_table.new.depot) (rows_for b.catalog b.batches c.loop-table.table own) c.loop-table.steps c.install_table.new.steps) in
    few_then (g.D.Depot.files c.args.depot.now) (g.D.Depot.answers c.args.depot.now) (g.D.Depot.answers c.loop-table.depot) (g.D.Depot.answers c.install_table.new.depot) (base_in c.args.manager.now) c.loop-table.table c.loop-table.manager.entries c.args.steps.now c.loop-table.steps
    c.loop-table.invariant.are c.install_table.new.steps (subst P stays c.install_table.ensures.at_most)

pub loop-table-preserved : goal.loop-table-preserved
loop-table-preserved g c =
    let stays =
    base_stays (g.D.Depot.files c.args.depot.now) (g.D.Depot.answers c.args.depot.now) (g.D.Depot.answers c.loop-table.depot) (base_in c.args.manager.now) c.loop-table.table c.loop-table.manager.entries c.args.steps.now c.loop-table.steps c.loop-table.invariant.are
    c.loop-table.manager.setting.catalog (ap (λ s. s.catalog) c.loop-table.invariant.setting) in
    let P : Base → Type 0 = λ b. IsSomeAnd (slice_get b.catalog.schema.aggregates c.loop-table.table) (λ own. ReadsFew (g.D.Depot.answers c.loop-table.depot) (g.D.Depot.answers c.install_table.new.depot) (rows_for b.catalog b.batches c.loop-table.table own) c.loop-table.steps c.install_table.new.steps) in
    let Q : Base → Type 0 = λ b. IsSomeAnd (slice_get b.catalog.schema.aggregates c.loop-table.table) (λ own. AreInstalled (g.D.Depot.files c.args.depot.now) (g.D.Depot.answers c.loop-table.depot) (g.D.Depot.answers c.install_table.new.depot) (checked_from b c.loop-table.table own.file) c.loop-table.manager.entries c.install_table.new.manager.entries) in
    let S : Base → Type 0 = λ b. IsSomeAnd (slice_get b.catalog.schema.aggregates c.loop-table.table) (λ own. c.install_table.new.steps ≡ c.loop-table.steps + rows_for b.catalog b.batches c.loop-table.table own) in
    let R : Base → Type 0 = λ b. IsSomeAnd (slice_get b.catalog.schema.aggregates c.loop-table.table) (λ own. FilesCame (g.D.Depot.answers c.loop-table.depot) (g.D.Depot.answers c.install_table.new.depot) (files_for own)) in
    record {
      same = c.install_table.ensures.same_files ∙ c.loop-table.invariant.same;
      setting = c.install_table.ensures.setting ∙ c.loop-table.invariant.setting;
      are =
          more_checked (g.D.Depot.files c.args.depot.now) (g.D.Depot.answers c.args.depot.now) (g.D.Depot.answers c.loop-table.depot) (g.D.Depot.answers c.install_table.new.depot) (base_in c.args.manager.now) c.loop-table.table c.loop-table.manager.entries c.args.steps.now c.loop-table.steps
          c.loop-table.invariant.are c.install_table.new.manager.entries c.install_table.new.steps (subst Q stays (rw c.loop-table.invariant.same at c.in_ok-install_table.ensures.ok)) (subst R stays c.in_ok-install_table.ensures.came) (subst P stays c.install_table.ensures.at_most);
      short = let one = c.in_ok-install_table.ensures.one in omega (arith, one, c.loop-table.invariant.short);
      at_least = omega (arith, c.install_table.ensures.at_least, c.loop-table.invariant.at_least);
      cost =
          rows_turn c.args.manager.now.setting.catalog (batches_in c.args.manager.now.entries) c.loop-table.table (c.loop-table.table + 1) c.args.manager.now.setting.catalog.schema.aggregates c.loop-table.steps c.install_table.new.steps (c.args.steps.now + rows_checked c.args.manager.now.setting.catalog (batches_in c.args.manager.now.entries))
          (omega arith) c.loop-table.invariant.cost (subst S stays c.in_ok-install_table.ensures.cost);
    }

pub returns-clause-ok : goal.returns-clause-ok
returns-clause-ok g c =
    let same = ap (λ s. length s.aggregates) c.schema.ensures ∙ ap (λ k. length k.schema.aggregates) (c.deref-2.ensures ∙ c.catalog-2.ensures) in
    let end : length c.args.manager.now.setting.catalog.schema.aggregates ≤ c.loop-table.table = omega (arith, c.len-count.ensures, same, c.loop-table-test.false) in
    all_checked (g.D.Depot.files c.args.depot.now) (g.D.Depot.answers c.args.depot.now) (g.D.Depot.answers c.loop-table.depot) (base_in c.args.manager.now) c.loop-table.table c.loop-table.manager.entries c.args.steps.now c.loop-table.steps c.loop-table.invariant.are
    c.args.manager.now.entries c.requires.first end

pub returns-clause-cost : goal.returns-clause-cost
returns-clause-cost g c =
    let same = ap (λ s. length s.aggregates) c.schema.ensures ∙ ap (λ k. length k.schema.aggregates) (c.deref-2.ensures ∙ c.catalog-2.ensures) in
    let end : length c.args.manager.now.setting.catalog.schema.aggregates ≤ c.loop-table.table = omega (arith, c.len-count.ensures, same, c.loop-table-test.false) in
    rows_end c.args.manager.now.setting.catalog (batches_in c.args.manager.now.entries) c.loop-table.table c.args.manager.now.setting.catalog.schema.aggregates c.loop-table.steps (c.args.steps.now + rows_checked c.args.manager.now.setting.catalog (batches_in c.args.manager.now.entries)) end c.loop-table.invariant.cost

pub returns-clause-at_most : goal.returns-clause-at_most
returns-clause-at_most g c = few_now (g.D.Depot.files c.args.depot.now) (g.D.Depot.answers c.args.depot.now) (g.D.Depot.answers c.loop-table.depot) (base_in c.args.manager.now) c.loop-table.table c.loop-table.manager.entries c.args.steps.now c.loop-table.steps c.loop-table.invariant.are
