-- That `open_cubes` ensures `setting`, `ok`, `fault` and `same_files`, may call `open_cube`, and keeps what holds at
-- each turn.
use Rattle.std.proofs.Common.{◌≡◌, ◌<◌, ◌∙◌, ap, arith, length, refl}
use Rattle.std.proofs.lemmas.Result.{err_from_is_err_and}
use Rattle.cache_opening.proofs.BatchSteps.{all_appended, batch_fails, more_appended, next_cube, none_appended}
use Rattle.cache_opening.proofs.cubes.open_cubes.Goals as goal

pub loop-cube-init : goal.loop-cube-init
loop-cube-init g c = record {
  same = refl;
  setting = refl;
  are = none_appended (g.D.Depot.files c.args.depot.now) (g.D.Depot.answers c.args.depot.now) c.args.manager.now c.requires;
}

pub open_cube-requires : goal.open_cube-requires
open_cube-requires g c =
    let same = c.deref.ensures ∙ c.catalog.ensures in
    let below : c.loop-cube.cube < length c.args.manager.now.setting.catalog.cubes = omega (arith, c.loop-cube-test.true, c.cube_count-count.ensures.count, ap (λ k. length k.cubes) same) in
    record { next = next_cube (g.D.Depot.files c.args.depot.now) (g.D.Depot.answers c.args.depot.now) (g.D.Depot.answers c.loop-cube.depot) c.args.manager.now.setting c.loop-cube.manager c.loop-cube.cube c.loop-cube.invariant.setting c.requires.whole c.loop-cube.invariant.are c.requires.limit below }

pub returns-in_err-open_cube-clause-setting : goal.returns-in_err-open_cube-clause-setting
returns-in_err-open_cube-clause-setting g c = c.open_cube.ensures.setting ∙ c.loop-cube.invariant.setting

pub returns-in_err-open_cube-clause-fault : goal.returns-in_err-open_cube-clause-fault
returns-in_err-open_cube-clause-fault g c =
    let p = err_from_is_err_and c.from_residual.result c.from_residual.ensures.1 in rw (p.1, p.2)
    (batch_fails (g.D.Depot.files c.args.depot.now) (g.D.Depot.answers c.args.depot.now) (g.D.Depot.answers c.loop-cube.depot) (g.D.Depot.answers c.open_cube.new.depot) c.args.manager.now.setting.catalog c.loop-cube.cube c.loop-cube.manager.entries
    c.loop-cube.invariant.are c.in_err-open_cube.field-0.0 (rw (c.loop-cube.invariant.same, c.loop-cube.invariant.setting) at c.in_err-open_cube.ensures.fault))

pub returns-in_err-open_cube-clause-same_files : goal.returns-in_err-open_cube-clause-same_files
returns-in_err-open_cube-clause-same_files g c = c.open_cube.ensures.same_files ∙ c.loop-cube.invariant.same

pub loop-cube-preserved : goal.loop-cube-preserved
loop-cube-preserved g c = record {
  same = c.open_cube.ensures.same_files ∙ c.loop-cube.invariant.same;
  setting = c.open_cube.ensures.setting ∙ c.loop-cube.invariant.setting;
  are =
      more_appended (g.D.Depot.files c.args.depot.now) (g.D.Depot.answers c.args.depot.now) (g.D.Depot.answers c.loop-cube.depot) (g.D.Depot.answers c.open_cube.new.depot) c.args.manager.now.setting.catalog c.loop-cube.cube c.loop-cube.manager.entries
      c.loop-cube.invariant.are c.open_cube.new.manager.entries (rw (c.loop-cube.invariant.same, c.loop-cube.invariant.setting) at c.in_ok-open_cube.ensures.ok);
}

pub returns-clause-setting : goal.returns-clause-setting
returns-clause-setting g c = c.loop-cube.invariant.setting

pub returns-clause-ok : goal.returns-clause-ok
returns-clause-ok g c =
    let same = c.deref.ensures ∙ c.catalog.ensures in
    let all : c.loop-cube.cube ≡ length c.args.manager.now.setting.catalog.cubes = omega (arith, c.loop-cube-test.false, c.loop-cube.auto.cube-end, c.cube_count-count.ensures.count, ap (λ k. length k.cubes) same) in
    all_appended (g.D.Depot.files c.args.depot.now) (g.D.Depot.answers c.args.depot.now) (g.D.Depot.answers c.loop-cube.depot) c.args.manager.now.setting c.loop-cube.manager c.loop-cube.cube c.loop-cube.invariant.setting c.requires.whole c.loop-cube.invariant.are all

pub returns-clause-same_files : goal.returns-clause-same_files
returns-clause-same_files g c = c.loop-cube.invariant.same
