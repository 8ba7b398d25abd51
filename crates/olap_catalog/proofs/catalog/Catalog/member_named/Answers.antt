-- That `member_named` ensures `err` and `ok` and keeps what holds at each turn.
use Rattle.std.proofs.Common.{◌∙◌, ap, sym, arith, Ok, [], true}
use Rattle.olap_meaning.specs.Catalog.{named}
use Rattle.olap_catalog.specs.Members.{members_below}
use Rattle.olap_catalog.proofs.WalkFacts.{any_first as own, no_default, default_alone, walked, walked_below, stopped_first, stopped_later, all_walked}
use Rattle.olap_catalog.proofs.catalog.Catalog.member_named.Goals as goal

pub returns-in-None-clause-err : goal.returns-in-None-clause-err
returns-in-None-clause-err c =
    no_default c.args.self.now c.args.cube c.args.h c.args.path.now c.index-path-0.result c.unknown.result c.default_below.result c.requires c.index-path-0.is c.default_below.ensures c.in-None.is c.unknown.ensures

pub returns-in-Ok-clause-ok : goal.returns-in-Ok-clause-ok
returns-in-Ok-clause-ok c =
    default_alone c.args.self.now c.args.cube c.args.h c.args.path.now _ c.default_below.result c.in-Some.first c.new-top.result c.in-Ok.values c.requires (own c.args.path.now c.requires).1 c.default_below.ensures c.in-Some.is c.if-path-eq1.true
    c.new-top.ensures c.in-Ok.ensures
    ∙ ap Ok (sym c.member_of.ensures)

pub loop-i-init : goal.loop-i-init
loop-i-init c cube first =
    walked c.args.self.now cube c.args.h (members_below c.args.self.now c.args.h true []) first c.args.path.now 1 c.index-path-1.result c.in-Ok-step.found (omega (arith, c.requires, c.if-path-eq1.false)) c.index-path-1.is
    (ap (λ top. named c.args.self.now cube (members_below c.args.self.now c.args.h true top) c.index-path-1.result) (sym c.new-top.ensures) ∙ c.in-Ok-step.ensures.ok cube)

pub returns-in-Err-step-clause-err : goal.returns-in-Err-step-clause-err
returns-in-Err-step-clause-err c =
    stopped_first c.args.self.now c.args.cube c.args.h c.args.path.now c.index-path-1.result c.in-Err-step.fault c.default_below.result c.in-Some.first c.new-top.result (omega (arith, c.requires, c.if-path-eq1.false)) c.index-path-1.is
    c.default_below.ensures c.in-Some.is c.new-top.ensures c.in-Err-step.ensures.err

pub returns-in-Err-step-2-clause-err : goal.returns-in-Err-step-2-clause-err
returns-in-Err-step-2-clause-err c =
    stopped_later c.args.self.now c.args.cube c.args.h c.args.path.now c.loop-i.i c.index-path-i.result c.loop-i.found c.in-Err-step-2.fault c.default_below.result c.in-Some.first c.loop-i-test.true c.index-path-i.is
    c.default_below.ensures c.in-Some.is c.loop-i.invariant c.in-Err-step-2.ensures.err

pub loop-i-preserved : goal.loop-i-preserved
loop-i-preserved c cube first =
    walked_below c.args.self.now cube c.args.h c.loop-i.found c.args.path.now c.loop-i.i c.index-path-i.result c.in-Ok-step-2.next c.loop-i-test.true c.index-path-i.is (c.in-Ok-step-2.ensures.ok cube)
    ∙ c.loop-i.invariant cube first

pub returns-clause-ok : goal.returns-clause-ok
returns-clause-ok c =
    all_walked c.args.self.now c.args.cube c.args.h c.args.path.now c.loop-i.i c.loop-i.found c.default_below.result c.in-Some.first c.requires c.loop-i-test.false c.default_below.ensures c.in-Some.is c.loop-i.invariant
    ∙ ap Ok (sym c.member_of-2.ensures)
