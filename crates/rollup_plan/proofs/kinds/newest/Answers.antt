use Rattle.std.proofs.Common.{◌≤◌, ◌<◌, arith, take}
use Rattle.std.proofs.lemmas.List.{length-map, take_all}
use Rattle.std.proofs.lemmas.List.Elements.{All-push, All-weaker}
use Rattle.std.proofs.lemmas.Bool.Decides.{nat_tests}
use Rattle.cache_flush.specs.Loads.{KeptOf, kept_of}
use Rattle.rollup_plan.specs.Picks.{lent}
use Rattle.rollup_plan.proofs.ListFacts.{lent_member, lent_next}
use Rattle.rollup_plan.proofs.kinds.newest.Goals as goal
use Rattle.rollup_plan.proofs.kinds.newest.Goals.{then-lt, else-lt}

pub loop-one-preserved : goal.loop-one-preserved
loop-one-preserved c =
    let loads = lent c.args.kept.now in
    let next = lent_next c.args.kept.now c.loop-one.one-index c.one-item.result c.loop-one-test.true c.one-item.is in
    let one = kept_of c.one-item.result.now in
    let best = kept_of c.loop-one.best.now in
    elim c.if-lt.branch [
      | then-lt w ↦
          let below : best.version < one.version = grind (arith, nat_tests, c.lt.ensures, w.if-lt.true) in
          rw (w.best-is, next)
          (record {
            member = lent_member c.args.kept.now c.loop-one.one-index c.one-item.result c.loop-one-test.true c.one-item.is;
            newest = All-push (λ (x : KeptOf). x.version ≤ one.version) (take c.loop-one.one-index loads) one (All-weaker (λ (x : KeptOf). x.version ≤ best.version) (λ (x : KeptOf). x.version ≤ one.version) (λ x le. omega arith) (take c.loop-one.one-index loads) c.loop-one.invariant.newest) (omega arith);
          })
      | else-lt w ↦
          let below : one.version ≤ best.version = grind (arith, nat_tests, c.lt.ensures, w.if-lt.false) in
          rw (w.best-is, next)
          (record {
            member = c.loop-one.invariant.member;
            newest = All-push (λ (x : KeptOf). x.version ≤ best.version) (take c.loop-one.one-index loads) one c.loop-one.invariant.newest below;
          })
    ]

pub returns-clause-newest : goal.returns-clause-newest
returns-clause-newest c =
    let past = c.loop-one-test.false in
    let count = length-map c.args.kept.now (λ one. kept_of one.now) in
    rw (take_all c.loop-one.one-index (lent c.args.kept.now) (omega (arith, count))) at c.loop-one.invariant.newest
