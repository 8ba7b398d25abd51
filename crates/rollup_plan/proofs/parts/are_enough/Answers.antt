use Rattle.std.proofs.Common.{◌≡◌, ◌-◌, arith, take, false}
use Rattle.std.specs.Prelude.{Contains}
use Rattle.std.proofs.lemmas.List.{length-map, take_all}
use Rattle.cache_flush.specs.Loads.{kept_of}
use Rattle.olap_meaning.specs.Rolled.{header_columns}
use Rattle.rollup_plan.specs.Picks.{is_whole, lent}
use Rattle.rollup_plan.proofs.CountFacts.{more_counted, too_few}
use Rattle.rollup_plan.proofs.ListFacts.{lent_at, lent_next}
use Rattle.rollup_plan.proofs.parts.are_enough.Goals as goal

pub held_by-held-requires : goal.held_by-held-requires
held_by-held-requires c = lent_at (λ one. Contains (header_columns one.body.header) c.args.split) c.args.kept.now c.loop-one.one-index c.one-item.result c.requires.having c.loop-one-test.true c.one-item.is

pub loop-one-preserved : goal.loop-one-preserved
loop-one-preserved c =
    let loads = lent c.args.kept.now in
    let less = c.if-left-held.false in
    let most = c.loop-one.invariant.most in
    let partial = lent_at (λ one. is_whole c.args.size c.args.cell.now c.args.split one ≡ false) c.args.kept.now c.loop-one.one-index c.one-item.result c.requires.partial c.loop-one-test.true c.one-item.is in
    rw (lent_next c.args.kept.now c.loop-one.one-index c.one-item.result c.loop-one-test.true c.one-item.is)
    (record {
      some = omega (arith, less);
      most = omega (arith, less, most);
      counted = more_counted c.args.cell.now c.args.split (take c.loop-one.one-index loads) (kept_of c.one-item.result.now) (c.args.size - c.loop-one.left) c.held_by-held.result (c.args.size - (c.loop-one.left - c.held_by-held.result))
          c.loop-one.invariant.counted (c.held_by-held.ensures c.args.size partial) (omega (arith, less, most));
    })

pub returns : goal.returns
returns c = λ none.
    let past = c.loop-one-test.false in
    let some = c.loop-one.invariant.some in
    let most = c.loop-one.invariant.most in
    let count = length-map c.args.kept.now (λ one. kept_of one.now) in
    let all = take_all c.loop-one.one-index (lent c.args.kept.now) (omega (arith, count, past)) in
    too_few c.args.cell.now c.args.split c.args.size (c.args.size - c.loop-one.left) (lent c.args.kept.now) (rw all at c.loop-one.invariant.counted) (omega (arith, some, most))
