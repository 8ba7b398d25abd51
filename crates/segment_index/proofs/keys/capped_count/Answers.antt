-- A column more.
use Rattle.std.proofs.Common.{◌≡◌, ◌+◌, suc, arith}
use Rattle.std.proofs.Math.Seq.{drop-cons}
use Rattle.olap_meaning.specs.Rolled.{value_count}
use Rattle.segment_index.specs.declared.keys.TheConstants.{MOST_CELLS}
use Rattle.segment_index.proofs.KeyFacts.{count_next}
use Rattle.segment_index.proofs.keys.capped_count.Goals as goal

pub loop-own-preserved : goal.loop-own-preserved
loop-own-preserved c = record {
  decides =
      let here = drop-cons c.args.columns.now c.loop-own.own-index c.own-item.result c.loop-own-test.true in
      let before = rw (here, ← c.own-item.is) at c.loop-own.invariant.decides in
      let next : c.loop-own.own-index + 1 ≡ suc c.loop-own.own-index = omega arith in
      rw (next, c.capped-count.ensures)
      (count_next (value_count c.args.catalog.now) (MOST_CELLS + 1) c.loop-own.count c.own-item.result _ c.size_of.result c.allowed_count.result _ c.size_of.ensures c.allowed_count.ensures before);
  capped = omega arith;
}
