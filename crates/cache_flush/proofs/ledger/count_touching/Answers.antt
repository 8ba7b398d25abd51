-- A record more is counted where its region touches the header.
use Rattle.std.proofs.Common.{◌+◌, arith}
use Rattle.olap_meaning.specs.Covering.{region_touches}
use Rattle.cache_flush.proofs.Recording.{counted_next, counted_within}
use Rattle.cache_flush.proofs.ledger.count_touching.Goals as goal

pub overflow_add-count : goal.overflow_add-count
overflow_add-count c =
    let next = counted_next (λ region. region_touches region c.args.header.now) c.args.place c.args.records.now c.loop-record.record-index c.record-item.result c.loop-record-test.true c.record-item.is in
    let within = counted_within (λ region. region_touches region c.args.header.now) c.args.place c.args.records.now (c.loop-record.record-index + 1) in
    omega (arith, c.count_touching-count.ensures, next, within, c.requires, c.loop-record.invariant)

pub loop-record-preserved : goal.loop-record-preserved
loop-record-preserved c =
    let next = counted_next (λ region. region_touches region c.args.header.now) c.args.place c.args.records.now c.loop-record.record-index c.record-item.result c.loop-record-test.true c.record-item.is in
    omega (arith, c.count_touching-count.ensures, next, c.loop-record.invariant)
