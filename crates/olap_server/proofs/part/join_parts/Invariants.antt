-- What holds at each turn of `join_parts`.
use Rattle.std.proofs.Common.{◌≡◌, ◌+◌, ◌++◌, drop}
use Rattle.std.specs.List.{flat_map, sum_by}
use Rattle.olap_server.proofs.part.join_parts.Given as goal

abbrev pub invariant-loop-part : goal.invariant-loop-part
invariant-loop-part l = record {
  aggregated : l.whole.aggregator ≡ l.initial.whole.aggregator;
  valued : l.whole.values ++ flat_map (λ part. part.values) (drop l.part-index l.more) ≡ l.initial.whole.values ++ flat_map (λ part. part.values) l.more;
  counted : l.whole.count + sum_by (λ part. part.count) (drop l.part-index l.more) ≡ l.initial.whole.count + sum_by (λ part. part.count) l.more;
}
