-- That `record_parts` may call `split_at` and keeps what holds at each turn.
use Rattle.std.proofs.Common.{refl}
use Rattle.csv_records.proofs.PartFacts.{part_cut, plain_drop, plain_each, end_within, one_more}
use Rattle.csv_records.proofs.parts.record_parts.Goals as goal

pub loop-end-init : goal.loop-end-init
loop-end-init c = record {
  plain = plain_each c.args.bytes.now (c.is_plain.ensures c.if-is_plain.true);
  whole = rw c.new-parts.ensures.items refl;
}

pub split_at-requires : goal.split_at-requires
split_at-requires c = end_within c.loop-end.rest.now c.in-Some.end c.in-Some.ensures.some c.in-Some.ensures.line

pub loop-end-preserved : goal.loop-end-preserved
loop-end-preserved c =
    let rest = c.loop-end.rest.now in
    let end = c.in-Some.end in
    record {
      plain = rw c.split_at.ensures.back (plain_drop end rest c.loop-end.invariant.plain);
      whole = rw c.in_ok-push.ensures.items (one_more c.loop-end.parts.items c.split_at.result.0 rest c.split_at.result.1.now _ c.loop-end.invariant.whole
          (rw (c.split_at.ensures.front, c.split_at.ensures.back) (part_cut rest end c.loop-end.invariant.plain c.in-Some.ensures.some c.in-Some.ensures.line)));
    }
