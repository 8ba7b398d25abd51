-- That `begins_region` ensures what it says.
use Rattle.std.proofs.Common.{◌<◌, arith}
use Rattle.region_reader.proofs.Wants.{plain_begins, last_begins}
use Rattle.region_reader.proofs.words.begins_region.Goals as goal

pub returns-then-begins_either : goal.returns-then-begins_either
returns-then-begins_either c = plain_begins c.args.left c.args.front.now c.if-begins_either.ensures

pub returns : goal.returns
returns c =
    let n = c.if-left-eq0.false in
    let lt : 0 < c.args.left = omega arith in
    let b = c.if-begins_either.ensures in
    last_begins c.args.left c.args.front.now c.begins_either-2.result lt c.begins_either-2.ensures b.0 b.1 c.if-begins_keyword.ensures
