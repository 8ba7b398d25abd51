-- That the value is the one at its place.
use Rattle.std.proofs.Common.{◌<◌, ◌%◌, arith}
use Rattle.std.proofs.lemmas.Nat.{mod_below}
use Rattle.segment_index.proofs.KeyFacts.{picked_below}
use Rattle.segment_index.proofs.keys.value_below.Goals as goal

pub returns : goal.returns
returns c =
    let some : 0 < c.args.size = omega arith in
    let below : c.args.number % c.args.size < c.args.size = mod_below c.args.number c.args.size some in
    picked_below c.args.size c.args.number _ some (omega (arith, below))
