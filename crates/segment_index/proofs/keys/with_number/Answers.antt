-- The sum wraps once more after the product has.
use Rattle.std.proofs.Common.{◌*◌, ◌^◌}
use native.Mathlib.Nat.{mod-add-mod}
use Rattle.segment_index.specs.declared.keys.TheConstants.{FACTOR}
use Rattle.segment_index.specs.Keys.{with_number}
use Rattle.segment_index.proofs.keys.with_number.Goals as goal

pub returns : goal.returns
unfolding with_number
returns c = mod-add-mod (c.args.key * FACTOR) (2 ^ 64) c.args.number
