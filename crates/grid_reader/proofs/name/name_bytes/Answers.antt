-- That `name_bytes` ensures what it says.
use Rattle.std.proofs.Common.{arith}
use Rattle.grid_reader.proofs.NameSteps.{name_begins, name_goes_on, name_is_read}
use Rattle.grid_reader.proofs.name.name_bytes.Goals as goal

pub loop-byte-init : goal.loop-byte-init
loop-byte-init c = name_begins c.args.text.now c.new-name.result.items c.new-name.ensures.items

pub loop-byte-preserved : goal.loop-byte-preserved
loop-byte-preserved c = name_goes_on c.args.text.now c.loop-byte.name.items c.push.new.self.items c.loop-byte.rest.now c.in-Some.behind.now c.in-Some.byte c.loop-byte.invariant c.in-Some.ensures.byte c.in-Some.ensures.end c.in_ok-push.ensures.items

pub loop-byte-smaller : goal.loop-byte-smaller
loop-byte-smaller c = omega (arith, c.in-Some.ensures.shorter)

pub returns : goal.returns
returns c = name_is_read c.args.text.now c.loop-byte.name.items c.loop-byte.rest.now c.loop-byte.invariant c.in_default.ensures.byte
