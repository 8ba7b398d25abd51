use Rattle.std.proofs.Common.{◌≡◌}
use Rattle.turn_inbox.proofs.tests.mark_many.Given as goal

abbrev pub invariant-loop-number : goal.invariant-loop-number
invariant-loop-number g l = (l.seat.number ≡ l.fn.seat.number) × (l.seat.inbox ≡ l.fn.seat.inbox)
