use Rattle.std.proofs.Common.{◌≡◌, ◌≤◌, ◌+◌, ◌⊎◌, vec_len, vec_capacity}
use Rattle.turn_inbox.specs.Entries.{Among}
use Rattle.turn_inbox.proofs.tests.mark_each.Given as goal

-- each seat is still to come, or one with its number is done
abbrev pub invariant-loop-seat : goal.invariant-loop-seat
invariant-loop-seat g l = record {
  rest : (s : _) → Among s l.seats.items → Among s l.fn.seats.items;
  here : (s : _) → Among s l.done.items → s.inbox ≡ l.fn.inbox.inbox;
  each : (s : _) → Among s l.fn.seats.items → Among s l.seats.items ⊎ ((t : _) × Among t l.done.items × (t.number ≡ s.number));
  room : vec_len l.seats + vec_len l.done ≤ vec_capacity l.done;
}

abbrev pub decreases-loop-seat : goal.decreases-loop-seat
decreases-loop-seat g l = vec_len l.seats
