use Rattle.std.proofs.Common.{◌≡◌, ◌≤◌, ℕ, suc, [], Some, false, map, vec_len, vec_capacity, ◌+◌}
use Rattle.turn_inbox.specs.Entries.{Among, count_from}
use Rattle.turn_inbox.specs.Rule.{up_from}
use Rattle.turn_inbox.proofs.dealing.deal.Given as goal

abbrev pub invariant-loop-number : goal.invariant-loop-number
invariant-loop-number g l = record {
  low : 1 ≤ l.number;
  left : (n : ℕ) × (l.number + n ≡ l.fn.seats) × (l.place.me.0.mine ≡ up_from g.M.Chronicle.seat_of l.fn.place.me.0.seen l.number (suc n));
  here : l.place.table_id ≡ l.fn.shared.table_id;
  view : (l.place.me.1 ≡ []) × (l.place.me.0.turn ≡ false) × (l.place.me.0.looks ≡ []) × (l.place.me.0.seen ≡ l.fn.place.me.0.seen) × (l.place.me.0.basis ≡ l.fn.place.me.0.basis) × (l.place.me.0.seats ≡ l.fn.place.me.0.seats);
  room : (vec_len l.row + 1 ≡ l.number) × (l.fn.seats ≤ vec_capacity l.row);
  numbers : map (λ s. s.number) l.row.items ≡ count_from 1 (vec_len l.row);
  each : (b : _) → l.fn.place.me.0.basis ≡ Some b → (s : _) → Among s l.row.items → (s.inbox ≡ record { table = l.fn.shared.table_id; basis = b; seats = l.fn.place.me.0.seats }) × (s.seen ≡ l.fn.place.me.0.seen) × (s.looks ≡ []);
}
