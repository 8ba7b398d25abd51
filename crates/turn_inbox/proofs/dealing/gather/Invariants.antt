use Rattle.std.proofs.Common.{◌≡◌, ◌⊎◌, [], ◌∷◌, false, vec_len, ℕ}
use Rattle.turn_inbox.specs.Entries.{Among, by}
use Rattle.turn_inbox.proofs.dealing.gather.Given as goal

-- each seat is still to come, or what it knew is known
abbrev pub invariant-loop-seat : goal.invariant-loop-seat
invariant-loop-seat g l = record {
  here : l.place.table_id ≡ l.fn.shared.table_id;
  view : (l.place.me.1 ≡ []) × (l.place.me.0.turn ≡ false);
  rest : (s : _) → Among s l.seats.items → Among s l.fn.seats.items;
  each : (s : _) → Among s l.fn.seats.items → Among s l.seats.items ⊎ (Among s.seen (l.place.me.0.seen ∷ l.place.me.0.told) × Among (s.number, by g.M.Chronicle.seat_of s.number s.seen) l.place.me.0.mine);
  newest : (s : _) × Among s l.fn.seats.items × (s.seen ≡ l.place.me.0.seen);
  some : (own : ℕ) × (es : _) × Among (own, es) l.place.me.0.mine;
}

abbrev pub decreases-loop-seat : goal.decreases-loop-seat
decreases-loop-seat g l = vec_len l.seats
