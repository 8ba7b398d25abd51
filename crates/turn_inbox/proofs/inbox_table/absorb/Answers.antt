use Rattle.std.proofs.Common.{rules, ◌∙◌}
use Rattle.turn_inbox.proofs.Moves.{merges_at, looks_at}
use Rattle.turn_inbox.proofs.inbox_table.absorb.Goals as goal

pub join_seat-requires : goal.join_seat-requires
join_seat-requires g c =
    let r = c.requires in
    (r.here.0, r.here.1, r.rest.2, search rules, merges_at _ _ _ _ _ _ _ _ _ _ r.some.0 r.some.1 r.rest.1 r.rest.3)

pub load-requires : goal.load-requires
load-requires g c = (c.join_seat.ensures.0 ∙ c.requires.here.0, search rules, looks_at _ _ _ _ _ _ _ _ _)
