use Rattle.std.proofs.Common.{ap, ◌∙◌}
use Rattle.turn_inbox.proofs.Sure.{same_identity, same_known}
use Rattle.turn_inbox.proofs.inbox.Inbox.note.Goals as goal

pub returns-clause-seat : goal.returns-clause-seat
returns-clause-seat g c =
    let e = c.note-place.ensures.same in
    same_known _ _ _ _ _ _ _ _ e.1 (ap (λ m. m.0.seen) e.2) (ap (λ m. m.0.looks) e.2) (same_identity _ _ _ _ _ _ _ _ e.0 (ap (λ m. m.0.basis) e.2) (ap (λ m. m.0.seats) e.2)) ∙ c.seat.view_is

pub returns-clause-note : goal.returns-clause-note
returns-clause-note g c =
    let s = c.seat.view_is in
    let e = c.note-place.ensures.note in
    (e.1 ∙ ap (λ k. k.seen) s, same_identity _ _ _ _ _ _ _ _ e.0 e.2 e.3 ∙ ap (λ k. k.inbox) s)
