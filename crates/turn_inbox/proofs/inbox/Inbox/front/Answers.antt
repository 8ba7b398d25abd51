use Rattle.std.proofs.Common.{Some, ap, ◌∙◌, refl, sym}
use Rattle.turn_inbox.proofs.Prefixes.{upto_same}
use Rattle.turn_inbox.proofs.Sure.{is_sure, same_identity}
use Rattle.turn_inbox.proofs.inbox.Inbox.front.Goals as goal

pub returns-clause-same : goal.returns-clause-same
returns-clause-same g c =
    let s = c.seat.view_is in
    let e = c.front-place.ensures.same in
    (e.1 ∙ ap (λ k. k.number) s, same_identity _ _ _ _ _ _ _ _ e.0 e.2 e.3 ∙ ap (λ k. k.inbox) s)

pub returns-clause-lawful : goal.returns-clause-lawful
returns-clause-lawful g c = c.front-place.ensures.lawful _ (is_sure _ c.seat.inside.place.based ∙ ap Some (ap (λ k. k.inbox.basis) c.seat.view_is))

pub returns-clause-seats : goal.returns-clause-seats
returns-clause-seats g c = upto_same _ _ _ _ _ (ap (λ k. k.inbox.seats) c.seat.view_is ∙ (ap (λ k. k.seats) c.requires ∙ ap (λ k. k.inbox.seats) (sym c.self.view_is) ∙ ap (λ k. k.seats) c.self.view_is)) refl c.front-place.ensures.seats
