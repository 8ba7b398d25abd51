use Rattle.std.proofs.Common.{Some, sym, ap, ◌∙◌, refl}
use Rattle.turn_inbox.proofs.Prefixes.{upto_same}
use Rattle.turn_inbox.proofs.Sure.{is_sure, same_identity}
use Rattle.turn_inbox.proofs.inbox.Inbox.leave.Goals as goal

pub leave-place-requires-clause-basis : goal.leave-place-requires-clause-basis
leave-place-requires-clause-basis g c =
    let t = c.turn.view_is in
    is_sure _ c.turn.inside.place.based ∙ ap Some (ap (λ k. k.inbox.basis) t ∙ (sym c.requires.basis ∙ ap (λ k. g.M.Chronicle.basis k.value) (sym t)))

pub returns-clause-same : goal.returns-clause-same
returns-clause-same g c =
    let t = c.turn.view_is in
    let e = c.leave-place.ensures.same in
    (e.1 ∙ ap (λ k. k.number) t, e.2 ∙ ap (λ k. k.looks) t, same_identity _ _ _ _ _ _ _ _ e.0 e.3 e.4 ∙ ap (λ k. k.inbox) t)

pub returns-clause-seats : goal.returns-clause-seats
returns-clause-seats g c = upto_same _ _ _ _ _ (ap (λ k. k.inbox.seats) c.turn.view_is ∙ (ap (λ k. k.seats) c.requires.here ∙ ap (λ k. k.inbox.seats) (sym c.self.view_is) ∙ ap (λ k. k.seats) c.self.view_is)) refl c.leave-place.ensures.seats
