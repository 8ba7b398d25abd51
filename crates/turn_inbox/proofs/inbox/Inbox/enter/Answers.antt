use Rattle.std.proofs.Common.{sym, ap, ◌∙◌, subst, refl}
use Rattle.turn_inbox.proofs.Prefixes.{upto_same}
use Rattle.turn_inbox.proofs.Sure.{same_identity, sure_is}
use Rattle.turn_inbox.proofs.inbox.Inbox.enter.Goals as goal

pub returns-clause-same : goal.returns-clause-same
returns-clause-same g c =
    let s = c.seat.view_is in
    let e = c.enter-value.ensures.same in
    (e.1 ∙ ap (λ k. k.number) s, e.2 ∙ ap (λ k. k.looks) s, same_identity _ _ _ _ _ _ _ _ e.0 e.3 e.4 ∙ ap (λ k. k.inbox) s)

pub returns-clause-value : goal.returns-clause-value
returns-clause-value g c =
    let e = c.enter-value.ensures in
    (e.value.0, sym (sure_is _ c.seat.inside.place.based _ (sym e.same.3 ∙ e.value.1)) ∙ ap (λ k. k.inbox.basis) c.seat.view_is)

pub returns-clause-lawful : goal.returns-clause-lawful
returns-clause-lawful g c =
    let e = c.enter-value.ensures in
    let on = sym (sure_is _ c.seat.inside.place.based _ (sym e.same.3 ∙ e.value.1)) ∙ ap (λ k. k.inbox.basis) c.seat.view_is in
    subst (λ b. g.M.Chronicle.lawful b c.enter-value.result.1.place.me.0.seen) on e.lawful

pub returns-clause-seats : goal.returns-clause-seats
returns-clause-seats g c = upto_same _ _ _ _ _ (ap (λ k. k.inbox.seats) c.seat.view_is ∙ (ap (λ k. k.seats) c.requires ∙ ap (λ k. k.inbox.seats) (sym c.self.view_is) ∙ ap (λ k. k.seats) c.self.view_is)) refl c.enter-value.ensures.seats
