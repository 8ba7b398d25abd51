use Rattle.std.proofs.Common.{rules, ◌≡◌, ℕ, List, ◌≤◌, refl, sym, ap, ◌∙◌, subst, ⊎_elim, arith, length}
use mathlib.Core.List.{IsPrefix}
use Rattle.turn_inbox.specs.Entries.{Among, by}
use Rattle.turn_inbox.proofs.Prefixes.{prefix_self, upto_same}
use Rattle.turn_inbox.proofs.Rows.{some_among}
use Rattle.turn_inbox.proofs.inbox.Inbox.close.Goals as goal

pub gather-place-requires-clause-here : goal.gather-place-requires-clause-here
gather-place-requires-clause-here g c = λ s m. ap (λ k. k.table) (c.requires.here s m) ∙ ap (λ k. k.inbox.table) (sym c.self.view_is)

pub gather-place-requires-clause-some : goal.gather-place-requires-clause-some
gather-place-requires-clause-some g c =
    let few = subst (λ n. 1 ≤ n) (ap (λ k. k.seats) c.self.view_is) c.self.inside.core.few.0 in
    let some : 1 ≤ length c.args.seats.items = some_among _ _ (c.requires.all 1 (omega arith) few).1 in
    search rules

pub take_out-requires-clause-all : goal.take_out-requires-clause-all
take_out-requires-clause-all g c = λ k lo hi.
    let o = c.requires.all k lo (subst (λ n. k ≤ n) (ap (λ i. i.seats) c.self.view_is) hi) in
    let known = (c.gather-place.ensures.each o.0 o.1).1 in
    (by g.M.Chronicle.seat_of o.0.number o.0.seen, subst (λ n. Among {A = ℕ × List _} (n, by g.M.Chronicle.seat_of o.0.number o.0.seen) c.gather-place.result.me.0.mine) o.2 known)

pub returns-clause-seen : goal.returns-clause-seen
returns-clause-seen g c = λ s m.
    let whole = c.take_out.ensures.seen in
    ⊎_elim (λ (e : s.seen ≡ c.gather-place.result.me.0.seen). subst (λ xs. IsPrefix s.seen xs) (e ∙ sym whole) (prefix_self s.seen)) (c.take_out.ensures.told s.seen) (c.gather-place.ensures.each s m).0

pub returns-clause-whole : goal.returns-clause-whole
returns-clause-whole g c = let n = c.gather-place.ensures.newest in (n.0, n.1, n.2 ∙ sym c.take_out.ensures.seen)

pub returns-clause-lawful : goal.returns-clause-lawful
returns-clause-lawful g c = subst (λ b. g.M.Chronicle.lawful b (g.M.Chronicle.list c.take_out.result)) (ap (λ i. i.inbox.basis) c.self.view_is) c.take_out.ensures.lawful

pub returns-clause-seats : goal.returns-clause-seats
returns-clause-seats g c = upto_same _ _ _ _ _ (ap (λ i. i.seats) c.self.view_is) refl c.take_out.ensures.seats

pub returns-clause-mine : goal.returns-clause-mine
returns-clause-mine g c = λ s m. c.take_out.ensures.mine _ _ (c.gather-place.ensures.each s m).1

pub returns-clause-basis : goal.returns-clause-basis
returns-clause-basis g c = c.take_out.ensures.basis ∙ ap (λ i. i.inbox.basis) c.self.view_is
