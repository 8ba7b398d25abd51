use Rattle.std.proofs.Common.{◌≡◌, rules, refl, sym, ap, ◌∙◌, ◌∷◌, [], Some}
use Rattle.atomic_table.specs.Table.{rest}
use Rattle.turn_inbox.specs.Rule.{renewed, list_in}
use Rattle.turn_inbox.proofs.Moves.{publishes_as, leaves_as, by_turn, within_turn}
use Rattle.turn_inbox.proofs.inbox_table.InboxTable.leave.Goals as goal

pub store-requires : goal.store-requires
store-requires g c =
    let t = c.args.hold in
    let x = c.args.value in
    let r = c.requires in
    (search rules, search rules, publishes_as _ _ _ _ _ _ _ _ _ _ t.place.me.0 x (c.exchange-before.ensures.3 ∙ ap (λ l. (t.place.me.0, (0, Some x) ∷ rest l)) t.holds.0) t.holds.1 t.holds.2 (sym c.length-count.ensures.length) c.length-count.ensures.lawful r.basis (r.grown.0, sym r.grown.1) (by_turn _ _ _ _ _ _ _ t.numbered.1 r.grown.1 r.grown.2) (within_turn _ _ _ _ _ _ _ t.numbered.1 r.grown.1 r.grown.2))

pub store-requires-2 : goal.store-requires-2
store-requires-2 g c =
    let t = c.args.hold in
    let x = c.args.value in
    let me : c.exchange-before.new.seat.me ≡ (t.place.me.0, (0, Some x) ∷ []) = c.exchange-before.ensures.3 ∙ ap (λ l. (t.place.me.0, (0, Some x) ∷ rest l)) t.holds.0 in
    (search rules, search rules, leaves_as _ _ _ _ _ _ _ _ _ (renewed g.M.Chronicle.seat_of t.place.me.0 (g.M.Chronicle.list x)) x (c.store.ensures.2.0 ∙ ap (λ m. (renewed g.M.Chronicle.seat_of m.0 (list_in g.M.Chronicle.list m.1), m.1)) me) refl refl refl c.requires.basis)
