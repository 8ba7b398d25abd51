use Rattle.std.proofs.Common.{◌≡◌, rules, sym, ap, ◌∙◌}
use Rattle.turn_inbox.proofs.Moves.{opens}
use Rattle.turn_inbox.proofs.Sure.{on_basis}
use Rattle.turn_inbox.proofs.inbox.Inbox.new.Goals as goal

pub vacant-requires : goal.vacant-requires
vacant-requires g c = opens _ _ _ _ _ _ _ _ (sym c.length-count.ensures.length) c.length-count.ensures.lawful c.requires.fresh c.requires.seats.0

pub returns-in-Ok-vacant-clause-each : goal.returns-in-Ok-vacant-clause-each
returns-in-Ok-vacant-clause-each g c = λ s a.
    let p = c.settle-place.ensures.place.1 in
    let d = c.deal-dealt.ensures.each _ (ap (λ m. m.0.basis) p) s a in
    let key : c.args.value ≡ c.in-Ok-vacant.table.shared.key.value = search rules in
    (on_basis _ _ _ _ _ _ d.0 (ap g.M.Chronicle.basis key) (ap (λ m. m.0.seats) p), d.1 ∙ ap (λ m. m.0.seen) p, d.2)
