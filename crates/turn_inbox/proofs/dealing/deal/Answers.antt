use Rattle.std.proofs.Common.{rules, ◌≡◌, suc, ◌-◌, [], refl, sym, ap, ◌∙◌, subst, arith, map, length}
use Rattle.turn_inbox.specs.Entries.{Among}
use Rattle.turn_inbox.specs.Rule.{up_from}
use Rattle.turn_inbox.proofs.Sure.{identity_is}
use Rattle.turn_inbox.proofs.Moves.{deals_at}
use Rattle.turn_inbox.proofs.Rows.{each_push, each_none, numbered_push, numbered_none, distinct_from, next_mine, longer_mine}
use Rattle.turn_inbox.proofs.dealing.deal.Goals as goal

pub loop-number-init : goal.loop-number-init
loop-number-init g c =
    let few = c.requires.some in
    let none : length c.args.row.items ≡ 0 = search rules in
    let n : suc (c.args.seats - 1) ≡ c.args.seats = omega arith in record {
      low = omega arith;
      left = (c.args.seats - 1, omega arith, c.requires.mine ∙ ap (up_from g.M.Chronicle.seat_of c.args.place.me.0.seen 1) (sym n));
      here = c.requires.here.0;
      view = (c.requires.first.0, c.requires.first.1, c.requires.first.2, refl, refl, refl);
      room = (search rules, search rules);
      numbers = numbered_none _ _ _ none c.requires.room.0;
      each = λ b on. each_none _ _ none;
    }

pub split_seat-part-requires : goal.split_seat-part-requires
split_seat-part-requires g c =
    let i = c.loop-number.invariant in
    (search rules, search rules, deals_at _ _ _ _ _ _ _ _ _ _ _ i.left.2 (distinct_from _ _ _ _) i.view.1)

pub loop-number-preserved : goal.loop-number-preserved
loop-number-preserved g c =
    let i = c.loop-number.invariant in
    let s = c.split_seat-part.ensures in
    let p = c.push_reserved.ensures in
    let few = c.loop-number-test.true in
    let at = i.left.1 in
    let low = i.low in
    let room = i.room.0 in
    let n : i.left.0 ≡ suc (i.left.0 - 1) = omega arith in record {
      low = omega arith;
      left = (i.left.0 - 1, omega arith, ap (λ m. m.0.mine) s.2 ∙ longer_mine _ _ _ _ _ _ (next_mine _ _ _ _ _ i.left.2) n);
      here = s.0 ∙ i.here;
      view = (ap (λ m. m.1) s.2 ∙ i.view.0, ap (λ m. m.0.turn) s.2 ∙ i.view.1, ap (λ m. m.0.looks) s.2 ∙ i.view.2, ap (λ m. m.0.seen) s.2 ∙ i.view.3, ap (λ m. m.0.basis) s.2 ∙ i.view.4, ap (λ m. m.0.seats) s.2 ∙ i.view.5);
      room = (search rules, search rules);
      numbers = ap (map (λ t. t.number)) p.items ∙ numbered_push _ _ _ _ _ i.numbers (sym i.room.0 ∙ sym p.len) (sym p.len);
      each = λ b on. subst (λ items. (t : _) → Among t items → (t.inbox ≡ record { table = c.args.shared.now.table_id; basis = b; seats = c.args.place.me.0.seats }) × (t.seen ≡ c.args.place.me.0.seen) × (t.looks ≡ [])) (sym p.items) (each_push _ _ _ (i.each b on) (identity_is _ _ _ _ _ _ _ (s.3 ∙ i.here) (ap (λ m. m.0.basis) s.4 ∙ i.view.4 ∙ on) (ap (λ m. m.0.seats) s.4 ∙ i.view.5), ap (λ m. m.0.seen) s.4 ∙ i.view.3, ap (λ m. m.0.looks) s.4));
    }

pub returns-clause-numbers : goal.returns-clause-numbers
returns-clause-numbers g c =
    let i = c.loop-number.invariant in
    let done = c.loop-number-test.false in
    let at = i.left.1 in
    let room = i.room.0 in
    ap (map (λ t. t.number)) c.push_reserved-2.ensures.items ∙ numbered_push _ _ _ _ _ i.numbers refl (omega arith)

pub returns-clause-each : goal.returns-clause-each
returns-clause-each g c = λ b on.
    let i = c.loop-number.invariant in
    let p = c.push_reserved-2.ensures in
    subst (λ items. (t : _) → Among t items → (t.inbox ≡ record { table = c.args.shared.now.table_id; basis = b; seats = c.args.place.me.0.seats }) × (t.seen ≡ c.args.place.me.0.seen) × (t.looks ≡ [])) (sym p.items) (each_push _ _ _ (i.each b on) (identity_is _ _ _ _ _ _ _ i.here (i.view.4 ∙ on) i.view.5, i.view.3, i.view.2))
