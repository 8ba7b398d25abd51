use Rattle.std.proofs.Common.{rules, ◌≡◌, ◌∷◌, ◌++◌, refl, sym, ap, ◌∙◌, subst, inl, inr, ⊎_elim, length}
use Rattle.turn_inbox.specs.Entries.{Among, by}
use Rattle.turn_inbox.specs.Rule.{longer}
use Rattle.turn_inbox.proofs.Prefixes.{longer_one}
use Rattle.turn_inbox.proofs.Moves.{merges_at}
use Rattle.turn_inbox.proofs.Rows.{among_left, among_right, told_still, parted, was_last, was_before, none_among, own_among}
use Rattle.turn_inbox.proofs.dealing.gather.Goals as goal

pub loop-seat-init : goal.loop-seat-init
loop-seat-init g c =
    let f = c.first.inside.place in
    let v = c.first.view_is in
    let is = c.in-Some.ensures.items in
    let own = own_among _ _ f.numbered.1 in record {
      here = ap (λ k. k.inbox.table) v ∙ c.requires.here c.in-Some.first (was_last _ _ _ is);
      view = (f.rests.0, f.rests.1);
      rest = was_before _ _ _ is;
      each = λ s a. ⊎_elim (λ h. inl h) (λ (e : s ≡ c.in-Some.first). inr (subst (λ t. Among t.seen (f.place.me.0.seen ∷ f.place.me.0.told) × Among (t.number, by g.M.Chronicle.seat_of t.number t.seen) f.place.me.0.mine) (v ∙ sym e) (inl refl, own))) (parted _ _ _ is s a);
      newest = (c.in-Some.first, was_last _ _ _ is, ap (λ k. k.seen) (sym v));
      some = (f.number, _, own);
    }

pub join_seat-requires : goal.join_seat-requires
join_seat-requires g c =
    let i = c.loop-seat.invariant in
    let s = c.seat.inside.place in
    (i.here, ap (λ k. k.inbox.table) c.seat.view_is ∙ c.requires.here c.in-Some-pop.seat (i.rest _ (was_last _ _ _ c.in-Some-pop.ensures.items)), s.rests.0, search rules, merges_at _ _ _ _ _ _ _ _ _ _ i.some.0 (i.some.1, i.some.2) i.view.1 s.rests.1)

pub loop-seat-preserved : goal.loop-seat-preserved
loop-seat-preserved g c =
    let i = c.loop-seat.invariant in
    let s = c.seat.inside.place in
    let v = c.seat.view_is in
    let is = c.in-Some-pop.ensures.items in
    let j = c.join_seat.ensures in
    let before = c.loop-seat.place.me.0 in
    let now = c.join_seat.new.seat.me.0 in
    let seen : now.seen ≡ longer before.seen s.place.me.0.seen = ap (λ m. m.0.seen) j.2 in
    let told : now.told ≡ before.seen ∷ s.place.me.0.seen ∷ before.told = ap (λ m. m.0.told) j.2 in
    let mine : now.mine ≡ before.mine ++ s.place.me.0.mine = ap (λ m. m.0.mine) j.2 in
    let own = own_among _ _ s.numbered.1 in record {
      here = j.0 ∙ i.here;
      view = (ap (λ m. m.1) j.2 ∙ i.view.0, ap (λ m. m.0.turn) j.2 ∙ i.view.1);
      rest = λ t m. i.rest t (was_before _ _ _ is t m);
      each = λ t m. ⊎_elim
          (λ left. ⊎_elim
          (λ k. inl k)
          (λ (e : t ≡ c.in-Some-pop.seat). inr (subst (λ u. Among u.seen (now.seen ∷ now.told) × Among (u.number, by g.M.Chronicle.seat_of u.number u.seen) now.mine) (v ∙ sym e) (inr (subst (Among _) (sym told) (inr (inl refl))), subst (Among _) (sym mine) (among_right _ _ _ own))))
          (parted _ _ _ is t left))
          (λ known. inr (told_still _ _ _ _ _ _ told known.0, subst (Among _) (sym mine) (among_left _ _ _ known.1)))
          (i.each t m);
      newest = ⊎_elim
          (λ (e : longer before.seen s.place.me.0.seen ≡ before.seen). (i.newest.0, i.newest.1, i.newest.2 ∙ sym (seen ∙ e)))
          (λ (e : longer before.seen s.place.me.0.seen ≡ s.place.me.0.seen). (c.in-Some-pop.seat, i.rest _ (was_last _ _ _ is), ap (λ k. k.seen) (sym v) ∙ sym (seen ∙ e)))
          (longer_one before.seen s.place.me.0.seen);
      some = (i.some.0, i.some.1, subst (Among _) (sym mine) (among_left _ _ _ i.some.2));
    }

pub returns-clause-each : goal.returns-clause-each
returns-clause-each g c = λ s m.
    let none : length c.loop-seat.seats.items ≡ 0 = search rules in
    ⊎_elim (λ k. absurd (none_among _ none s k)) (λ k. k) (c.loop-seat.invariant.each s m)
