use Rattle.std.proofs.Common.{rules, ◌≡◌, ◌∙◌, sym, ap, subst, inl, inr, ⊎_elim, length, arith}
use Rattle.turn_inbox.specs.Entries.{Among}
use Rattle.turn_inbox.proofs.Rows.{each_none, each_push, none_among, parted, was_last, was_before}
use Rattle.turn_inbox.proofs.tests.mark_each.Goals as goal

pub loop-seat-init : goal.loop-seat-init
loop-seat-init g c =
    let none : length c.args.done.items ≡ 0 = search rules in
    let r = c.requires.room.0 in
    let few = c.requires.room.1 in record {
      rest = λ s a. a;
      here = each_none _ _ none;
      each = λ s a. inl a;
      room = omega arith;
    }

pub mark-requires : goal.mark-requires
mark-requires g c = c.requires.here _ (c.loop-seat.invariant.rest _ (was_last _ _ _ c.in-Some.ensures.items))

pub push_reserved-requires : goal.push_reserved-requires
push_reserved-requires g c =
    let n = c.in-Some.ensures.cases in
    let i = c.loop-seat.invariant.room in
    omega arith

pub loop-seat-preserved : goal.loop-seat-preserved
loop-seat-preserved g c =
    let i = c.loop-seat.invariant in
    let is = c.in-Some.ensures.items in
    let p = c.push_reserved.ensures in
    let m = c.mark.ensures.same in
    let n = c.in-Some.ensures.cases in
    let len = p.len in
    let capacity = p.capacity in
    let room = i.room in record {
      rest = λ s a. i.rest s (was_before _ _ _ is s a);
      here = subst (λ items. (s : _) → Among s items → s.inbox ≡ c.args.inbox.now.inbox) (sym p.items) (each_push _ _ _ i.here (m.1 ∙ c.requires.here _ (i.rest _ (was_last _ _ _ is))));
      each = λ s a. ⊎_elim
          (λ left. ⊎_elim
          (λ k. inl k)
          (λ (e : s ≡ c.in-Some.seat). inr (c.mark.result, was_last _ _ _ p.items, m.0 ∙ ap (λ k. k.number) (sym e)))
          (parted _ _ _ is s left))
          (λ d. inr (d.0, was_before _ _ _ p.items _ d.1, d.2))
          (i.each s a);
      room = omega arith;
    }

pub returns-clause-here : goal.returns-clause-here
returns-clause-here g c = c.loop-seat.invariant.here

pub returns-clause-each : goal.returns-clause-each
returns-clause-each g c = λ s a.
    let none : length c.loop-seat.seats.items ≡ 0 = search rules in
    ⊎_elim (λ k. absurd (none_among _ none s k)) (λ k. k) (c.loop-seat.invariant.each s a)
