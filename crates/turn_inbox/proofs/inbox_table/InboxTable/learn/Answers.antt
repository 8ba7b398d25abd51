use Rattle.std.proofs.Common.{◌++◌, refl, ap, ◌∙◌, inl, inr}
use Rattle.std.specs.Prelude.{is_some}
use Rattle.std.proofs.lemmas.List.{append-nil}
use Rattle.turn_inbox.proofs.Moves.{lawful_on, has_own, own_again}
use Rattle.turn_inbox.proofs.inbox_table.InboxTable.learn.Goals as goal

pub absorb-place-requires-clause-some : goal.absorb-place-requires-clause-some
absorb-place-requires-clause-some g c = (c.args.seat.number, has_own _ _ _ c.args.seat.numbered.1)

pub returns-clause-lawful : goal.returns-clause-lawful
returns-clause-lawful g c = λ b on.
    let own = ap (λ l. c.args.seat.place.me.0.mine ++ l) c.args.note.numberless ∙ append-nil _ ∙ c.args.seat.numbered.1 in
    lawful_on _ _ _ _ _ _ c.absorb-place.ensures.grown (has_own _ _ _ own) on

pub invariant_of-result : goal.invariant_of-result
invariant_of-result g c =
    let a = c.absorb-place.ensures in
    let own = ap (λ l. c.args.seat.place.me.0.mine ++ l) c.args.note.numberless ∙ append-nil _ ∙ c.args.seat.numbered.1 in record {
      rests = (a.same.1, a.same.2);
      numbered = (c.args.seat.numbered.0, a.mine ∙ own_again _ _ _ _ _ c.args.seat.number a.grown own);
      based = ap is_some a.same.3 ∙ c.args.seat.based;
    }

pub returns-clause-seen : goal.returns-clause-seen
returns-clause-seen g c = let told = c.absorb-place.ensures.grown.told in (told _ (inl refl), told _ (inr (inl refl)))

pub returns-clause-seats : goal.returns-clause-seats
returns-clause-seats g c =
    let own = ap (λ l. c.args.seat.place.me.0.mine ++ l) c.args.note.numberless ∙ append-nil _ ∙ c.args.seat.numbered.1 in
    c.absorb-place.ensures.grown.authors _ (has_own _ _ _ own)
