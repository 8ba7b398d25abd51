use Rattle.std.proofs.Common.{rules, refl, ◌∷◌, [], ap, sym, subst, ◌∙◌}
use Rattle.turn_inbox.specs.Entries.{by}
use Rattle.turn_inbox.proofs.Prefixes.{upto_same}
use Rattle.turn_inbox.proofs.Moves.{looks_at, lawful_on, has_own, own_again}
use Rattle.std.specs.Prelude.{is_some}
use Rattle.turn_inbox.proofs.inbox_table.InboxTable.front.Goals as goal

pub load-front-requires : goal.load-front-requires
load-front-requires g c = (search rules, search rules, looks_at _ _ _ _ _ _ _ _ _)

pub returns-clause-lawful : goal.returns-clause-lawful
returns-clause-lawful g c = λ b on.
    let h = c.load-front.ensures.2 in
    subst (g.M.Chronicle.lawful b) (sym (ap (λ m. m.0.seen) h.1)) (lawful_on _ _ _ _ _ _ h.3 (has_own _ _ _ c.args.seat.numbered.1) on)

pub invariant_of-result : goal.invariant_of-result
invariant_of-result g c =
    let n = c.args.seat.number in
    let h = c.load-front.ensures.2 in record {
      rests = (ap (λ m. m.1) h.1 ∙ c.args.seat.rests.0, ap (λ m. m.0.turn) h.1 ∙ c.args.seat.rests.1);
      numbered = (c.args.seat.numbered.0, ap (λ m. m.0.mine) h.1 ∙ own_again _ _ _ _ _ n h.3 c.args.seat.numbered.1 ∙ ap (λ xs. (n, by g.M.Chronicle.seat_of n xs) ∷ []) (sym (ap (λ m. m.0.seen) h.1)));
      based = ap is_some (ap (λ m. m.0.basis) h.1) ∙ c.args.seat.based;
    }

pub returns-clause-seats : goal.returns-clause-seats
returns-clause-seats g c =
    let h = c.load-front.ensures.2 in
    upto_same _ _ _ _ _ refl (sym (ap (λ m. m.0.seen) h.1)) (h.3.authors _ (has_own _ _ _ c.args.seat.numbered.1))
