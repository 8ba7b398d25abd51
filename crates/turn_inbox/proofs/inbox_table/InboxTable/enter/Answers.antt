use Rattle.std.proofs.Common.{◌≡◌, rules, sym, ap, ◌∙◌, subst, ◌∷◌, [], Some, None}
use Rattle.atomic_table.specs.Table.{rest}
use Rattle.turn_inbox.specs.Entries.{by}
use Rattle.turn_inbox.proofs.Prefixes.{upto_same}
use Rattle.turn_inbox.proofs.Moves.{enters_at, entered, lawful_on, has_own, own_again, same_slot}
use Rattle.std.specs.Prelude.{is_some}
use Rattle.turn_inbox.proofs.inbox_table.InboxTable.enter.Goals as goal

pub compare_exchange-found-requires : goal.compare_exchange-found-requires
compare_exchange-found-requires g c =
    let same = c.loop.invariant.1 in
    (search rules, search rules, enters_at _ _ _ _ _ _ _ _ _ _ (ap (λ m. m.0.turn) same ∙ c.args.seat.rests.1) (has_own _ _ _ (ap (λ m. m.0.mine) same ∙ (c.args.seat.numbered.1 ∙ ap (λ n. (n, by g.M.Chronicle.seat_of c.args.seat.number c.args.seat.place.me.0.seen) ∷ []) (sym c.from.ensures)))))

pub exchange-taken-requires : goal.exchange-taken-requires
exchange-taken-requires g c =
    let h = entered _ _ _ c.compare_exchange-found.ensures.2 c.if-found-eq0.true in
    let e = ap (λ m. m.1) h.1 in
    (search rules, (Some h.0, e ∙ ap (λ l. (0, Some h.0) ∷ l) (sym (ap rest e))))

pub returns-then-found-eq0-clause-lawful : goal.returns-then-found-eq0-clause-lawful
returns-then-found-eq0-clause-lawful g c =
    let same = c.loop.invariant.1 in
    let h = entered _ _ _ c.compare_exchange-found.ensures.2 c.if-found-eq0.true in
    let l = lawful_on _ _ _ _ _ _ h.3 (has_own _ _ _ (ap (λ m. m.0.mine) same ∙ c.args.seat.numbered.1)) h.2 in
    let x_is : h.0 ≡ c.in-Some-taken.value = same_slot _ _ _ _ _ _ (ap (λ m. m.1) h.1) c.exchange-taken.ensures.2 c.in-Some-taken.is in
    let seen_is = ap (λ m. m.0.seen) c.exchange-taken.ensures.3 ∙ ap (λ m. m.0.seen) h.1 in
    subst (λ xs. g.M.Chronicle.lawful (g.M.Chronicle.basis c.in-Some-taken.value) xs) (sym seen_is) (subst (λ x. g.M.Chronicle.lawful (g.M.Chronicle.basis x) (g.M.Chronicle.list h.0)) x_is l)

pub invariant_of-result : goal.invariant_of-result
invariant_of-result g c =
    let n = c.args.seat.number in
    let same = c.loop.invariant.1 in
    let h = entered _ _ _ c.compare_exchange-found.ensures.2 c.if-found-eq0.true in
    let e = c.exchange-taken.ensures.3 in
    let l = ap (λ m. m.1) h.1 in record {
      holds = (ap (λ m. m.1) e ∙ ap (λ l. (0, None) ∷ rest l) l ∙ ap (λ l. (0, None) ∷ l) (ap (λ m. m.1) same ∙ c.args.seat.rests.0), ap (λ m. m.0.turn) e ∙ ap (λ m. m.0.turn) h.1, ap (λ m. m.0.fresh) e ∙ ap (λ m. m.0.fresh) h.1);
      numbered = (
        c.args.seat.numbered.0,
        ap (λ m. m.0.mine) e ∙ ap (λ m. m.0.mine) h.1 ∙ own_again _ _ _ _ _ n h.3 (ap (λ m. m.0.mine) same ∙ c.args.seat.numbered.1) ∙ ap (λ xs. (n, by g.M.Chronicle.seat_of n xs) ∷ []) (sym (ap (λ m. m.0.seen) e ∙ ap (λ m. m.0.seen) h.1)),
      );
      based = ap is_some (ap (λ m. m.0.basis) e ∙ ap (λ m. m.0.basis) h.1 ∙ ap (λ m. m.0.basis) same) ∙ c.args.seat.based;
    }

pub returns-then-found-eq0-clause-seats : goal.returns-then-found-eq0-clause-seats
returns-then-found-eq0-clause-seats g c =
    let same = c.loop.invariant.1 in
    let h = entered _ _ _ c.compare_exchange-found.ensures.2 c.if-found-eq0.true in
    let own = has_own _ _ _ (ap (λ m. m.0.mine) same ∙ c.args.seat.numbered.1) in
    upto_same _ _ _ _ _ (ap (λ m. m.0.seats) same) (sym (ap (λ m. m.0.seen) c.exchange-taken.ensures.3 ∙ ap (λ m. m.0.seen) h.1)) (h.3.authors _ own)
