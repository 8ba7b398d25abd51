use Rattle.std.proofs.Common.{List, ◌≡◌, ◌++◌, ◌∷◌, [], ap, ◌∙◌, subst}
use Rattle.std.specs.Prelude.{IfOk, MatchResult}
use mathlib.Core.List.{IsPrefix}
use Rattle.turn_inbox.specs.Entries.{by}
use Rattle.turn_inbox.proofs.Marks.{Ends, ends_with, goes_on, one_more, mark_of, seat_of}
use Rattle.turn_inbox.proofs.marking.add_mark.Goals as goal

pub returns-clause-seen : goal.returns-clause-seen
returns-clause-seen g c =
    let t = ap (λ l. l.marks.items) c.value.ensures.value ∙ c.enter-turn.ensures.value.0 in
    let mark = mark_of c.number.result c.args.number in
    goes_on c.add-added.result _ _ _ _ mark (subst (λ l. Ends c.add-added.result l c.add-added.new.self.marks.items mark) t c.add-added.ensures.marks) c.leave.ensures.seen c.enter-turn.ensures.seen

pub returns-clause-mine : goal.returns-clause-mine
returns-clause-mine g c =
    let t = ap (λ l. l.marks.items) c.value.ensures.value ∙ c.enter-turn.ensures.value.0 in
    let mark = mark_of c.number.result c.args.number in
    let k = c.args.seat.number in
    let own = c.number.ensures ∙ c.enter-turn.ensures.same.0 in
    subst (λ n. MatchResult c.add-added.result (λ _. by seat_of k c.leave.result.seen ≡ by seat_of k c.args.seat.seen ++ mark_of n c.args.number ∷ []) (λ _. by seat_of k c.leave.result.seen ≡ by seat_of k c.args.seat.seen)) own
    (one_more seat_of c.add-added.result k c.args.seat.seen _ _ _ mark (subst (λ l. Ends c.add-added.result l c.add-added.new.self.marks.items mark) t c.add-added.ensures.marks) c.leave.ensures.seen c.enter-turn.ensures.mine own)

pub returns-clause-added : goal.returns-clause-added
returns-clause-added g c =
    let t = ap (λ l. l.marks.items) c.value.ensures.value ∙ c.enter-turn.ensures.value.0 in
    let mark = mark_of c.number.result c.args.number in
    let own = c.number.ensures ∙ c.enter-turn.ensures.same.0 in
    subst (λ n. IfOk c.add-added.result (λ _. (before : List _) × IsPrefix c.args.seat.seen before × (c.leave.result.seen ≡ before ++ mark_of n c.args.number ∷ []))) own
    (ends_with c.add-added.result _ _ _ _ mark (subst (λ l. Ends c.add-added.result l c.add-added.new.self.marks.items mark) t c.add-added.ensures.marks) c.leave.ensures.seen c.enter-turn.ensures.seen)
