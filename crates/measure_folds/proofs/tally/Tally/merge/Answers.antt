-- That `merge` may call `merge_state` and leaves a value that is whole.
use Rattle.std.proofs.Common.{arith, ap, length}
use Rattle.measure_folds.proofs.RowFacts.{numbers_fit, rows_joined}
use Rattle.measure_folds.specs.Tallied.{Tallied}
use Rattle.measure_folds.proofs.tally.Tally.merge.Goals as goal

pub merge_state-requires-clause-room : goal.merge_state-requires-clause-room
merge_state-requires-clause-room c =
    let own = ap (λ (t : Tallied). length t.values) c.self.view_is in
    let others = ap (λ (t : Tallied). length t.values) c.other.view_is in
    omega (arith, numbers_fit _ _ _ c.self.invariant, numbers_fit _ _ _ c.other.invariant, c.self.invariant.count, c.other.invariant.count, own, others)

pub invariant_of-self : goal.invariant_of-self
invariant_of-self c =
    let own = ap (λ (t : Tallied). length t.values) c.self.view_is in
    let others = ap (λ (t : Tallied). length t.values) c.other.view_is in
    rows_joined _ _ _ _ _ _ _ _ c.self.invariant c.other.invariant c.merge_state.ensures.numbers c.joined-self-inside.ensures
    (omega (arith, c.self.invariant.count, c.other.invariant.count, own, others))
