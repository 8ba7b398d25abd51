-- That `step` may call `add_value` and leaves a value that is whole.
use Rattle.std.proofs.Common.{arith, ap, length}
use Rattle.measure_folds.proofs.RowFacts.{numbers_fit, rows_joined, rows_one}
use Rattle.measure_folds.specs.Tallied.{Tallied}
use Rattle.measure_folds.proofs.tally.Tally.step.Goals as goal

pub add_value-requires : goal.add_value-requires
add_value-requires c =
    let own = ap (λ (t : Tallied). length t.values) c.self.view_is in
    omega (arith, numbers_fit _ _ _ c.self.invariant, c.self.invariant.count, own)

pub invariant_of-self-2 : goal.invariant_of-self-2
invariant_of-self-2 c =
    let own = ap (λ (t : Tallied). length t.values) c.self.view_is in
    rows_joined _ _ _ _ _ _ _ _ c.self.invariant (rows_one c.args.value) c.in_ok-add_value.ensures.ok c.and-self-inside.ensures
    (omega (arith, c.self.invariant.count, own))
