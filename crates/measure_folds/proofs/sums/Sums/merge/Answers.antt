-- That `merge` leaves a value that is whole.
use Rattle.std.proofs.Common.{ℤ, List, ap, arith, length}
use Rattle.std.proofs.lemmas.Int.{ints}
use Rattle.measure_folds.proofs.SumFacts.{summed_joined}
use Rattle.measure_folds.proofs.sums.Sums.merge.Goals as goal

pub invariant_of-self : goal.invariant_of-self
invariant_of-self c =
    let own = ap (λ (ns : List ℤ). length ns) c.self.view_is in
    let others = ap (λ (ns : List ℤ). length ns) c.other.view_is in
    summed_joined _ _ c.self.inside.sum c.other.inside.sum _ _ _ _ c.self.invariant c.other.invariant (omega (arith, ints, own, others)) c.joined-self-inside.ensures
