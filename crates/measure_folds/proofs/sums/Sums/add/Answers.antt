-- That `add` leaves a value that is whole.
use Rattle.std.proofs.Common.{◌∷◌, [], ℤ, List, ap, arith, length, w64, SFits}
use Rattle.std.proofs.lemmas.Int.{ints, to_z-of_z}
use Rattle.measure_folds.proofs.SumFacts.{summed_joined, summed_one}
use Rattle.measure_folds.proofs.sums.Sums.add.Goals as goal

pub invariant_of-self : goal.invariant_of-self
invariant_of-self c =
    let fits : SFits w64 c.args.number = c.ranges.number in
    let short = ap (λ (ns : List ℤ). length ns) c.self.view_is in
    summed_joined _ _ c.self.inside.sum c.args.number _ c.self.inside.of.items (c.args.number ∷ []) _ c.self.invariant (summed_one c.args.number fits)
    (omega (arith, ints, short, c.from.ensures)) (simp to_z-of_z at c.and-self-inside.ensures)
