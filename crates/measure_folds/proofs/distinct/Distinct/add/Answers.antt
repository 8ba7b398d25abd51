-- That `add` leaves a value that is whole.
use Rattle.std.proofs.Common.{refl, SFits, w64}
use Rattle.std.proofs.lemmas.Int.{to_z-of_z}
use Rattle.measure_folds.proofs.DistinctFacts.{different_joined}
use Rattle.measure_folds.proofs.distinct.Distinct.add.Goals as goal

pub invariant_of-self-2 : goal.invariant_of-self-2
invariant_of-self-2 c =
    let fits : SFits w64 c.args.number = c.ranges.number in
    let items = simp to_z-of_z at c.and-self-inside.ensures in
    let keys = simp to_z-of_z at c.in_ok-put.ensures.ok in
    rw (items, different_joined c.self.inside.of.items c.args.number, keys, c.self.invariant) refl
