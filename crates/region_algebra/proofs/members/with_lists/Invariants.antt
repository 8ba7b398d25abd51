-- What holds at each turn of `with_lists`.
use Rattle.std.proofs.Common.{◌≡◌, [], ◌∷◌, map, take}
use Rattle.region_algebra.proofs.members.with_lists.Given as goal

abbrev pub invariant-loop-pair : goal.invariant-loop-pair
invariant-loop-pair l = l.columns ≡ map (λ pair. (pair.0, pair.1 ∷ [])) (take l.pair-index l.pairs)
