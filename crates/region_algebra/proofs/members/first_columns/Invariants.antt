-- What holds at each turn of `first_columns`.
use Rattle.std.proofs.Common.{◌≡◌, [], ◌∷◌, map, take}
use Rattle.std.specs.List.{zip}
use Rattle.region_algebra.proofs.members.first_columns.Given as goal

abbrev pub invariant-loop-i : goal.invariant-loop-i
invariant-loop-i l = l.columns.items ≡ map (λ pair. (pair.0, pair.1 ∷ [])) (zip (take l.i l.levels) (take l.i l.path))
