-- What holds at each turn of `texts_at`.
use Rattle.std.proofs.Common.{◌≡◌, ◌++◌, drop}
use Rattle.dim_tables.specs.Bound.{fields_at}
use Rattle.dim_tables.proofs.bound.texts_at.Given as goal

abbrev pub invariant-loop-place : goal.invariant-loop-place
invariant-loop-place l = l.texts ++ fields_at (drop l.place-index l.places) l.row ≡ fields_at l.places l.row
