-- What holds at each turn of `tallies_at`.
use Rattle.std.proofs.Common.{◌≡◌, Some, map, take}
use Rattle.std.specs.Prelude.{option_map, slice_get}
use Rattle.segment_body.proofs.tables.tallies_at.Given as goal

-- the tallies are those at the places so far
abbrev pub invariant-loop-i : goal.invariant-loop-i
invariant-loop-i l = map Some l.tallies ≡ map (λ place. option_map (λ group. group.tally) (slice_get l.groups place)) (take l.i l.at)
