-- What holds at each turn of `add_block_to_each`.
use Rattle.std.proofs.Common.{◌≡◌, ◌++◌, drop, map, take}
use Rattle.segment_body.specs.BodyOf.{different_values}
use Rattle.fact_reader.specs.Blocks.{valued_rows, with_block}
use Rattle.fact_reader.proofs.each.add_block_to_each.Given as goal

-- the bodies so far have the rows, and the others are as they were
abbrev pub invariant-loop-k : goal.invariant-loop-k
invariant-loop-k l = l.bodies ≡ map (with_block l._catalog l.piece (valued_rows (different_values l.first.rows) l.block)) (take l.k l.initial.bodies) ++ drop l.k l.initial.bodies
