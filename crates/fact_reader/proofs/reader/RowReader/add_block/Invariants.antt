-- What holds at each turn of `add_block`.
use Rattle.std.proofs.Common.{◌≡◌, take}
use Rattle.segment_body.specs.BodyOf.{different_values}
use Rattle.fact_reader.specs.Blocks.{valued_rows, with_block}
use Rattle.fact_reader.proofs.reader.RowReader.add_block.Given as goal

-- the rows so far are added
abbrev pub invariant-loop-k : goal.invariant-loop-k
invariant-loop-k l = l.body ≡ with_block l.self.catalog l.piece (valued_rows (different_values l.first.rows) (take l.k l.block)) l.initial.body
