-- What holds at each turn of `record_parts`, and what falls at each of them.
use Rattle.std.proofs.Common.{◌≡◌, ◌++◌, length}
use Rattle.std.specs.List.{flat_map}
use Rattle.csv_records.specs.Files.{file_records}
use Rattle.csv_records.proofs.PartFacts.{Plain}
use Rattle.csv_records.proofs.parts.record_parts.Given as goal

abbrev pub invariant-loop-end : goal.invariant-loop-end
invariant-loop-end l = record {
  plain : Plain l.rest;
  whole : flat_map (λ part. file_records part.now) l.parts.items ++ file_records l.rest ≡ file_records l.initial.rest;
}

abbrev pub decreases-loop-end : goal.decreases-loop-end
decreases-loop-end l = length l.rest
