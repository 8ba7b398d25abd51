-- That `new` leaves a value that is whole, and ensures what it says.
use Rattle.std.proofs.Common.{map, arith, All}
use Rattle.std.specs.Arc.{arc_value}
use Rattle.std.proofs.lemmas.List.Elements.{All-map}
use Rattle.fact_reader.proofs.BatchFacts.{length-rows_in}
use Rattle.segment_load.specs.Loads.{IsOffered}
use Rattle.segment_load.proofs.ChoiceFacts.{cheapest_may}
use Rattle.segment_load.proofs.job.SegmentLoad.new.Goals as goal

pub invariant_of-result : goal.invariant_of-result
invariant_of-result c =
    let offered : All (IsOffered c.args.catalog.value c.args.header c.args.snapshot) (map arc_value c.args.tables.now) = All-map (IsOffered c.args.catalog.value c.args.header c.args.snapshot) arc_value c.args.tables.now c.requires.offered in
    let may = cheapest_may c.args.catalog.value c.args.header c.args.snapshot (map arc_value c.args.tables.now) offered in
    record {
      header_holds = c.requires.header;
      loadable = c.requires.loadable;
      fit = c.requires.fit;
      room = omega (arith, c.rows-rows.ensures.bound, length-rows_in c.args.snapshot);
      may = rw c.in_ok-table.ensures may.0;
      counted = c.cost_of-cost.ensures;
      least = rw (c.cost_of-cost.ensures, c.in_ok-table.ensures) may.1;
    }
