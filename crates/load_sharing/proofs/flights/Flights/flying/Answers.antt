-- That a cell awaits no load where none has its mask.
use Rattle.std.proofs.Common.{◌≡◌, ◌∙◌, false, sym, map}
use Rattle.std.specs.Prelude.{nat_lt}
use Rattle.segment_header.specs.Masks.{cell_mask}
use Rattle.load_sharing.specs.Flights.{flight_of}
use Rattle.load_sharing.specs.Masks.{count_at}
use Rattle.load_sharing.proofs.AwaitFacts.{none_awaited}
use Rattle.load_sharing.proofs.flights.Flights.flying.Goals as goal

pub returns-then-not-has : goal.returns-then-not-has
returns-then-not-has c =
    let not_there : nat_lt 0 (count_at c.self.inside.masks.counts (cell_mask c.args.cell.now)) ≡ false = rw (← c.cell_mask.ensures) (sym c.has.ensures ∙ c.if-not-has.true) in
    rw (← c.self.view_is) (none_awaited c.args.shut.now.regions c.self.inside.masks.counts (map flight_of c.self.inside.flights.items) c.args.cell.now c.self.invariant.1 not_there)
