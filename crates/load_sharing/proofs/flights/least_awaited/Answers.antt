-- That `least_awaited` keeps what holds at each turn.
use Rattle.std.proofs.Common.{◌<◌, ◌∙◌, sym, arith, length}
use Rattle.load_sharing.proofs.AwaitFacts.{next_least, next_other, next_passed}
use Rattle.load_sharing.proofs.flights.least_awaited.Goals as goal
use Rattle.load_sharing.proofs.flights.least_awaited.Goals.{then-is_less+then-is_awaited, else-is_less, else-is_less-via-then-is_less+else-is_awaited, else-is_less-via-else-is_less}

pub loop-flight-preserved : goal.loop-flight-preserved
loop-flight-preserved c =
    let regions = c.args.shut.now.regions in
    let flights = c.args.flights.now in
    let i = c.loop-flight.flight-index in
    let next = c.flight-item.result in
    let below : c.loop-flight.flight-index < length c.args.flights.now = omega arith in
    elim c.if-is_less.branch [
      | then-is_less+then-is_awaited w ↦
          rw w.least-is
          (next_least regions flights i next c.args.cell.now c.loop-flight.least below c.flight-item.is c.loop-flight.invariant (sym c.is_less.ensures ∙ w.if-is_less.true) (sym w.is_awaited.ensures ∙ w.if-is_awaited.true))
      | else-is_less w ↦
          rw w.least-is
          (elim w.else-is_less.branch [
            | else-is_less-via-then-is_less+else-is_awaited v ↦
                next_other regions flights i next c.args.cell.now c.loop-flight.least below c.flight-item.is c.loop-flight.invariant (sym v.is_awaited.ensures ∙ v.if-is_awaited.false)
            | else-is_less-via-else-is_less v ↦
                next_passed regions flights i next c.args.cell.now c.loop-flight.least below c.flight-item.is c.loop-flight.invariant (sym c.is_less.ensures ∙ v.if-is_less.false)
          ])
    ]
