-- That `add_sources` ensures what it says, may call what it calls and keeps what holds at each turn.
use Rattle.std.proofs.Common.{◌∙◌, ◌++◌, List, append_assoc, ap, arith, refl, sym}
use Rattle.std.proofs.lemmas.List.{append-nil, drop_all}
use Rattle.history_core.specs.declared.numbers.Numbers.{Numbers}
use Rattle.history_core.specs.CellSources.{unpacked}
use Rattle.history_core.proofs.PackFacts.{known_here, packed_on, unpacked_on, values_here}
use Rattle.history_core.proofs.cell_sources.add_sources.Goals as goal

pub loop-cell-init : goal.loop-cell-init
loop-cell-init c = record { packed = c.requires.packed; whole = refl; len = omega arith; room = refl }

pub first_source-requires-clause-known : goal.first_source-requires-clause-known
first_source-requires-clause-known c =
    known_here c.args.kinds.now c.args.lists.now c.args.cells.now c.loop-cell.cell-index (record { kind = 0; loads = 0 }) c.loop-cell.left.now c.loop-cell-test.true c.loop-cell.invariant.packed

pub first_source-requires-clause-values : goal.first_source-requires-clause-values
first_source-requires-clause-values c =
    values_here c.args.kinds.now c.args.lists.now c.args.cells.now c.loop-cell.cell-index (record { kind = 0; loads = 0 }) c.loop-cell.left.now c.loop-cell-test.true c.loop-cell.invariant.packed

pub push_reserved-requires : goal.push_reserved-requires
push_reserved-requires c = omega (arith, c.loop-cell.invariant.len, c.loop-cell.invariant.room, c.requires.room, c.loop-cell-test.true)

pub loop-cell-preserved : goal.loop-cell-preserved
loop-cell-preserved c =
    let next = unpacked_on c.args.kinds.now c.args.lists.now c.args.cells.now c.loop-cell.cell-index (record { kind = 0; loads = 0 }) c.loop-cell.left.now c.loop-cell-test.true in
    record {
      packed =
          rw c.in_ok-source.ensures.rest
          (packed_on c.args.kinds.now c.args.lists.now c.args.cells.now c.loop-cell.cell-index (record { kind = 0; loads = 0 }) c.loop-cell.left.now c.loop-cell-test.true c.loop-cell.invariant.packed);
      whole = rw (c.push_reserved.ensures.items, append_assoc, c.in_ok-source.ensures.source, c.in_ok-source.ensures.rest, ← next) c.loop-cell.invariant.whole;
      len = omega (arith, c.push_reserved.ensures.len, c.loop-cell.invariant.len);
      room = c.push_reserved.ensures.capacity ∙ c.loop-cell.invariant.room;
    }

pub returns : goal.returns
returns c =
    let past = drop_all c.loop-cell.cell-index c.args.cells.now c.loop-cell-test.false in
    sym (append-nil c.loop-cell.sources.items)
    ∙ ap (λ (left : List Numbers). c.loop-cell.sources.items ++ unpacked c.args.kinds.now c.args.lists.now left c.loop-cell.left.now) (sym past)
    ∙ c.loop-cell.invariant.whole
