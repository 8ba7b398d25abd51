-- That `roll` ensures what it says.
use Rattle.std.proofs.Common.{◌∙◌, sym}
use Rattle.cache_flush.specs.Loads.{kept_in}
use Rattle.rollup_plan.proofs.RollFacts.{alike, cell_room, first_alike, known, rolled_up, sets}
use Rattle.rollup_plan.proofs.rolls.roll.Goals as goal

pub kept_load-requires : goal.kept_load-requires
kept_load-requires g c =
    let behind = c.requires.behind in
    rw c.as_slice-parts.ensures (known behind.0 c.args.cell.now (g.S.Shelf.loads c.args.shelf.now) c.args.plan.now behind.1 behind.2 0 c.index-parts-0.result behind.2.some)

pub fold_parts-requires-clause-adds_up : goal.fold_parts-requires-clause-adds_up
fold_parts-requires-clause-adds_up g c e =
    let behind = c.requires.behind in
    let kept = rw (← c.index-parts-0.is) at c.kept_load.ensures in
    let kind = first_alike behind.0 c.args.cell.now (g.S.Shelf.loads c.args.shelf.now) c.args.plan.now behind.1 behind.2 c.index-parts-0.result (kept_in (g.S.Shelf.flushed c.args.shelf.now) c.kept_load.result.now) (rw c.as_slice-parts.ensures at c.index-parts-0.is) kept in
    behind.2.adds_up (sym kind ∙ sym c.aggregator-aggregator.ensures ∙ e)

pub fold_parts-requires-clause-known : goal.fold_parts-requires-clause-known
fold_parts-requires-clause-known g c =
    let behind = c.requires.behind in
    rw c.as_slice-parts.ensures (known behind.0 c.args.cell.now (g.S.Shelf.loads c.args.shelf.now) c.args.plan.now behind.1 behind.2)

pub fold_parts-requires-clause-sets : goal.fold_parts-requires-clause-sets
fold_parts-requires-clause-sets g c =
    let behind = c.requires.behind in
    rw c.as_slice-parts.ensures (sets behind.0 c.args.cell.now (g.S.Shelf.loads c.args.shelf.now) c.args.plan.now behind.1 behind.2)

pub fold_parts-requires-clause-alike : goal.fold_parts-requires-clause-alike
fold_parts-requires-clause-alike g c =
    let behind = c.requires.behind in
    let kept = rw (← c.index-parts-0.is) at c.kept_load.ensures in
    let kind = first_alike behind.0 c.args.cell.now (g.S.Shelf.loads c.args.shelf.now) c.args.plan.now behind.1 behind.2 c.index-parts-0.result (kept_in (g.S.Shelf.flushed c.args.shelf.now) c.kept_load.result.now) (rw c.as_slice-parts.ensures at c.index-parts-0.is) kept in
    rw (c.as_slice-parts.ensures, c.aggregator-aggregator.ensures, kind) (alike behind.0 c.args.cell.now (g.S.Shelf.loads c.args.shelf.now) c.args.plan.now behind.1 behind.2)

pub fold_parts-requires-clause-room : goal.fold_parts-requires-clause-room
fold_parts-requires-clause-room g c =
    let behind = c.requires.behind in
    rw c.as_slice-parts.ensures (cell_room behind.0 c.args.cell.now (g.S.Shelf.loads c.args.shelf.now) c.args.plan.now behind.1 behind.2 behind.3)

pub returns : goal.returns
returns g c = record {
  rolled = λ catalog rows behind.
      let kept = rw (← c.index-parts-0.is) at c.kept_load.ensures in
      let kind = first_alike catalog c.args.cell.now (g.S.Shelf.loads c.args.shelf.now) c.args.plan.now rows behind c.index-parts-0.result (kept_in (g.S.Shelf.flushed c.args.shelf.now) c.kept_load.result.now) (rw c.as_slice-parts.ensures at c.index-parts-0.is) kept in
      rolled_up catalog c.args.cell.now (g.S.Shelf.loads c.args.shelf.now) c.args.plan.now rows behind c.fold_parts.result (c.fold_parts.ensures.aggregator ∙ c.aggregator-aggregator.ensures ∙ kind) (rw c.as_slice-parts.ensures at c.fold_parts.ensures.rows);
}
