-- That `roll_all` ensures what it says.
use Rattle.std.proofs.Common.{◌∙◌, ◌<◌, length, sym}
use Rattle.segment_body.proofs.TableFacts.{not_empty}
use Rattle.cache_flush.specs.Loads.{kept_in}
use Rattle.rollup_plan.proofs.RollFacts.{alike, all_covering, all_rolled_up, all_room, first_alike, first_behind, known, sets}
use Rattle.rollup_plan.proofs.rolls.roll_all.Goals as goal

pub bounds-parts-0 : goal.bounds-parts-0
bounds-parts-0 g c =
    let behind = c.requires.behind in
    let some : 0 < length c.args.cells.now = not_empty (length c.args.cells.now) c.if-is_empty.ensures in
    rw c.as_slice-parts.ensures (first_behind behind.0 c.args.cells.now (g.S.Shelf.loads c.args.shelf.now) c.args.plan.now behind.1 behind.2 some).some

pub bounds-parts-0-else-is_empty : goal.bounds-parts-0-else-is_empty
bounds-parts-0-else-is_empty g c =
    let behind = c.requires.behind in
    let some : 0 < length c.args.cells.now = not_empty (length c.args.cells.now) c.if-is_empty.ensures in
    rw c.as_slice-parts.ensures (first_behind behind.0 c.args.cells.now (g.S.Shelf.loads c.args.shelf.now) c.args.plan.now behind.1 behind.2 some).some

pub kept_load-requires : goal.kept_load-requires
kept_load-requires g c =
    let behind = c.requires.behind in
    let some : 0 < length c.args.cells.now = not_empty (length c.args.cells.now) c.if-is_empty.ensures in
    let first = first_behind behind.0 c.args.cells.now (g.S.Shelf.loads c.args.shelf.now) c.args.plan.now behind.1 behind.2 some in
    rw c.as_slice-parts.ensures (known behind.0 _ (g.S.Shelf.loads c.args.shelf.now) c.args.plan.now behind.1 first 0 c.index-parts-0.result first.some)

pub new-requires-2-clause-adds_up : goal.new-requires-2-clause-adds_up
new-requires-2-clause-adds_up g c e =
    let behind = c.requires.behind in
    let some : 0 < length c.args.cells.now = not_empty (length c.args.cells.now) c.if-is_empty.ensures in
    let first = first_behind behind.0 c.args.cells.now (g.S.Shelf.loads c.args.shelf.now) c.args.plan.now behind.1 behind.2 some in
    let kept = rw (← c.index-parts-0.is) at c.kept_load.ensures in
    let kind = first_alike behind.0 _ (g.S.Shelf.loads c.args.shelf.now) c.args.plan.now behind.1 first c.index-parts-0.result (kept_in (g.S.Shelf.flushed c.args.shelf.now) c.kept_load.result.now) (rw c.as_slice-parts.ensures at c.index-parts-0.is) kept in
    first.adds_up (sym kind ∙ sym c.aggregator-aggregator.ensures ∙ e)

pub fold_each-requires-clause-known : goal.fold_each-requires-clause-known
fold_each-requires-clause-known g c =
    let behind = c.requires.behind in
    let some : 0 < length c.args.cells.now = not_empty (length c.args.cells.now) c.if-is_empty.ensures in
    let first = first_behind behind.0 c.args.cells.now (g.S.Shelf.loads c.args.shelf.now) c.args.plan.now behind.1 behind.2 some in
    rw c.as_slice-parts.ensures (known behind.0 _ (g.S.Shelf.loads c.args.shelf.now) c.args.plan.now behind.1 first)

pub fold_each-requires-clause-sets : goal.fold_each-requires-clause-sets
fold_each-requires-clause-sets g c =
    let behind = c.requires.behind in
    let some : 0 < length c.args.cells.now = not_empty (length c.args.cells.now) c.if-is_empty.ensures in
    let first = first_behind behind.0 c.args.cells.now (g.S.Shelf.loads c.args.shelf.now) c.args.plan.now behind.1 behind.2 some in
    rw c.as_slice-parts.ensures (sets behind.0 _ (g.S.Shelf.loads c.args.shelf.now) c.args.plan.now behind.1 first)

pub fold_each-requires-clause-alike : goal.fold_each-requires-clause-alike
fold_each-requires-clause-alike g c =
    let behind = c.requires.behind in
    let some : 0 < length c.args.cells.now = not_empty (length c.args.cells.now) c.if-is_empty.ensures in
    let first = first_behind behind.0 c.args.cells.now (g.S.Shelf.loads c.args.shelf.now) c.args.plan.now behind.1 behind.2 some in
    let kept = rw (← c.index-parts-0.is) at c.kept_load.ensures in
    let kind = first_alike behind.0 _ (g.S.Shelf.loads c.args.shelf.now) c.args.plan.now behind.1 first c.index-parts-0.result (kept_in (g.S.Shelf.flushed c.args.shelf.now) c.kept_load.result.now) (rw c.as_slice-parts.ensures at c.index-parts-0.is) kept in
    rw (c.in_ok-tallies.ensures, c.as_slice-parts.ensures, c.aggregator-aggregator.ensures, kind) (alike behind.0 _ (g.S.Shelf.loads c.args.shelf.now) c.args.plan.now behind.1 first)

pub fold_each-requires-clause-covering : goal.fold_each-requires-clause-covering
fold_each-requires-clause-covering g c =
    let behind = c.requires.behind in
    rw (c.in_ok-tallies.ensures, c.as_slice-parts.ensures) (all_covering behind.0 c.args.cells.now (g.S.Shelf.loads c.args.shelf.now) c.args.plan.now behind.1 behind.2)

pub fold_each-requires-clause-room : goal.fold_each-requires-clause-room
fold_each-requires-clause-room g c =
    let behind = c.requires.behind in
    rw (c.in_ok-tallies.ensures, c.as_slice-parts.ensures) (all_room behind.0 c.args.cells.now (g.S.Shelf.loads c.args.shelf.now) c.args.plan.now behind.1 behind.2 behind.3)

pub returns : goal.returns
returns g c =
    let kept = rw (← c.index-parts-0.is) at c.kept_load.ensures in
    let folded = rw (c.fold_each.ensures, c.in_ok-tallies.ensures, c.as_slice-parts.ensures) at c.tallies-2.ensures in
    record {
      rolled =
          all_rolled_up c.args.cells.now (g.S.Shelf.loads c.args.shelf.now) c.args.plan.now c.index-parts-0.result (kept_in (g.S.Shelf.flushed c.args.shelf.now) c.kept_load.result.now) c.aggregator-aggregator.result c.tallies-2.result (rw c.as_slice-parts.ensures at c.index-parts-0.is) kept c.aggregator-aggregator.ensures folded;
    }
