use Rattle.std.proofs.Common.{sym}
use Rattle.std.specs.Prelude.{Contains}
use Rattle.std.proofs.lemmas.List.Elements.{All-contains}
use Rattle.cache_flush.specs.Loads.{kept_of}
use Rattle.olap_meaning.specs.Rolled.{header_columns}
use Rattle.olap_meaning.proofs.Lists.{none_found}
use Rattle.rollup_plan.specs.Picks.{is_whole, lent}
use Rattle.rollup_plan.proofs.PickFacts.{picked_splits}
use Rattle.rollup_plan.proofs.ListFacts.{found_passes}
use Rattle.rollup_plan.proofs.parts.parts_along.Goals as goal

pub part_of_whole-requires : goal.part_of_whole-requires
part_of_whole-requires c =
    let found = found_passes (is_whole c.args.size c.args.cell.now c.args.split) (lent c.args.kept.now) (kept_of c.in-Some.whole.now) (sym c.in-Some.ensures) in
    All-contains (λ one. Contains (header_columns one.body.header) c.args.split) (lent c.args.kept.now) (kept_of c.in-Some.whole.now) c.requires found.0

pub marked_parts-requires-clause-partial : goal.marked_parts-requires-clause-partial
marked_parts-requires-clause-partial c = none_found (is_whole c.args.size c.args.cell.now c.args.split) (lent c.args.kept.now) (sym c.in-None.ensures)

pub returns-in_ok-part_of_whole-in-Some-clause-found : goal.returns-in_ok-part_of_whole-in-Some-clause-found
returns-in_ok-part_of_whole-in-Some-clause-found c =
    let found = found_passes (is_whole c.args.size c.args.cell.now c.args.split) (lent c.args.kept.now) (kept_of c.in-Some.whole.now) (sym c.in-Some.ensures) in
    sym (picked_splits c.args.size c.args.cell.now c.args.split (lent c.args.kept.now) _ (c.in_ok-part_of_whole-in-Some.ensures c.args.size c.args.cell.now (lent c.args.kept.now) found.0 found.1))

pub returns-in_ok-part_of_whole-in-Some-clause-parts : goal.returns-in_ok-part_of_whole-in-Some-clause-parts
returns-in_ok-part_of_whole-in-Some-clause-parts c =
    let found = found_passes (is_whole c.args.size c.args.cell.now c.args.split) (lent c.args.kept.now) (kept_of c.in-Some.whole.now) (sym c.in-Some.ensures) in
    c.in_ok-part_of_whole-in-Some.ensures c.args.size c.args.cell.now (lent c.args.kept.now) found.0 found.1
