-- The kept load that serves the cell is its exact source; where none does it has none.
use Rattle.std.proofs.Common.{◌∙◌, ap, drop, Option}
use Rattle.std.specs.Prelude.{option_copied, option_map}
use Rattle.std.specs.Borrow.{Bor}
use Rattle.olap_meaning.specs.Covering.{concerning}
use Rattle.cache_flush.specs.declared.kept.Kept.{Kept}
use Rattle.cache_manager.proofs.Serving.{found_kept, found_serves, source_found}
use Rattle.cache_manager.proofs.findings.find_cell.Goals as goal

pub find_rolled-requires-clause-unserved : goal.find_rolled-requires-clause-unserved
find_rolled-requires-clause-unserved c =
    source_found c.args.history.now.setting.catalog c.args.history.now.entries c.args.cell.now c.args.shelf.now.loads c.requires.kept.are c.requires.kept.every c.args.shelf.now.flushed c.find.result c.find.ensures
    ∙ ap (λ (o : Option (Bor Kept)). option_map (λ (k : Kept). k.load) (option_copied o)) c.in-None.is

pub returns-in-Some-clause-found : goal.returns-in-Some-clause-found
returns-in-Some-clause-found c = (
  concerning c.in-Some.kept.now.body.header (drop c.in-Some.kept.now.place c.args.shelf.now.flushed),
  record {
    source =
        source_found c.args.history.now.setting.catalog c.args.history.now.entries c.args.cell.now c.args.shelf.now.loads c.requires.kept.are c.requires.kept.every c.args.shelf.now.flushed c.find.result c.find.ensures
        ∙ ap (λ (o : Option (Bor Kept)). option_map (λ (k : Kept). k.load) (option_copied o)) c.in-Some.is;
    is = rw c.in-Some.is at (found_kept c.args.history.now.setting.catalog c.args.history.now.entries c.args.cell.now c.args.shelf.now.loads c.args.shelf.now.flushed c.find.result c.requires.kept.are c.find.ensures);
    serves = rw c.in-Some.is at (found_serves c.args.shelf.now.loads c.args.cell.now c.args.shelf.now.flushed c.find.result c.find.ensures);
  },
)
