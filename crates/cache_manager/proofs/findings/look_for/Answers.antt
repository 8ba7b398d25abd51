-- One cell more was looked for.
use Rattle.std.proofs.Common.{◌∙◌, add-one, ap, sym, List, ◌++◌, ◌∷◌, []}
use Rattle.std.proofs.lemmas.List.{map_push}
use Rattle.std.proofs.lemmas.List.Elements.{All-push}
use Rattle.olap_meaning.specs.declared.cells.Cell.{Cell}
use Rattle.cache_manager.specs.Found.{IsFirst, IsHit}
use Rattle.cache_manager.specs.declared.findings.Hit.{Hit}
use Rattle.cache_manager.proofs.Finding.{hits_on, take_more}
use Rattle.cache_manager.proofs.Firsts.{firsts_on}
use Rattle.cache_manager.proofs.findings.look_for.Goals as goal

pub loop-cell-preserved : goal.loop-cell-preserved
loop-cell-preserved c =
    rw (add-one, c.in_ok-push.ensures.items)
    (record {
      cells = map_push (λ (hit : Hit). hit.cell.now) c.loop-cell.hits.items _ ∙ ap (λ (cells : List Cell). cells ++ c.cell-item.result ∷ []) c.loop-cell.invariant.cells
          ∙ sym (take_more c.args.cells.now c.loop-cell.cell-index c.cell-item.result c.loop-cell-test.true c.cell-item.is);
      hits = All-push (IsHit c.args.history.now.setting.catalog c.args.history.now.entries c.find_cell.new.rollups.items) c.loop-cell.hits.items _
          (hits_on c.args.history.now.setting.catalog c.args.history.now.entries c.loop-cell.rollups.items c.find_cell.new.rollups.items c.loop-cell.hits.items c.in_ok-found.ensures.goes_on c.loop-cell.invariant.hits) c.in_ok-found.ensures.found;
      firsts = All-push (λ hit. IsFirst c.args.shelf.now.loads c.find_cell.new.rollups.items hit.cell.now hit.found) c.loop-cell.hits.items _
          (firsts_on c.args.shelf.now.loads c.loop-cell.rollups.items c.find_cell.new.rollups.items c.loop-cell.hits.items c.in_ok-found.ensures.firsts c.loop-cell.invariant.firsts) c.in_ok-found.ensures.first;
      rollups = c.in_ok-found.ensures.rollups;
    })
