-- The cell stands after those of its rollup.
use Rattle.std.proofs.Common.{refl, ◌∙◌, ap, ◌∷◌, [], ◌++◌}
use Rattle.std.proofs.lemmas.Option.{slice_get_read}
use Rattle.olap_meaning.specs.declared.cells.Cell.{Cell}
use Rattle.cache_manager.proofs.rollups.join.Goals as goal

pub returns : goal.returns
returns c = record {
  was = c.index_mut-rollup.result.now;
  at = slice_get_read c.args.rollups.now.items _ c.args.number c.index_mut-rollup.result.now refl c.requires c.index_mut-rollup.ensures.value;
  joined = _;
  loads = refl;
  plan = refl;
  cells = c.in_ok-push.ensures.items ∙ ap (λ (one : Cell). c.index_mut-rollup.result.now.cells.items ++ one ∷ []) c.in_ok-copy_cell.ensures;
  place_is = c.len-place.ensures ∙ c.index_mut-rollup.result.now.cells.ok.0;
  changed = refl;
}
