-- What was found for cells, as the history has it.
use Rattle.std.proofs.Common.{◌≡◌, refl, sym, ◌∙◌, ap, subst, List, [], ◌∷◌, length, map, filter, false, Some, All, Contains}
use Rattle.std.specs.Borrow.{Bor}
use Rattle.std.proofs.lemmas.List.{length-map}
use Rattle.olap_meaning.specs.declared.cells.Cell.{Cell}
use Rattle.olap_meaning.specs.declared.cells.CellSource.{CellSource}
use Rattle.olap_meaning.specs.Legal.{IsSource}
use Rattle.olap_meaning.specs.Worth.{answered_version, worth}
use Rattle.history_core.specs.declared.answers.Answered.{Answered}
use Rattle.history_core.specs.Cache.{CacheOf}
use Rattle.history_core.specs.Groups.{wanting}
use Rattle.cache_flush.specs.Loads.{KeptOf}
use Rattle.cache_manager.specs.Found.{AreServed, IsFirst, IsHit, IsPlaced, cells_of, source_found, wants}
use Rattle.cell_groups.specs.Lent.{lent}
use Rattle.cell_groups.proofs.GroupFacts.{length-lent}
use Rattle.cache_manager.specs.Rollups.{AreKept, IsRollup}
use Rattle.cache_manager.specs.declared.findings.Hit.{Hit}
use Rattle.cache_manager.specs.declared.rollups.Rollup.{Rollup}
use Rattle.cache_manager.proofs.Finding.{none_wants, placed_found, sources_found, wanting_found}
use Rattle.cache_manager.proofs.Firsts.{same_sources}

cells_sourced : (rollups : List Rollup) (hits : List Hit) → map (λ source. source.cell) (map (source_found rollups) hits) ≡ cells_of hits
cells_sourced rollups [] = refl
cells_sourced rollups (hit ∷ hits) = ap (λ (cells : List Cell). hit.cell.now ∷ cells) (cells_sourced rollups hits)

module _ (cache : CacheOf) (loads : List KeptOf) (kept : AreKept cache.setting.catalog cache.entries loads) (cells : List Cell) (hits : List Hit) (rollups : List Rollup) (looked : cells_of hits ≡ cells) (are : All (IsHit cache.setting.catalog cache.entries rollups) hits) (rolled : All (IsRollup cache.setting.catalog cache.entries loads) rollups) where
  -- the cells that want a source
  pub wanted_found : (wanted : List (Bor Cell)) → lent wanted ≡ cells_of (filter wants hits) → lent wanted ≡ wanting cache.setting.catalog cache.entries cells
  wanted_found wanted is = is ∙ wanting_found cache.setting.catalog cache.entries loads kept rollups rolled hits are ∙ ap (wanting cache.setting.catalog cache.entries) looked

  -- where there are none, each is served
  pub all_found : (wanted : List (Bor Cell)) → lent wanted ≡ cells_of (filter wants hits) → length wanted ≡ 0 → All (λ hit. wants hit ≡ false) hits
  all_found wanted is none =
      let lengths : length (filter wants hits) ≡ length wanted = sym (length-map (filter wants hits) (λ (hit : Hit). hit.cell.now)) ∙ ap length (sym is) ∙ length-lent wanted in
      none_wants hits (lengths ∙ none)

  pub all_placed : All (λ hit. IsPlaced rollups hit.found) hits
  all_placed = placed_found cache.setting.catalog cache.entries loads kept rollups rolled hits are

  pub all_served : (answered : List Answered) (sources : List CellSource) → All (λ hit. IsFirst loads rollups hit.cell.now hit.found) hits → All (λ hit. wants hit ≡ false) hits → sources ≡ map (source_found rollups) hits
      → map (worth cache.setting.catalog cache.entries) (map (source_found rollups) hits) ≡ map (λ one. Some one.value) answered → map (answered_version cache.entries) (map (source_found rollups) hits) ≡ map (λ one. Some one.version) answered
      → AreServed cache cells answered sources
  all_served answered sources firsts some is values versions = record {
    sources_are = record {
      of_cells = ap (map (λ source. source.cell)) is ∙ cells_sourced rollups hits ∙ looked;
      own = subst (All (λ source. IsSource cache.setting.catalog cache.entries source.cell source.loads)) (sym is) (sources_found cache.setting.catalog cache.entries loads kept rollups rolled hits are some);
      same = λ one other held too.
          same_sources cache.setting.catalog cache.entries loads kept rollups rolled hits are firsts some one other
          (subst (λ (found : List CellSource). Contains found one) is held) (subst (λ (found : List CellSource). Contains found other) is too);
    };
    values = ap (map (worth cache.setting.catalog cache.entries)) is ∙ values;
    versions = ap (map (answered_version cache.entries)) is ∙ versions;
  }
