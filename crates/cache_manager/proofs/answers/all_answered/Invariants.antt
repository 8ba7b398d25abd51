-- The cells so far are answered.
use Rattle.std.proofs.Common.{◌≡◌, Some, map, take}
use Rattle.olap_meaning.specs.Worth.{answered_version, worth}
use Rattle.cache_manager.specs.Found.{source_found}
use Rattle.cache_manager.proofs.answers.all_answered.Given as goal

abbrev pub invariant-loop-hit : goal.invariant-loop-hit
invariant-loop-hit l = record {
  values : map (worth l.history.setting.catalog l.history.entries) (map (source_found l.rollups) (take l.hit-index l.hits)) ≡ map (λ one. Some one.value) l.all.items;
  versions : map (answered_version l.history.entries) (map (source_found l.rollups) (take l.hit-index l.hits)) ≡ map (λ one. Some one.version) l.all.items;
}
