-- One load less has its place.
use Rattle.std.proofs.Common.{◌∙◌, ◌+◌, ◌++◌, List, drop, map, subst}
use Rattle.olap_meaning.proofs.Lists.{drop_step}
use Rattle.segment_index.specs.Index.{has_places}
use Rattle.cache_manager.specs.declared.starts.Planned.{Planned}
use Rattle.cache_manager.proofs.starts.release_places.Goals as goal

pub release-requires : goal.release-requires
release-requires c =
    let (headers, fit) = c.requires.places in
    record {
      place = (
        headers,
        map (λ planned. planned.flight.header) (drop (c.loop-planned.planned-index + 1) c.args.plans.now),
        subst (λ (plans : List Planned). has_places c.loop-planned.shelf (headers ++ map (λ planned. planned.flight.header) plans)) (drop_step c.args.plans.now c.loop-planned.planned-index c.planned-item.result c.loop-planned-test.true c.planned-item.is)
            (c.loop-planned.invariant.kept headers fit),
      );
    }

pub loop-planned-preserved : goal.loop-planned-preserved
loop-planned-preserved c = record {
  loads = c.release.ensures.loads ∙ c.loop-planned.invariant.loads;
  flushed = c.release.ensures.flushed ∙ c.loop-planned.invariant.flushed;
  kept = λ headers had.
      c.release.ensures.places headers (map (λ planned. planned.flight.header) (drop (c.loop-planned.planned-index + 1) c.args.plans.now))
      (subst (λ (plans : List Planned). has_places c.loop-planned.shelf (headers ++ map (λ planned. planned.flight.header) plans)) (drop_step c.args.plans.now c.loop-planned.planned-index c.planned-item.result c.loop-planned-test.true c.planned-item.is)
      (c.loop-planned.invariant.kept headers had));
}
