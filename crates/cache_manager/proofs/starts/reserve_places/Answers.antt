-- One load more has its place.
use Rattle.std.proofs.Common.{◌∙◌, ◌++◌, ◌∷◌, [], arith, map, subst, sym, take}
use Rattle.segment_index.specs.Index.{has_places}
use Rattle.cache_manager.specs.declared.starts.Planned.{Planned}
use Rattle.segment_index.proofs.PlaceFacts.{places_none}
use Rattle.cache_manager.proofs.Starting.{headers_more}
use Rattle.cache_manager.proofs.starts.reserve_places.Goals as goal

pub loop-made-preserved : goal.loop-made-preserved
loop-made-preserved c = record {
  loads = c.reserve.ensures.loads ∙ c.loop-made.invariant.loads;
  flushed = c.reserve.ensures.flushed ∙ c.loop-made.invariant.flushed;
  kept = λ headers had. c.reserve.ensures.places headers (c.loop-made.invariant.kept headers had);
  places = λ headers had. subst (has_places c.reserve.new.self) (sym (headers_more headers c.args.plans.now c.loop-made.made c.index-plans-made.result c.loop-made-test.true c.index-plans-made.is))
      (subst (λ (p : Planned). has_places c.reserve.new.self ((headers ++ map (λ planned. planned.flight.header) (take c.loop-made.made c.args.plans.now)) ++ p.flight.header ∷ [])) (sym c.index-plans-made.is)
      (c.in_default.ensures.place (headers ++ map (λ planned. planned.flight.header) (take c.loop-made.made c.args.plans.now)) (c.loop-made.invariant.places headers had)));
}

pub release_places-requires : goal.release_places-requires
release_places-requires c = record {
  places = (
    [],
    c.reserve.ensures.places (map (λ planned. planned.flight.header) (take c.loop-made.made c.args.plans.now)) (c.loop-made.invariant.places [] (places_none c.args.shelf.now)),
  );
}
