-- A flush is legal, and the manager keeps what its history says.
use Rattle.std.proofs.Common.{sym, subst, arith}
use Rattle.std.specs.Prelude.{IsTrue}
use Rattle.olap_meaning.specs.declared.regions.Region.{Region}
use Rattle.olap_meaning.specs.Legal.{is_flushable, is_next_call}
use Rattle.history_core.specs.Cache.{CacheOf}
use Rattle.segment_index.specs.Index.{has_places}
use Rattle.cache_manager.proofs.Moves.{flushed}
use Rattle.cache_manager.proofs.manager.Manager.flush.Goals as goal

pub shut_off-requires-clause-legal : goal.shut_off-requires-clause-legal
shut_off-requires-clause-legal c =
    let own : IsTrue (is_flushable c.args.self.now.setting.catalog c.in_ok-region.region.value) = subst (λ (r : Region). IsTrue (is_flushable c.args.self.now.setting.catalog r)) (sym c.in_ok-region.ensures.ok) c.requires.flushable in
    rw (c.make_room.ensures.setting, c.make_room.ensures.entries)
    (subst (λ (k : CacheOf). IsTrue (is_next_call k.entries c.args.who) × IsTrue (is_flushable k.setting.catalog c.in_ok-region.region.value)) (sym c.self.view_is) (c.requires.call, own))

pub invariant_of-self-2 : goal.invariant_of-self-2
invariant_of-self-2 c =
    rw (c.shut_off.ensures.setting, c.shut_off.ensures.entries, c.shut_off.ensures.loads, c.shut_off.ensures.flushed, c.make_room.ensures.setting, c.make_room.ensures.entries, c.make_room.ensures.loads, c.make_room.ensures.flushed)
    (flushed c.self.inside.history.setting c.self.inside.history.entries c.self.inside.facts c.self.inside.shelf.flushed c.self.inside.shelf.loads (has_places c.self.inside.shelf) c.self.inside.flights.flights _ c.steps_are_legal.ensures c.self.inside.history.spare _ (has_places c.shut_off.new.shelf) c.args.who c.in_ok-region.region.value c.self.invariant
    (omega (arith, c.shut_off.ensures.spare, c.in_ok-make_room.ensures.entry_room))
    (λ headers had. c.shut_off.ensures.places headers (c.make_room.ensures.places headers had)))
