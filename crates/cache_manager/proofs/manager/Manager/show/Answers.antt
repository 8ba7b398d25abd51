-- To be shown what is kept is a legal step, and the manager keeps what its history says.
use Rattle.std.proofs.Common.{arith, sym, subst}
use Rattle.std.specs.Prelude.{IsTrue}
use Rattle.olap_meaning.specs.Legal.{is_next_call}
use Rattle.history_core.specs.Cache.{CacheOf}
use Rattle.segment_index.specs.Index.{has_places}
use Rattle.cache_manager.proofs.Moves.{shown}
use Rattle.cache_manager.proofs.manager.Manager.show.Goals as goal

pub push-requires-clause-legal : goal.push-requires-clause-legal
push-requires-clause-legal c =
    rw c.reserve.ensures.entries (subst (λ (k : CacheOf). IsTrue (is_next_call k.entries c.args.who)) (sym c.self.view_is) c.requires.call)

pub invariant_of-self-2 : goal.invariant_of-self-2
invariant_of-self-2 c =
    rw (c.push.ensures.setting, c.push.ensures.entries, c.reserve.ensures.setting, c.reserve.ensures.entries)
    (shown c.self.inside.history.setting c.self.inside.history.entries c.self.inside.facts _ _ (has_places c.self.inside.shelf) _ _ c.steps_are_legal.ensures c.self.inside.history.spare _ c.args.who c.self.invariant
    (omega (arith, c.push.ensures.spare, c.in_ok-reserve.ensures.ok, c.in_ok-room_for.ensures)))
