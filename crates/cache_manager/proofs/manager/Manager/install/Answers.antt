-- A table of one's own may be installed, and then it is the one that was built last.
use Rattle.std.proofs.Common.{sym, subst, arith}
use Rattle.olap_meaning.specs.Legal.{IsLegalAgg}
use Rattle.segment_index.specs.Index.{has_places}
use Rattle.history_core.specs.Cache.{CacheOf}
use Rattle.cache_manager.specs.Tables.{IsOwnTable}
use Rattle.cache_manager.proofs.Ends.{cache_of}
use Rattle.cache_manager.proofs.Installing.{legal_agg}
use Rattle.cache_manager.proofs.Moves.{installs}
use Rattle.cache_manager.proofs.manager.Manager.install.Goals as goal

pub push-requires-clause-legal : goal.push-requires-clause-legal
push-requires-clause-legal c =
    rw (c.reserve.ensures.setting, c.reserve.ensures.entries, c.table-2.ensures, c.version.ensures)
    (subst (λ (k : CacheOf). IsLegalAgg k.setting k.entries c.args.who c.args.table.table c.args.table.version) (sym c.self.view_is) (legal_agg c.args.self.now c.args.who c.args.table c.requires.call c.requires.own))

pub invariant_of-self-2 : goal.invariant_of-self-2
invariant_of-self-2 c =
    let own : IsOwnTable (cache_of c.self.inside.history) c.args.table = subst (λ (k : CacheOf). IsOwnTable k c.args.table) (sym c.self.view_is) c.requires.own in
    rw (c.push.ensures.setting, c.push.ensures.entries, c.reserve.ensures.setting, c.reserve.ensures.entries, c.table-2.ensures, c.version.ensures, c.in_ok-install.ensures.installed)
    (installs c.self.inside.history.setting c.self.inside.history.entries c.self.inside.facts _ _ (has_places c.self.inside.shelf) _ c.self.inside.installed c.steps_are_legal.ensures c.self.inside.history.spare _ c.args.who c.args.table own.cube c.self.invariant
    (omega (arith, c.push.ensures.spare, c.in_ok-reserve.ensures.ok, c.in_ok-room_for.ensures)) own.known own.reached own.built)
