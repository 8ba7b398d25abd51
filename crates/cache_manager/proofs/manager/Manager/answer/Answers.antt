-- The answer is a legal step.
use Rattle.std.proofs.Common.{◌≡◌, ◌∙◌, ◌+◌, ◌≤◌, ◌++◌, ◌∷◌, [], List, ap, append_assoc, arith, length, map, refl, sym, subst}
use Rattle.std.specs.Prelude.{IsTrue}
use Rattle.std.specs.List.{AllByRecursion as Each}
use Rattle.olap_meaning.specs.Legal.{IsAnswered, is_next_call}
use Rattle.history_core.specs.Cache.{CacheOf}
use Rattle.olap_meaning.specs.History.{Answer, Entry, Evict}
use Rattle.segment_index.specs.Index.{has_places}
use Rattle.cache_manager.specs.Kept.{headers_of}
use Rattle.cache_manager.proofs.Evicting.{evicted_manager, evicts_after}
use Rattle.cache_manager.proofs.Moves.{answered}
use Rattle.cache_manager.proofs.manager.Manager.answer.Goals as goal

pub push-requires-clause-legal : goal.push-requires-clause-legal
push-requires-clause-legal c =
    rw (c.reserve.ensures.setting, c.reserve.ensures.entries)
    (subst (λ (k : CacheOf). IsTrue (is_next_call k.entries c.args.who) × Each (IsAnswered k.setting k.entries) c.args.sources.value) (sym c.self.view_is)
    (c.requires.call, c.requires.sources))

pub evict-requires-clause-kept : goal.evict-requires-clause-kept
evict-requires-clause-kept c =
    let next =
    answered c.self.inside.history.setting c.self.inside.history.entries c.self.inside.facts c.self.inside.shelf.flushed c.self.inside.shelf.loads (has_places c.self.inside.shelf) c.self.inside.flights.flights c.self.inside.installed c.steps_are_legal.ensures c.self.inside.history.spare c.push.new.self.spare c.args.who c.args.sources.value c.self.invariant
    (omega (arith, c.push.ensures.spare, c.in_ok-reserve.ensures.ok, c.in_ok-room_for.ensures)) in
    rw (c.push.ensures.setting, c.push.ensures.entries, c.reserve.ensures.setting, c.reserve.ensures.entries) (record { are = next.kept_are; every = next.kept_all })

pub evict-requires-clause-room : goal.evict-requires-clause-room
evict-requires-clause-room c =
    let room : c.in_ok-room_for.field-0 ≡ length c.self.inside.flights.flights + length c.self.inside.flights.flights + length c.self.inside.shelf.loads + 1 = c.in_ok-room_for.ensures in
    omega (arith, c.push.ensures.spare, c.in_ok-reserve.ensures.ok, room)

pub evict-requires-clause-after : goal.evict-requires-clause-after
evict-requires-clause-after c = rw c.push.ensures.entries (evicts_after c.reserve.new.self.entries (Answer c.args.who c.args.sources.value) refl)

pub invariant_of-self-2 : goal.invariant_of-self-2
invariant_of-self-2 c =
    let (loads, more) = c.evict.ensures.evicted in
    let settings : c.evict.new.history.setting ≡ c.self.inside.history.setting = c.evict.ensures.setting ∙ c.push.ensures.setting ∙ c.reserve.ensures.setting in
    let pushed : c.push.new.self.entries ≡ c.self.inside.history.entries ++ Answer c.args.who c.args.sources.value ∷ [] = c.push.ensures.entries ∙ ap (λ (es : List Entry). es ++ Answer c.args.who c.args.sources.value ∷ []) c.reserve.ensures.entries in
    let grown : c.evict.new.history.entries ≡ (c.self.inside.history.entries ++ Answer c.args.who c.args.sources.value ∷ []) ++ map Evict loads = more ∙ ap (λ (es : List Entry). es ++ map Evict loads) pushed in
    let room : c.in_ok-room_for.field-0 ≡ length c.self.inside.flights.flights + length c.self.inside.flights.flights + length c.self.inside.shelf.loads + 1 = c.in_ok-room_for.ensures in
    let left : length c.self.inside.flights.flights + length c.self.inside.flights.flights + length c.evict.new.shelf.loads ≤ c.evict.new.history.spare = omega (arith, c.push.ensures.spare, c.in_ok-reserve.ensures.ok, room, c.evict.ensures.spare) in
    rw (settings, grown, c.evict.ensures.flushed)
    (evicted_manager c.self.inside.history.setting (c.self.inside.history.entries ++ Answer c.args.who c.args.sources.value ∷ []) c.push.new.self.spare c.evict.new.history.spare c.self.inside.facts c.self.inside.shelf.flushed c.self.inside.shelf.loads c.evict.new.shelf.loads (has_places c.self.inside.shelf) (has_places c.evict.new.shelf) c.self.inside.flights.flights c.self.inside.installed loads
    (answered c.self.inside.history.setting c.self.inside.history.entries c.self.inside.facts c.self.inside.shelf.flushed c.self.inside.shelf.loads (has_places c.self.inside.shelf) c.self.inside.flights.flights c.self.inside.installed c.steps_are_legal.ensures c.self.inside.history.spare c.push.new.self.spare c.args.who c.args.sources.value c.self.invariant
    (omega (arith, c.push.ensures.spare, c.in_ok-reserve.ensures.ok, c.in_ok-room_for.ensures)))
    (rw (settings, grown) at c.steps_are_legal-2.ensures) (rw (settings, grown) at c.evict.ensures.kept) left (c.evict.ensures.places (headers_of c.self.inside.flights.flights) c.self.invariant.places_fit))

pub returns-clause-entries : goal.returns-clause-entries
returns-clause-entries c =
    let (loads, more) = c.evict.ensures.evicted in
    record {
      evicted = loads;
      setting = c.evict.ensures.setting ∙ c.push.ensures.setting ∙ c.reserve.ensures.setting ∙ ap (λ (k : CacheOf). k.setting) c.self.view_is;
      entries = more
          ∙ ap (λ (es : List Entry). es ++ map Evict loads)
          (c.push.ensures.entries ∙ ap (λ (es : List Entry). es ++ Answer c.args.who c.args.sources.value ∷ []) (c.reserve.ensures.entries ∙ ap (λ (k : CacheOf). k.entries) c.self.view_is))
          ∙ append_assoc c.args.self.now.entries (Answer c.args.who c.args.sources.value ∷ []) (map Evict loads);
      within = c.evict.ensures.within;
    }
