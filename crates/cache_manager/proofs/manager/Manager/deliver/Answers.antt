-- A load of its own may be delivered, and the manager keeps what its history says.
use Rattle.std.proofs.Common.{◌∙◌, ap, refl, subst, sym}
use Rattle.olap_meaning.specs.History.{load_version}
use Rattle.history_core.specs.Cache.{CacheOf}
use Rattle.segment_index.proofs.PlaceFacts.{places_apart}
use Rattle.segment_index.specs.Index.{has_places}
use Rattle.cache_manager.specs.Jobs.{DeliveryOf, IsOwnBody}
use Rattle.cache_manager.specs.Kept.{headers_of}
use Rattle.cache_manager.proofs.Ends.{ends, flies, headers_own, in_flight, keeps, place_within, shut_of, spares, unkept}
use Rattle.cache_manager.proofs.Managing.{place_of_one, places_left}
use Rattle.cache_manager.proofs.Moves.{delivered}
use Rattle.cache_manager.proofs.manager.Manager.deliver.Goals as goal

pub version_in_flight-version-requires : goal.version_in_flight-version-requires
version_in_flight-version-requires c =
    let own : IsOwnBody c.args.self.now c.delivery.inside.segment.who c.delivery.inside.segment.load c.delivery.inside.segment.body = subst (λ (d : DeliveryOf). IsOwnBody c.args.self.now d.who d.load d.body) (sym c.delivery.view_is) c.requires.own in
    rw (← c.self.view_is) (flies _ c.self.inside.history _ _ c.self.view_is c.steps_are_legal.ensures own.load own.flies)

pub push-requires-clause-room : goal.push-requires-clause-room
push-requires-clause-room c =
    let own : IsOwnBody c.args.self.now c.delivery.inside.segment.who c.delivery.inside.segment.load c.delivery.inside.segment.body = subst (λ (d : DeliveryOf). IsOwnBody c.args.self.now d.who d.load d.body) (sym c.delivery.view_is) c.requires.own in
    spares _ _ _ _ c.self.view_is c.steps_are_legal.ensures own.load own.flies _ _ _ _ _ _ c.self.invariant

pub push-requires-clause-legal : goal.push-requires-clause-legal
push-requires-clause-legal c =
    let own : IsOwnBody c.args.self.now c.delivery.inside.segment.who c.delivery.inside.segment.load c.delivery.inside.segment.body = subst (λ (d : DeliveryOf). IsOwnBody c.args.self.now d.who d.load d.body) (sym c.delivery.view_is) c.requires.own in
    ends _ c.self.inside.history _ _ c.self.view_is c.steps_are_legal.ensures own.load own.flies

pub end-place-requires : goal.end-place-requires
end-place-requires c =
    let own : IsOwnBody c.args.self.now c.delivery.inside.segment.who c.delivery.inside.segment.load c.delivery.inside.segment.body = subst (λ (d : DeliveryOf). IsOwnBody c.args.self.now d.who d.load d.body) (sym c.delivery.view_is) c.requires.own in
    in_flight _ c.self.inside.history _ _ c.self.view_is c.steps_are_legal.ensures own.load own.flies _ _ _ _ _ _ c.self.invariant

pub insert-requires-clause-place : goal.insert-requires-clause-place
insert-requires-clause-place c =
    let own : IsOwnBody c.args.self.now c.delivery.inside.segment.who c.delivery.inside.segment.load c.delivery.inside.segment.body = subst (λ (d : DeliveryOf). IsOwnBody c.args.self.now d.who d.load d.body) (sym c.delivery.view_is) c.requires.own in
    let there = in_flight _ c.self.inside.history _ _ c.self.view_is c.steps_are_legal.ensures own.load own.flies _ _ _ _ _ _ c.self.invariant in
    let its = headers_own _ c.self.inside.history _ _ _ c.self.view_is own c.self.inside.flights.flights c.self.invariant.flights_are in
    let (front, rest, headers, left) = place_of_one c.delivery.inside.segment.load c.delivery.inside.segment.body.header c.self.inside.flights.flights its there in
    (headers_of front, headers_of rest, subst (has_places c.self.inside.shelf) headers c.self.invariant.places_fit)

pub insert-requires-clause-another : goal.insert-requires-clause-another
insert-requires-clause-another c =
    let own : IsOwnBody c.args.self.now c.delivery.inside.segment.who c.delivery.inside.segment.load c.delivery.inside.segment.body = subst (λ (d : DeliveryOf). IsOwnBody c.args.self.now d.who d.load d.body) (sym c.delivery.view_is) c.requires.own in
    unkept _ c.self.inside.history _ _ c.self.view_is c.steps_are_legal.ensures own.load own.flies _ _ _ _ _ _ c.self.invariant

pub invariant_of-self : goal.invariant_of-self
invariant_of-self c =
    let own : IsOwnBody c.args.self.now c.delivery.inside.segment.who c.delivery.inside.segment.load c.delivery.inside.segment.body = subst (λ (d : DeliveryOf). IsOwnBody c.args.self.now d.who d.load d.body) (sym c.delivery.view_is) c.requires.own in
    let there = in_flight _ c.self.inside.history _ _ c.self.view_is c.steps_are_legal.ensures own.load own.flies _ _ _ _ _ _ c.self.invariant in
    let its = headers_own _ c.self.inside.history _ _ _ c.self.view_is own c.self.inside.flights.flights c.self.invariant.flights_are in
    let (front, rest, headers, left) = place_of_one c.delivery.inside.segment.load c.delivery.inside.segment.body.header c.self.inside.flights.flights its there in
    rw (c.push.ensures.setting, c.push.ensures.entries, c.end-place.ensures.flights, c.insert.ensures.loads, c.insert.ensures.flushed)
    (delivered _ _ _ _ _ (has_places c.self.inside.shelf) _ _ c.steps_are_legal.ensures _ _ (has_places c.insert.new.self) c.delivery.inside.segment.who c.delivery.inside.segment.load _ c.self.invariant (flies _ c.self.inside.history _ _ c.self.view_is c.steps_are_legal.ensures own.load own.flies) c.push.ensures.spare
    (places_left c.delivery.inside.segment.load (has_places c.insert.new.self) (places_apart c.insert.new.self) c.self.inside.flights.flights front rest left
    (c.insert.ensures.places (headers_of front) (headers_of rest) (subst (has_places c.self.inside.shelf) headers c.self.invariant.places_fit))) refl
    (keeps _ c.self.inside.history c.delivery.inside.segment.who c.delivery.inside.segment.load _ _ _ c.self.view_is c.steps_are_legal.ensures own (ap (λ (k : CacheOf). load_version k.entries c.delivery.inside.segment.load) c.self.view_is ∙ c.version_in_flight-version.ensures) c.header-header.ensures.well_formed
    (shut_of _ c.self.inside.history _ _ c.self.view_is c.steps_are_legal.ensures own.load own.flies _ _ _ _ _ _ c.self.invariant c.end-place.result _ c.end-place.ensures.place (sym own.holds.own_header))))

pub insert-requires-clause-since : goal.insert-requires-clause-since
insert-requires-clause-since c =
    let own : IsOwnBody c.args.self.now c.delivery.inside.segment.who c.delivery.inside.segment.load c.delivery.inside.segment.body = subst (λ (d : DeliveryOf). IsOwnBody c.args.self.now d.who d.load d.body) (sym c.delivery.view_is) c.requires.own in
    place_within _ c.self.inside.history _ _ c.self.view_is c.steps_are_legal.ensures own.load own.flies _ _ _ _ _ _ c.self.invariant c.end-place.result c.end-place.ensures.place
