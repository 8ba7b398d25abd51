-- A load of its own may be dropped, and the manager keeps what its history says.
use Rattle.std.proofs.Common.{◌≡◌, ◌∙◌, ap, subst}
use Rattle.segment_load.specs.Loads.{JobOf}
use Rattle.segment_index.proofs.PlaceFacts.{places_apart}
use Rattle.segment_index.specs.Index.{has_places}
use Rattle.cache_manager.specs.Kept.{headers_of}
use Rattle.cache_manager.proofs.Ends.{ends, flies, header_there, in_flight, place_in_flight, spares}
use Rattle.cache_manager.proofs.Managing.{places_left}
use Rattle.cache_manager.proofs.Moves.{dropped}
use Rattle.cache_manager.proofs.manager.Manager.abandon.Goals as goal

pub push-requires-clause-room : goal.push-requires-clause-room
push-requires-clause-room c = spares _ _ _ _ c.self.view_is c.steps_are_legal.ensures c.requires.own.0 c.requires.own.1 _ _ _ _ _ _ c.self.invariant

pub push-requires-clause-legal : goal.push-requires-clause-legal
push-requires-clause-legal c =
    let load : c.load-load.result ≡ c.args.job.load = c.load-load.ensures ∙ ap (λ (j : JobOf). j.load) c.job.view_is in
    let who : c.who.result ≡ c.args.job.who = c.who.ensures ∙ ap (λ (j : JobOf). j.who) c.job.view_is in
    rw (who, load) (ends _ c.self.inside.history _ _ c.self.view_is c.steps_are_legal.ensures c.requires.own.0 c.requires.own.1)

pub unwrap-requires : goal.unwrap-requires
unwrap-requires c =
    let load : c.load-load.result ≡ c.args.job.load = c.load-load.ensures ∙ ap (λ (j : JobOf). j.load) c.job.view_is in
    header_there c.self.inside.history.entries c.args.job.load c.self.inside.flights.flights c.self.invariant.flights_are
    (in_flight _ c.self.inside.history _ _ c.self.view_is c.steps_are_legal.ensures c.requires.own.0 c.requires.own.1 _ _ _ _ _ _ c.self.invariant) c.header.result (rw load at c.header.ensures)

pub release-requires : goal.release-requires
release-requires c =
    let load : c.load-load.result ≡ c.args.job.load = c.load-load.ensures ∙ ap (λ (j : JobOf). j.load) c.job.view_is in
    let (front, rest, headers, left) =
    place_in_flight c.self.inside.history.entries c.args.job.load c.self.inside.flights.flights c.self.invariant.flights_are
    (in_flight _ c.self.inside.history _ _ c.self.view_is c.steps_are_legal.ensures c.requires.own.0 c.requires.own.1 _ _ _ _ _ _ c.self.invariant) c.header.result (rw load at c.header.ensures) c.unwrap.result c.unwrap.ensures in
    record { place = (headers_of front, headers_of rest, subst (has_places c.self.inside.shelf) headers c.self.invariant.places_fit) }

pub end-requires : goal.end-requires
end-requires c =
    let load : c.load-load.result ≡ c.args.job.load = c.load-load.ensures ∙ ap (λ (j : JobOf). j.load) c.job.view_is in
    rw load (in_flight _ c.self.inside.history _ _ c.self.view_is c.steps_are_legal.ensures c.requires.own.0 c.requires.own.1 _ _ _ _ _ _ c.self.invariant)

pub invariant_of-self : goal.invariant_of-self
invariant_of-self c =
    let load : c.load-load.result ≡ c.args.job.load = c.load-load.ensures ∙ ap (λ (j : JobOf). j.load) c.job.view_is in
    let who : c.who.result ≡ c.args.job.who = c.who.ensures ∙ ap (λ (j : JobOf). j.who) c.job.view_is in
    let (front, rest, headers, left) =
    place_in_flight c.self.inside.history.entries c.args.job.load c.self.inside.flights.flights c.self.invariant.flights_are
    (in_flight _ c.self.inside.history _ _ c.self.view_is c.steps_are_legal.ensures c.requires.own.0 c.requires.own.1 _ _ _ _ _ _ c.self.invariant) c.header.result (rw load at c.header.ensures) c.unwrap.result c.unwrap.ensures in
    rw (c.push.ensures.setting, c.push.ensures.entries, c.release.ensures.loads, c.release.ensures.flushed, c.end.ensures.flights, who, load)
    (dropped _ _ _ _ _ (has_places c.self.inside.shelf) _ _ c.steps_are_legal.ensures _ _ (has_places c.release.new.self) c.args.job.who c.args.job.load c.self.invariant (flies _ c.self.inside.history _ _ c.self.view_is c.steps_are_legal.ensures c.requires.own.0 c.requires.own.1) c.push.ensures.spare
    (places_left c.args.job.load (has_places c.release.new.self) (places_apart c.release.new.self) c.self.inside.flights.flights front rest left
    (c.release.ensures.places (headers_of front) (headers_of rest) (subst (has_places c.self.inside.shelf) headers c.self.invariant.places_fit))))
