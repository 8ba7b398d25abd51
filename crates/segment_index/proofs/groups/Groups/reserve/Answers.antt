-- That `reserve` ensures what it says.
use Rattle.std.proofs.Common.{◌≡◌, ◌∙◌, ap, sym, Some, None, nat_eq, rules}
use Rattle.std.specs.Option.{option_copied_mut}
use Rattle.std.specs.Map.{lookup}
use Rattle.std.proofs.lemmas.Result.{on_ok_weaker}
use Rattle.segment_index.proofs.GroupFacts.{err_weaker, loads-same, places-same, places-more, room-found, room-set, room-insert}
use Rattle.segment_index.proofs.groups.Groups.reserve.Goals as goal

pub reserve_one-requires : goal.reserve_one-requires
reserve_one-requires c =
    let had : lookup (nat_eq c.args.key) c.self.inside.by_key.entries ≡ Some c.in-Some.group.now = sym c.get_mut.ensures.value ∙ ap option_copied_mut c.in-Some.is in
    rw had at (room-found c.self.inside.by_key.entries c.args.key c.self.invariant)

pub invariant_of-self : goal.invariant_of-self
invariant_of-self c =
    rw (c.get_mut.follows.holds c.reserve_one.new.group).0 (room-set c.self.inside.by_key.entries c.args.key _ c.self.invariant c.reserve_one.ensures.room)

pub returns-in-Some-clause-ok : goal.returns-in-Some-clause-ok
returns-in-Some-clause-ok c =
    let had : lookup (nat_eq c.args.key) c.self.inside.by_key.entries ≡ Some c.in-Some.group.now = sym c.get_mut.ensures.value ∙ ap option_copied_mut c.in-Some.is in
    let written = (c.get_mut.follows.holds c.reserve_one.new.group).3 (search rules) in
    rw (← c.self.view_is) (on_ok_weaker c.reserve_one.result (λ more. record {
      loads = loads-same c.self.inside.by_key.entries _ c.args.key _ (Some c.in-Some.group.now) had written.0 c.reserve_one.ensures.loads;
      places = places-more c.self.inside.by_key.entries _ c.args.key _ (Some c.in-Some.group.now) had written.0 more;
    }) c.reserve_one.ensures.ok)

pub returns-in-Some-clause-err : goal.returns-in-Some-clause-err
returns-in-Some-clause-err c =
    let had : lookup (nat_eq c.args.key) c.self.inside.by_key.entries ≡ Some c.in-Some.group.now = sym c.get_mut.ensures.value ∙ ap option_copied_mut c.in-Some.is in
    let written = (c.get_mut.follows.holds c.reserve_one.new.group).3 (search rules) in
    rw (← c.self.view_is) (err_weaker c.reserve_one.result (λ same. record {
      loads = loads-same c.self.inside.by_key.entries _ c.args.key _ (Some c.in-Some.group.now) had written.0 c.reserve_one.ensures.loads;
      places = places-same c.self.inside.by_key.entries _ c.args.key _ (Some c.in-Some.group.now) had written.0 same;
    }) c.reserve_one.ensures.err)

pub invariant_of-self-2 : goal.invariant_of-self-2
invariant_of-self-2 c =
    let was = rw c.get_mut.follows.holds-at-none at c.in_ok-insert.ensures.entries in
    rw was (room-insert c.self.inside.by_key.entries c.args.key _ c.self.invariant c.in_ok-group.ensures.room)

pub returns-clause-ok : goal.returns-clause-ok
returns-clause-ok c =
    let had : lookup (nat_eq c.args.key) c.self.inside.by_key.entries ≡ None = sym c.get_mut.ensures.value ∙ ap option_copied_mut c.in_default.is in
    let updates = rw c.get_mut.follows.holds-at-none at c.in_ok-insert.ensures.updates in
    rw (← c.self.view_is) (record {
      loads = loads-same c.self.inside.by_key.entries _ c.args.key _ None had updates.0 c.in_ok-group.ensures.loads;
      places = places-more c.self.inside.by_key.entries _ c.args.key _ None had updates.0 c.in_ok-group.ensures.places;
    })
