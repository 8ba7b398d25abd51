-- That `take_place` takes a place, and leaves the loads.
use Rattle.std.proofs.Common.{◌≡◌, ◌∙◌, ◌+◌, ◌-◌, ◌≤◌, ◌<◌, ap, sym, refl, Some, None, nat_eq, rules, arith}
use Rattle.std.specs.Option.{option_copied_mut}
use Rattle.std.specs.Map.{lookup}
use Rattle.segment_index.proofs.GroupFacts.{loads-same, places-less, room-found, room-set, place-there, place-none}
use Rattle.segment_index.proofs.groups.Groups.take_place.Goals as goal

pub returns-in_default : goal.returns-in_default
returns-in_default c =
    let had : lookup (nat_eq c.args.key) c.self.inside.by_key.entries ≡ None = sym c.get_mut.ensures.value ∙ ap option_copied_mut c.in_default.is in
    let none : 0 < 0 = place-none c.self.inside.by_key.entries c.args.key had (rw (← c.self.view_is) at c.requires) in
    absurd (omega (arith, none))

pub overflow_sub-group : goal.overflow_sub-group
overflow_sub-group c =
    let had : lookup (nat_eq c.args.key) c.self.inside.by_key.entries ≡ Some c.in-Some.group.now = sym c.get_mut.ensures.value ∙ ap option_copied_mut c.in-Some.is in
    let some : 0 < c.in-Some.group.now.places = place-there c.self.inside.by_key.entries c.args.key _ had (rw (← c.self.view_is) at c.requires) in
    omega (arith, some)

pub invariant_of-self-2 : goal.invariant_of-self-2
invariant_of-self-2 c =
    let had : lookup (nat_eq c.args.key) c.self.inside.by_key.entries ≡ Some c.in-Some.group.now = sym c.get_mut.ensures.value ∙ ap option_copied_mut c.in-Some.is in
    let room : c.in-Some.group.now.places ≤ c.in-Some.group.now.loads.places = rw had at (room-found c.self.inside.by_key.entries c.args.key c.self.invariant) in
    rw (c.get_mut.follows.holds (record { loads = c.in-Some.group.now.loads; places = c.in-Some.group.now.places - 1 })).0 (room-set c.self.inside.by_key.entries c.args.key _ c.self.invariant (omega (arith, room)))

pub returns : goal.returns
returns c =
    let had : lookup (nat_eq c.args.key) c.self.inside.by_key.entries ≡ Some c.in-Some.group.now = sym c.get_mut.ensures.value ∙ ap option_copied_mut c.in-Some.is in
    let some : 0 < c.in-Some.group.now.places = place-there c.self.inside.by_key.entries c.args.key _ had (rw (← c.self.view_is) at c.requires) in
    let less : c.in-Some.group.now.places - 1 + 1 ≡ c.in-Some.group.now.places = omega (arith, some) in
    let written = (c.get_mut.follows.holds (record { loads = c.in-Some.group.now.loads; places = c.in-Some.group.now.places - 1 })).3 (search rules) in
    rw (← c.self.view_is) (record {
      loads = loads-same c.self.inside.by_key.entries _ c.args.key _ (Some c.in-Some.group.now) had written.0 refl;
      places = places-less c.self.inside.by_key.entries _ c.args.key _ (Some c.in-Some.group.now) had written.0 less;
    })
