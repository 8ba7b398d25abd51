-- That `take_load` takes the load out, and leaves the places.
use Rattle.std.proofs.Common.{◌≡◌, ◌∙◌, ◌≤◌, ap, sym, refl, Some, None, nat_eq, rules, arith}
use Rattle.std.specs.Option.{option_copied_mut}
use Rattle.std.specs.Map.{lookup}
use Rattle.segment_index.proofs.GroupFacts.{members-taken, none-taken, places-same, room-found, room-set}
use Rattle.segment_index.proofs.groups.Groups.take_load.Goals as goal

pub returns-in_default : goal.returns-in_default
returns-in_default c =
    let had : lookup (nat_eq c.args.key) c.self.inside.by_key.entries ≡ None = sym c.get_mut.ensures.value ∙ ap option_copied_mut c.in_default.is in
    rw (c.get_mut.follows.holds-at-none, ← c.self.view_is) (record { loads = none-taken c.self.inside.by_key.entries c.args.key c.args.load had; places = λ q. refl })

pub invariant_of-self-2 : goal.invariant_of-self-2
invariant_of-self-2 c =
    let had : lookup (nat_eq c.args.key) c.self.inside.by_key.entries ≡ Some c.in-Some.group.now = sym c.get_mut.ensures.value ∙ ap option_copied_mut c.in-Some.is in
    let room : c.in-Some.group.now.places ≤ c.in-Some.group.now.loads.places = rw had at (room-found c.self.inside.by_key.entries c.args.key c.self.invariant) in
    rw (c.get_mut.follows.holds (record { loads = c.remove.new.self; places = c.in-Some.group.now.places })).0
    (room-set c.self.inside.by_key.entries c.args.key _ c.self.invariant (omega (arith, room, c.remove.ensures.places)))

pub returns : goal.returns
returns c =
    let had : lookup (nat_eq c.args.key) c.self.inside.by_key.entries ≡ Some c.in-Some.group.now = sym c.get_mut.ensures.value ∙ ap option_copied_mut c.in-Some.is in
    let written = (c.get_mut.follows.holds (record { loads = c.remove.new.self; places = c.in-Some.group.now.places })).3 (search rules) in
    rw (← c.self.view_is) (record {
      loads = members-taken c.self.inside.by_key.entries _ c.args.key _ (Some c.in-Some.group.now) had written.0 c.args.load c.remove.ensures.members;
      places = places-same c.self.inside.by_key.entries _ c.args.key _ (Some c.in-Some.group.now) had written.0 refl;
    })
