-- That `has_place` ensures what it says.
use Rattle.std.proofs.Common.{◌≡◌, ◌∙◌, Some, None, ap, nat_eq, option_copied, refl, sym}
use Rattle.std.specs.Map.{lookup}
use Rattle.segment_index.proofs.GroupFacts.{places-lookup}
use Rattle.segment_index.proofs.groups.Groups.has_place.Goals as goal

pub returns-in-Some : goal.returns-in-Some
returns-in-Some c =
    let had : lookup (nat_eq c.args.key) c.self.inside.by_key.entries ≡ Some c.in-Some.group.now = sym c.get.ensures.value ∙ ap option_copied c.in-Some.is in
    rw (← c.self.view_is, places-lookup c.self.inside.by_key.entries c.args.key, had) refl

pub returns-in-None : goal.returns-in-None
returns-in-None c =
    let had : lookup (nat_eq c.args.key) c.self.inside.by_key.entries ≡ None = sym c.get.ensures.value ∙ ap option_copied c.in-None.is in
    rw (← c.self.view_is, places-lookup c.self.inside.by_key.entries c.args.key, had) refl
