-- That `is_spent` ensures what it says.
use Rattle.std.proofs.Common.{◌≡◌, ◌∙◌, Some, ap, false, nat_eq, option_copied, sym, true}
use Rattle.std.specs.Prelude.{◌==◌, ◌&&◌, length}
use Rattle.std.specs.Map.{lookup}
use Rattle.segment_index.proofs.GroupFacts.{spent-lookup, spent_or_none}
use Rattle.segment_index.proofs.groups.Groups.is_spent.Goals as goal

pub returns-then-is_empty : goal.returns-then-is_empty
returns-then-is_empty c =
    let group = c.in-Some.group.now in
    let had : lookup (nat_eq c.args.key) c.self.inside.by_key.entries ≡ Some group = sym c.get.ensures.value ∙ ap option_copied c.in-Some.is in
    let empty : (length group.loads.items == 0) ≡ true = sym c.is_empty.ensures ∙ c.if-is_empty.true in
    rw (← c.self.view_is) (sym (spent-lookup c.self.inside.by_key.entries c.args.key ∙ ap spent_or_none had ∙ ap (λ b. b && (group.places == 0)) empty))

pub returns-else-is_empty : goal.returns-else-is_empty
returns-else-is_empty c =
    let group = c.in-Some.group.now in
    let had : lookup (nat_eq c.args.key) c.self.inside.by_key.entries ≡ Some group = sym c.get.ensures.value ∙ ap option_copied c.in-Some.is in
    let filled : (length group.loads.items == 0) ≡ false = sym c.is_empty.ensures ∙ c.if-is_empty.false in
    rw (← c.self.view_is, c.if-is_empty.false) (sym (spent-lookup c.self.inside.by_key.entries c.args.key ∙ ap spent_or_none had ∙ ap (λ b. b && (group.places == 0)) filled))

pub returns-in-None : goal.returns-in-None
returns-in-None c =
    rw (← c.self.view_is) (sym (spent-lookup c.self.inside.by_key.entries c.args.key ∙ ap spent_or_none (sym c.get.ensures.value ∙ ap option_copied c.in-None.is)))
