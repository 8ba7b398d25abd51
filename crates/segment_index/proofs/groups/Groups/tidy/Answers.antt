-- That only a key goes that has nothing left.
use Rattle.segment_index.proofs.GroupFacts.{HasRoom, loads-gone, places-gone, shown, spent-loads, spent-lookup, spent-places, spent_or_none}
use Rattle.segment_index.proofs.SwapFacts.{all_swapped}
use Rattle.std.proofs.Common.{◌≡◌, ◌∙◌, None, ap, nat_eq, refl, sym}
use Rattle.std.proofs.lemmas.Bool.{eq-eqb}
use Rattle.std.specs.Map.{lookup}
use Rattle.segment_index.proofs.groups.Groups.tidy.Goals as goal

pub invariant_of-self : goal.invariant_of-self
invariant_of-self c = rw c.forget.ensures.entries (all_swapped HasRoom (nat_eq c.args.key) c.self.inside.by_key.entries c.self.invariant)

pub returns-then-is_spent-clause-still : goal.returns-then-is_spent-clause-still
returns-then-is_spent-clause-still c =
    let spent = rw (← c.self.view_is) at (sym c.is_spent.ensures ∙ c.if-is_spent.true) in
    let no_loads = spent-loads (shown c.self.inside.by_key.entries) c.args.key spent in
    let no_places = spent-places (shown c.self.inside.by_key.entries) c.args.key spent in
    rw (← c.self.view_is) (record {
      loads = loads-gone c.self.inside.by_key.entries c.forget.new.by_key.entries c.args.key c.forget.ensures.others no_loads;
      places = places-gone c.self.inside.by_key.entries c.forget.new.by_key.entries c.args.key c.forget.ensures.others no_places;
    })

pub returns-then-is_spent-clause-unspent : goal.returns-then-is_spent-clause-unspent
returns-then-is_spent-clause-unspent c =
    let none : lookup (nat_eq c.args.key) c.forget.new.by_key.entries ≡ None = c.forget.ensures.others c.args.key ∙ rw (eq-eqb c.args.key c.args.key refl) refl in
    spent-lookup c.forget.new.by_key.entries c.args.key ∙ ap spent_or_none none
