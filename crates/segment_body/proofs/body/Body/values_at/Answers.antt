-- That `values_at` ensures what it says.
use Rattle.std.proofs.Common.{◌∙◌, ap, sym, subst, List, ℕ}
use Rattle.std.specs.Prelude.{IsTrue}
use Rattle.segment_header.specs.Headers.{are_allowed}
use Rattle.segment_body.specs.Groups.{Group, group, placed_in}
use Rattle.segment_body.proofs.GroupFacts.{place_inside, values_allowed, values_there}
use Rattle.segment_body.proofs.body.Body.values_at.Goals as goal

pub at-requires : goal.at-requires
at-requires c =
    place_inside c.self.inside.header c.self.inside.aggregator c.self.inside.groups (placed_in c.self.inside.parts.items) c.self.invariant c.args.place (rw (← c.self.view_is) at c.requires)

pub returns-clause-values : goal.returns-clause-values
returns-clause-values c =
    let d : Group = group c.at.result.0.now c.at.result.1.now in
    rw (← c.self.view_is)
    (ap (λ (g : Group). g.values) c.at.ensures
    ∙ values_there c.self.inside.header c.self.inside.aggregator c.self.inside.groups (placed_in c.self.inside.parts.items) c.self.invariant c.args.place (rw (← c.self.view_is) at c.requires) d)

pub returns-clause-allowed : goal.returns-clause-allowed
returns-clause-allowed c =
    let d : Group = group c.at.result.0.now c.at.result.1.now in
    let inside = rw (← c.self.view_is) at c.requires in
    let same = ap (λ (g : Group). g.values) c.at.ensures
    ∙ values_there c.self.inside.header c.self.inside.aggregator c.self.inside.groups (placed_in c.self.inside.parts.items) c.self.invariant c.args.place inside d in
    rw (← c.self.view_is)
    (subst (λ (values : List ℕ). IsTrue (are_allowed c.self.inside.header values)) (sym same)
    (values_allowed c.self.inside.header c.self.inside.aggregator c.self.inside.groups (placed_in c.self.inside.parts.items) c.self.invariant c.args.place inside))
