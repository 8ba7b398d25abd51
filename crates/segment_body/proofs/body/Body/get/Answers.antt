-- That `get` ensures what it says.
use Rattle.std.proofs.Common.{◌∙◌, sym, ap}
use Rattle.segment_body.specs.Groups.{Group, group}
use Rattle.segment_body.proofs.GroupFacts.{group_found, row_found, row_missed, numbers_missed}
use Rattle.segment_body.proofs.body.Body.get.Goals as goal

pub returns-in-None-clause-found : goal.returns-in-None-clause-found
returns-in-None-clause-found c =
    rw (← c.self.view_is) (sym (row_missed _ _ _ _ c.self.invariant c.args.values.now (sym c.place_of.ensures ∙ c.in-None.is)))

pub returns-in-None-clause-none : goal.returns-in-None-clause-none
returns-in-None-clause-none c =
    rw (← c.self.view_is) (numbers_missed _ _ _ _ c.self.invariant c.args.values.now (sym c.place_of.ensures ∙ c.in-None.is))

pub returns-in-Some-clause-found : goal.returns-in-Some-clause-found
returns-in-Some-clause-found c =
    rw (← c.self.view_is) (sym (row_found _ _ _ _ c.self.invariant c.args.values.now c.in-Some.place (group c.at.result.0.now c.at.result.1.now) (sym c.place_of.ensures ∙ c.in-Some.is)))

pub returns-in-Some-clause-tally : goal.returns-in-Some-clause-tally
returns-in-Some-clause-tally c =
    let d : Group = group c.at.result.0.now c.at.result.1.now in
    rw (← c.self.view_is) (ap (λ (g : Group). g.tally) (c.at.ensures ∙ group_found _ _ _ _ c.self.invariant c.args.values.now c.in-Some.place d (sym c.place_of.ensures ∙ c.in-Some.is)))
