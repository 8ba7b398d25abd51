-- That `crossed_plan` ensures `listed` and `own` where there are no tuples.
use Rattle.std.proofs.Common.{◌∙◌, flat_map, ap, sym}
use Rattle.std.proofs.lemmas.List.Elements.{All-nil, All-same}
use Rattle.cell_request.specs.Plans.{listed, pairs_of, IsPlanOf}
use Rattle.cell_request.proofs.Counts.{none_told}
use Rattle.cell_request.proofs.PlanFacts.{joined_listed, joined_own}
use Rattle.cell_request.proofs.parts.crossed_plan.Goals as goal

pub returns-then-count-eq0-clause-listed : goal.returns-then-count-eq0-clause-listed
returns-then-count-eq0-clause-listed c = λ catalog cube is.
    joined_listed catalog cube c.new.result
    ∙ ap (flat_map (listed catalog cube)) c.new.ensures.items
    ∙ sym (none_told (pairs_of catalog cube c.args.first c.args.second) (sym is ∙ c.if-count-eq0.true))

pub returns-then-count-eq0-clause-own : goal.returns-then-count-eq0-clause-own
returns-then-count-eq0-clause-own c = λ catalog cube one other. joined_own catalog cube c.new.result (All-same (IsPlanOf catalog cube) _ _ c.new.ensures.items (All-nil (IsPlanOf catalog cube)))
