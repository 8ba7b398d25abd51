-- That `plans_roll` ensures what it says.
use Rattle.rollup_plan.proofs.LawFacts as facts
use Rattle.rollup_plan.proofs.laws.plans_roll.Goals as goal

pub returns : goal.returns
returns c = facts.plans_roll
