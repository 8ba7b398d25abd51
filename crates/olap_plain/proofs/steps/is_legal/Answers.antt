-- That `is_legal` ensures what it says and keeps what holds at each turn.
use Rattle.std.proofs.Common.{refl, arith}
use Rattle.std.proofs.lemmas.Bool.{both_ways}
use Rattle.olap_plain.proofs.StepFacts.{steps_on, step_fails, steps_all}
use Rattle.olap_plain.proofs.steps.is_legal.Goals as goal

pub loop-i-preserved : goal.loop-i-preserved
loop-i-preserved c =
    steps_on c.args.setting.now c.args.history.now c.loop-i.i c.index-history-i.result c.loop-i-test.true c.index-history-i.is c.loop-i.invariant (c.legal_step-legal_here.ensures.0 c.if-not-legal_here.false)

pub returns-then-not-legal_here : goal.returns-then-not-legal_here
returns-then-not-legal_here c =
    (λ h. absurd (cc), λ legal. absurd (both_ways _ c.if-not-legal_here.true (c.legal_step-legal_here.ensures.1 (step_fails c.args.setting.now c.args.history.now c.loop-i.i c.index-history-i.result c.loop-i-test.true c.index-history-i.is legal))))

pub returns : goal.returns
returns c = (λ h. steps_all c.args.setting.now c.args.history.now c.loop-i.i (omega arith) c.loop-i.invariant, λ legal. refl)
