-- That `is_next_call` ensures what it says.
use Rattle.std.proofs.Common.{sym, ◌∙◌}
use Rattle.olap_meaning.specs.Legal.{is_call_below, is_call_of}
use Rattle.olap_plain.proofs.StepFacts.{all_kept}
use Rattle.olap_plain.proofs.steps.is_next_call.Goals as goal

pub returns : goal.returns
returns c = c.calls_below.ensures ∙ sym (all_kept (is_call_below c.args.who.call) (is_call_of c.args.who.seat) c.args.history.now)
