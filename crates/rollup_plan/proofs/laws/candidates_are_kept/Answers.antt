-- That `candidates_are_kept` ensures what it says.
use Rattle.rollup_plan.proofs.CandidateFacts as facts
use Rattle.rollup_plan.proofs.laws.candidates_are_kept.Goals as goal

pub returns : goal.returns
returns g c = facts.candidates_are_kept (g.S.Shelf.loads c.args.shelf.now) c.numbers_differ.ensures
