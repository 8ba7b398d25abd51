-- That `get` ensures what it says.
use Rattle.segment_index.proofs.LoadFacts.{load_looked}
use Rattle.segment_index.proofs.loads.Loads.get.Goals as goal

pub returns : goal.returns
returns c = rw (← c.self.view_is, c.get.ensures.value) (load_looked c.self.inside.shut.regions c.self.inside.by_number.entries c.args.load c.self.invariant.0)
