-- That the least number is that of the oldest load.
use Rattle.segment_index.proofs.LeftFacts.{oldest_of}
use Rattle.segment_index.proofs.LoadFacts.{loads_of}
use Rattle.segment_index.proofs.loads.Loads.oldest.Goals as goal

pub returns : goal.returns
returns c = rw (← c.self.view_is) (oldest_of (loads_of c.self.inside.shut.regions c.self.inside.by_number.entries) c.self.inside.numbers.items c.least.result c.self.invariant.2 c.least.ensures)
