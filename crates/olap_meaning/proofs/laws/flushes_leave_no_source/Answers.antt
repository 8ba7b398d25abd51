-- That `flushes_leave_no_source` ensures what it says.
use Rattle.olap_meaning.proofs.RolledSources.{flushes_leave_no_source}
use Rattle.olap_meaning.proofs.laws.flushes_leave_no_source.Goals as goal

pub returns : goal.returns
returns c = flushes_leave_no_source
