-- A file has no fault exactly where it is right.
use Rattle.agg_tables.proofs.RightFacts.{right_files}
use Rattle.agg_tables.proofs.laws.right_files_have_no_fault.Goals as goal

pub returns : goal.returns
returns c = right_files
