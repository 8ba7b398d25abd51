-- That `have_same` ensures what it says.
use Rattle.olap_plain.proofs.GroupFacts.{all_same}
use Rattle.olap_plain.proofs.budget.have_same.Goals as goal

pub returns : goal.returns
returns c = all_same c.args.catalog.now c.args.header.now c.args.one.now c.args.other.now c.as_slice.result.now c.are_same_values.result c.as_slice.ensures c.are_same_values.ensures
