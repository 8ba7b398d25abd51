-- That `has_group` ensures what it says.
use Rattle.olap_plain.proofs.GroupFacts.{all_there}
use Rattle.olap_plain.proofs.budget.has_group.Goals as goal

pub returns : goal.returns
returns c = all_there c.args.catalog.now c.args.header.now c.args.row.now c.as_slice.result.now c.has_values.result c.as_slice.ensures c.has_values.ensures
