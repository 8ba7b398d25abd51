-- That `holds` ensures what it says.
use Rattle.std.proofs.Common.{◌∙◌}
use Rattle.segment_header.proofs.RiseFacts.{search_tells}
use Rattle.segment_header.proofs.values.holds.Goals as goal

pub returns-else-stands_at : goal.returns-else-stands_at
returns-else-stands_at c = c.is_ok.ensures.value ∙ search_tells c.args.values.now c.args.value c.binary_search.result c.requires c.binary_search.ensures.bound c.binary_search.ensures.position
