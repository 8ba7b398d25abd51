-- That `sought` ensures what it says.
use Rattle.std.proofs.Common.{◌∙◌, bytes_eq}
use Rattle.segment_body.proofs.MapFacts.{position_groups}
use Rattle.segment_body.proofs.group.GroupTable.sought.Goals as goal

pub returns : goal.returns
returns c = rw (← c.self.view_is) (c.get_index_of.ensures.index ∙ position_groups (λ key. key) (bytes_eq c.args.values.now) c.self.inside.tallies.entries)
