-- That `read_schema` ensures `whole`.
use Rattle.serde_json.specs.View.{view}
use Rattle.cube_schema.proofs.WholeFacts.{whole-if-ok}
use Rattle.cube_schema.proofs.top.read_schema.Goals as goal

pub returns-clause-whole : goal.returns-clause-whole
returns-clause-whole c = whole-if-ok (view c.in_ok-value.value) c.read_value.result c.read_value.ensures.ok
