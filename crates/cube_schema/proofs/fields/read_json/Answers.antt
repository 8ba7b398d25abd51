-- That `read_json` ensures `ok` and `err`.
use Rattle.std.proofs.Common.{inr, refl, rules}
use Rattle.serde_json.specs.View.{view}
use Rattle.serde_json.specs.Errors.{IsMemory}
use Rattle.cube_schema.proofs.JsonFacts.{json-read, json-refused}
use Rattle.cube_schema.proofs.fields.read_json.Goals as goal

pub returns-in-Ok-clause-ok : goal.returns-in-Ok-clause-ok
returns-in-Ok-clause-ok c = json-read c.args.bytes.now (view c.in-Ok.value) c.in-Ok.ensures.ok.0 c.in-Ok.ensures.ok.1

pub returns-else-is_memory-clause-err : goal.returns-else-is_memory-clause-err
returns-else-is_memory-clause-err c =
    let other : IsMemory c.in-Err.error → ⊥ = search (rules, c.if-is_memory.ensures, c.if-is_memory.false) in
    inr (refl, json-refused c.args.bytes.now (c.in-Err.ensures.err other))
