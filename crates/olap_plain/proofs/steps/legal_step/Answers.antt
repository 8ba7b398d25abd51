-- That `legal_step` ensures what it says.
use Rattle.olap_plain.specs.Entries.{entries}
use Rattle.olap_plain.proofs.StepFacts.{step_of}
use Rattle.olap_plain.proofs.steps.legal_step.Goals as goal

pub returns-in-Append : goal.returns-in-Append
returns-in-Append c = step_of c.args.setting.now (entries c.args.history.now) c.args.entry.now _ c.is_legal_append.result c.in-Append.is c.is_legal_append.ensures

pub returns-in-Agg : goal.returns-in-Agg
returns-in-Agg c = step_of c.args.setting.now (entries c.args.history.now) c.args.entry.now _ c.is_legal_agg.result c.in-Agg.is c.is_legal_agg.ensures

pub returns-in-Start : goal.returns-in-Start
returns-in-Start c = step_of c.args.setting.now (entries c.args.history.now) c.args.entry.now _ c.is_legal_start.result c.in-Start.is c.is_legal_start.ensures

pub returns-in-Done : goal.returns-in-Done
returns-in-Done c = step_of c.args.setting.now (entries c.args.history.now) c.args.entry.now _ c.is_legal_end.result c.in-Done.is c.is_legal_end.ensures

pub returns-in-Drop : goal.returns-in-Drop
returns-in-Drop c = step_of c.args.setting.now (entries c.args.history.now) c.args.entry.now _ c.is_legal_end-in-Drop.result c.in-Drop.is c.is_legal_end-in-Drop.ensures

pub returns-in-Evict : goal.returns-in-Evict
returns-in-Evict c = step_of c.args.setting.now (entries c.args.history.now) c.args.entry.now _ c.is_legal_eviction.result c.in-Evict.is c.is_legal_eviction.ensures
