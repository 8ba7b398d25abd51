-- The session is that of the call.
use Rattle.olap_server.proofs.RunFacts.{where_history}
use Rattle.olap_server.proofs.counted.carry_out.Goals as goal

pub returns-clause-session : goal.returns-clause-session
returns-clause-session g c = where_history c.run.result.history _ _ (λ history told. told.0) c.run.ensures.session
