-- That `run_call` ensures `reply`.
use Rattle.manager_calls.proofs.calls.run_call.Goals as goal

pub returns-in-Deliver-clause-reply : goal.returns-in-Deliver-clause-reply
returns-in-Deliver-clause-reply g c = rw c.in-Deliver.is (c.run_delivery.ensures.reply c.args.number)

pub returns-in-Abandon-clause-reply : goal.returns-in-Abandon-clause-reply
returns-in-Abandon-clause-reply g c = rw c.in-Abandon.is (c.run_abandonment.ensures.reply c.args.number)

pub returns-in-Deliver-clause-at_least : goal.returns-in-Deliver-clause-at_least
returns-in-Deliver-clause-at_least g c = rw c.in-Deliver.is (c.run_delivery.ensures.at_least c.args.number)

pub returns-in-Deliver-clause-at_most : goal.returns-in-Deliver-clause-at_most
returns-in-Deliver-clause-at_most g c = rw c.in-Deliver.is (c.run_delivery.ensures.at_most c.args.number)
