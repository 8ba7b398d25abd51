-- A run in which nothing has failed is complete.
use Rattle.olap_server.proofs.CompleteFacts.{run_complete}
use Rattle.olap_server.proofs.laws.runs_are_complete.Goals as goal

pub returns : goal.returns
returns g c =
    λ given files all command opening start finish steps_before steps_after history status runs asks answers opens unread none memory replies.
    run_complete _ given files all command opening start finish steps_before steps_after history status runs asks answers opens unread none memory replies
