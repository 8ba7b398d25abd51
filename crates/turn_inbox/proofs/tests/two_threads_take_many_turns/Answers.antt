use Rattle.turn_inbox.proofs.tests.two_threads_take_many_turns.Goals as goal

pub with_two-ledger-requires-clause-here : goal.with_two-ledger-requires-clause-here
with_two-ledger-requires-clause-here g c κs = λ s a. (c.in-Ok.ensures.each s a).0
