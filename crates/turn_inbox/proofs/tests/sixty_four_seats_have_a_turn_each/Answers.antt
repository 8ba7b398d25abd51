use Rattle.turn_inbox.proofs.tests.sixty_four_seats_have_a_turn_each.Goals as goal

pub mark_by_all-ledger-requires-clause-here : goal.mark_by_all-ledger-requires-clause-here
mark_by_all-ledger-requires-clause-here g c = λ s a. (c.in-Ok-new.ensures.each s a).0
