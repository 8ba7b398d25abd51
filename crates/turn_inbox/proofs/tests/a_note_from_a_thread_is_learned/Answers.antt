use Rattle.turn_inbox.proofs.tests.a_note_from_a_thread_is_learned.Goals as goal

pub hand_over_in_row-front-requires-clause-here : goal.hand_over_in_row-front-requires-clause-here
hand_over_in_row-front-requires-clause-here g c κs = λ s a. (c.in-Ok.ensures.each s a).0
