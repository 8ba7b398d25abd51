use Rattle.turn_inbox.proofs.Rows.{was_last, was_before}
use Rattle.turn_inbox.proofs.tests.hand_over_in_row.Goals as goal

pub hand_over-requires-clause-here : goal.hand_over-requires-clause-here
hand_over-requires-clause-here g c = λ _ _.
    let p = c.in-Some.ensures.items in
    let q = c.in-Some-first.ensures.items in
    (c.requires.here c.in-Some-first.first (was_before _ _ _ p _ (was_last _ _ _ q)), c.requires.here c.in-Some.second (was_last _ _ _ p))
