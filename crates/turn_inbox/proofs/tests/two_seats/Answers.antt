use Rattle.turn_inbox.proofs.Rows.{was_last, was_before}
use Rattle.turn_inbox.proofs.tests.two_seats.Goals as goal

pub returns : goal.returns
returns c =
    let p = c.in-Some.ensures.items in
    let q = c.in-Some-first.ensures.items in
    ((c.in-Ok.ensures.each _ (was_before _ _ _ p _ (was_last _ _ _ q))).0, (c.in-Ok.ensures.each _ (was_last _ _ _ p)).0)
