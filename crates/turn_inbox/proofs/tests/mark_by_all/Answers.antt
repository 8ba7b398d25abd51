use Rattle.std.proofs.Common.{rules, ◌≡◌, ◌∙◌, length}
use Rattle.turn_inbox.proofs.Rows.{numbered_all, numbered_length}
use Rattle.turn_inbox.proofs.tests.mark_by_all.Goals as goal

pub mark_each-done-requires-clause-room : goal.mark_each-done-requires-clause-room
mark_each-done-requires-clause-room g c =
    let n : length c.args.seats.items ≡ c.args.inbox.seats = numbered_length _ _ _ c.requires.numbers in
    search rules

pub close-requires-clause-all : goal.close-requires-clause-all
close-requires-clause-all g c = λ k lo hi.
    let s = numbered_all _ _ _ c.requires.numbers k lo hi in
    let t = c.mark_each-done.ensures.each s.0 s.1 in
    (t.0, t.1, t.2 ∙ s.2)
