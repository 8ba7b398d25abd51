use Rattle.std.proofs.Common.{sym, ap, ◌∙◌}
use Rattle.turn_inbox.specs.Entries.{count_from}
use Rattle.turn_inbox.proofs.Rows.{numbered_all}
use Rattle.turn_inbox.proofs.tests.open_and_close.Goals as goal

pub close-requires-clause-here : goal.close-requires-clause-here
close-requires-clause-here c = λ s a. (c.in-Ok.ensures.each s a).0

pub close-requires-clause-all : goal.close-requires-clause-all
close-requires-clause-all c = numbered_all _ _ _ (c.in-Ok.ensures.numbers ∙ ap (count_from 1) (sym c.in-Ok.ensures.inbox.0))

pub returns-in-Ok : goal.returns-in-Ok
returns-in-Ok c =
    let w = c.close.ensures.whole in
    record { marks = sym w.2 ∙ (c.in-Ok.ensures.each w.0 w.1).1 }
