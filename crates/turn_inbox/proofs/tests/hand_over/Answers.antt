use Rattle.std.proofs.Common.{◌∙◌}
use Rattle.turn_inbox.proofs.Rows.{two_of}
use Rattle.turn_inbox.proofs.tests.hand_over.Goals as goal

pub close-requires-clause-all : goal.close-requires-clause-all
close-requires-clause-all g c =
    let n = c.requires.numbers in
    two_of _ _ _ _ _ (λ s. s.number) _ c.push_reserved-2.ensures.items c.push_reserved.ensures.items (c.join-one.ensures.first.0 ∙ n.0) (c.front-second.ensures.same.0 ∙ (c.learn-second.ensures.same.0 ∙ (c.join-one.ensures.second.0 ∙ n.1))) n.2
