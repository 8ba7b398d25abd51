-- One more legal step keeps the history legal.
use Rattle.history_core.proofs.EntryFacts.{legal_pushed}
use Rattle.history_core.proofs.history.History.push.Goals as goal

pub invariant_of-self : goal.invariant_of-self
invariant_of-self c = legal_pushed _ _ c.args.self.now c.self.inside.entries.items c.push_reserved.new.self.items c.args.entry c.self.view_is c.self.invariant c.requires.legal c.push_reserved.ensures.items
