use Rattle.std.proofs.Common.{refl}
use Rattle.turn_inbox.proofs.Marks.{nobodys}
use Rattle.turn_inbox.proofs.tests.marked_by_nobody.Goals as goal

pub returns : goal.returns
returns c = record { fresh = nobodys _ _ _ _ c.add-added.ensures.marks c.new-ledger.ensures.0 refl }
