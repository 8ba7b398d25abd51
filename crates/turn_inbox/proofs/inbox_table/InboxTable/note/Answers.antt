use Rattle.std.proofs.Common.{rules}
use Rattle.turn_inbox.proofs.Moves.{copies_at}
use Rattle.turn_inbox.proofs.inbox_table.InboxTable.note.Goals as goal

pub split_seat-copy-requires : goal.split_seat-copy-requires
split_seat-copy-requires g c = (search rules, search rules, copies_at _ _ _ _ _ _ _ _)
