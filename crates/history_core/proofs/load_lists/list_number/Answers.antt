-- That `list_number` ensures what it says of a list that is added.
use Rattle.std.proofs.Common.{◌∙◌}
use Rattle.history_core.proofs.PackFacts.{added_kept, added_number}
use Rattle.history_core.proofs.load_lists.list_number.Goals as goal

pub returns-2-clause-number : goal.returns-2-clause-number
returns-2-clause-number c =
    added_number c.add.result c.args.lists.now c.add.new.self c.from_vec-list.result c.args.loads.now (c.from_vec-list.ensures ∙ c.in_ok-from_slice.ensures.items) c.add.ensures.number c.add.ensures.ok

pub returns-2-clause-kept : goal.returns-2-clause-kept
returns-2-clause-kept c = added_kept c.add.result c.args.lists.now c.add.new.self c.from_vec-list.result c.add.ensures.ok c.add.ensures.err
