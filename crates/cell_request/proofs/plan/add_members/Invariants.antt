-- What holds at each turn of `add_members`.
use Rattle.std.proofs.Common.{◌≡◌, ◌++◌, take}
use Rattle.cell_request.proofs.plan.add_members.Given as goal

abbrev pub invariant-loop-member : goal.invariant-loop-member
invariant-loop-member l = l.tuple ≡ l.initial.tuple ++ take l.member-index l.members
