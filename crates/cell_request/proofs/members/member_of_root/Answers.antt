-- That `member_of_root` finds the first member of the root in the column, the row and the slicer together.
use Rattle.cell_request.proofs.MemberFacts.{in_column, in_row, in_slicer}
use Rattle.cell_request.proofs.members.member_of_root.Goals as goal

pub returns-in-Some : goal.returns-in-Some
returns-in-Some c = in_column c.args.root.now c.args.column.now c.args.row.now c.args.slicer.now c.in-Some.member.now c.in-Some.ensures

pub returns-in-Some-first_of_root : goal.returns-in-Some-first_of_root
returns-in-Some-first_of_root c = in_row c.args.root.now c.args.column.now c.args.row.now c.args.slicer.now c.in-Some-first_of_root.member.now c.in_default.ensures c.in-Some-first_of_root.ensures

pub returns : goal.returns
returns c = in_slicer c.args.root.now c.args.column.now c.args.row.now c.args.slicer.now _ c.in_default.ensures c.in_default-first_of_root.ensures c.first_of_root-3.ensures
