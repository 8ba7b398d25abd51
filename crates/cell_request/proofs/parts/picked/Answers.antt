-- That `picked` ensures `ok` and `fault`.
use Rattle.cell_request.proofs.parts.picked.Goals as goal

pub returns-in-Itself-clause-ok : goal.returns-in-Itself-clause-ok
returns-in-Itself-clause-ok c = rw c.in-Itself.is c.itself.ensures.ok

pub returns-in-Itself-clause-fault : goal.returns-in-Itself-clause-fault
returns-in-Itself-clause-fault c = rw c.in-Itself.is c.itself.ensures.fault

pub returns-in-Members-clause-ok : goal.returns-in-Members-clause-ok
returns-in-Members-clause-ok c = rw c.in-Members.is c.level_part.ensures.ok

pub returns-in-Members-clause-fault : goal.returns-in-Members-clause-fault
returns-in-Members-clause-fault c = rw c.in-Members.is c.level_part.ensures.fault

pub returns-in-Children-clause-ok : goal.returns-in-Children-clause-ok
returns-in-Children-clause-ok c = rw c.in-Children.is c.child_part.ensures.ok

pub returns-in-Children-clause-fault : goal.returns-in-Children-clause-fault
returns-in-Children-clause-fault c = rw c.in-Children.is c.child_part.ensures.fault
