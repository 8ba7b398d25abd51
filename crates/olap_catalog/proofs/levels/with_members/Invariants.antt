-- What holds at each turn of `with_members`.
use Rattle.std.proofs.Common.{◌≡◌, ◌++◌, map}
use Rattle.olap_meaning.specs.declared.cells.Member.TheVariants as member
use Rattle.olap_catalog.proofs.levels.with_members.Given as goal

abbrev pub invariant-loop-path : goal.invariant-loop-path
invariant-loop-path l = l.found ≡ l.fn.members ++ map (member.At l.h) l.yielded
