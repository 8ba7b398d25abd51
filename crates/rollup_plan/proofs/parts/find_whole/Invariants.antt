-- What is left decides.
use Rattle.std.proofs.Common.{◌≡◌, drop}
use Rattle.std.specs.List.{find}
use Rattle.rollup_plan.specs.Picks.{is_whole, lent}
use Rattle.rollup_plan.proofs.parts.find_whole.Given as goal

abbrev pub invariant-loop-one : goal.invariant-loop-one
invariant-loop-one l = find (is_whole l.size l.cell l.split) (lent (drop l.one-index l.kept)) ≡ find (is_whole l.size l.cell l.split) (lent l.kept)
