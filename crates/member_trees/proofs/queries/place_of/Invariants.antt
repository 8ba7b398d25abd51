use Rattle.std.proofs.Common.{◌≡◌, ℕ, ◌<◌, ◌≤◌, get_or}
use Rattle.member_trees.specs.Spans.{values}
use Rattle.member_trees.proofs.queries.place_of.Given as goal

abbrev pub invariant-loop-place : goal.invariant-loop-place
invariant-loop-place l = (k : ℕ) → l.fn.span.start ≤ k → k < l.place → get_or (values l.row) k 0 ≡ l.value → ⊥
