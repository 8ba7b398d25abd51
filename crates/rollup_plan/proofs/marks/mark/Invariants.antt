-- The values so far that were free are handed over, and they are marked.
use Rattle.std.proofs.Common.{◌≡◌, ◌<◌, ℕ, filter, length, take}
use Rattle.std.specs.Prelude.{◌||◌}
use Rattle.olap_meaning.specs.Covering.{among}
use Rattle.rollup_plan.specs.Picks.{is_free, is_marked}
use Rattle.rollup_plan.proofs.marks.mark.Given as goal

abbrev pub invariant-loop-value : goal.invariant-loop-value
invariant-loop-value l = record {
  own : l.own.items ≡ filter (is_free l.initial.marks) (take l.value-index l.values);
  marks : (value : ℕ) → value < length l.initial.marks → is_marked l.marks value ≡ (is_marked l.initial.marks value || among (take l.value-index l.values) value);
}
