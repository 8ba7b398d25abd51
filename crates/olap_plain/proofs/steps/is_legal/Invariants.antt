-- What holds at each turn of `is_legal`.
use Rattle.std.proofs.Common.{◌≡◌, ◌<◌, ℕ, suc, take, Some}
use Rattle.olap_meaning.specs.History.{Entry, entry_at}
use Rattle.olap_meaning.specs.Legal.{LegalStep}
use Rattle.olap_plain.specs.Entries.{entries}
use Rattle.olap_plain.proofs.steps.is_legal.Given as goal

-- the entries so far are legal steps
abbrev pub invariant-loop-i : goal.invariant-loop-i
invariant-loop-i l = (before : ℕ) (entry : Entry) → before < l.i → entry_at (entries l.history) (suc before) ≡ Some entry → LegalStep l.setting (take before (entries l.history)) entry
