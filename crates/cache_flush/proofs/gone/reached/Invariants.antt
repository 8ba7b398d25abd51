-- What holds at each turn of `reached`.
use Rattle.std.proofs.Common.{◌≡◌, ◌≤◌, ◌==◌, cond, drop, fold, suc}
use Rattle.cache_flush.specs.Gone.{reached}
use Rattle.cache_flush.proofs.gone.reached.Given as goal

-- what is left decides, and no more of the first numbers are passed than values are
abbrev pub invariant-loop-value : goal.invariant-loop-value
invariant-loop-value l =
    (fold (λ next value. cond (value == next) (suc next) next) l.next (drop l.value-index l.values) ≡ reached l.values)
    × (l.next ≤ l.value-index)
