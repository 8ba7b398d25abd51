-- What holds at each turn of `have_same_columns`.
use Rattle.std.proofs.Common.{◌≡◌, bytes_eq, drop, map}
use Rattle.cache_manager.proofs.alike.have_same_columns.Given as goal

-- what is left decides
abbrev pub invariant-loop-i : goal.invariant-loop-i
invariant-loop-i l = bytes_eq (map (λ pair. pair.0) (drop l.i l.one)) (map (λ pair. pair.0) (drop l.i l.other)) ≡ bytes_eq (map (λ pair. pair.0) l.one) (map (λ pair. pair.0) l.other)
