-- What holds at each turn of `narrow_values`.
use Rattle.std.proofs.Common.{◌≡◌, ◌++◌, drop}
use Rattle.std.specs.Prelude.{option_map}
use Rattle.segment_body.specs.Narrowed.{value_in}
use Rattle.olap_meaning.specs.Budget.{allowed_values}
use Rattle.segment_body.proofs.narrow.narrow_values.Given as goal

-- the values so far, and those on the columns that are left
abbrev pub invariant-loop-k : goal.invariant-loop-k
invariant-loop-k l =
    option_map (λ rest. l.buffer.items ++ rest) (allowed_values (value_in l.columns l.values) (drop l.k l.others))
    ≡ allowed_values (value_in l.columns l.values) l.others
