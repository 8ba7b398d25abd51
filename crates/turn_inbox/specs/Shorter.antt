-- The law that a shorter ledger is within the limit. A law's proof stands beside the definitions.
use Rattle.std.proofs.Common.{ℕ, ◌≤◌, List, ◌++◌, length, arith, length-append}

pub shorter_within : {E : Type 0} (limit : ℕ) (xs ys : List E) → length (xs ++ ys) ≤ limit → length xs ≤ limit
shorter_within limit xs ys within = omega (arith, length-append xs ys)
