-- The numbers among the values of rows.
use Rattle.std.proofs.Common.{◌≡◌, ◌≤◌, ◌+◌, ℕ, ℤ, List, [], ◌∷◌, ◌++◌, length, Option, None, Some, refl, arith, length-append, lit≤}
use Rattle.std.proofs.lemmas.List.Elements.{filter_map-append}
use Rattle.olap_meaning.specs.Values.{known}
use Rattle.olap_meaning.specs.declared.TheConstants.{ROW_LIMIT}
use Rattle.measure_folds.specs.Kept.{AreRows}

-- there are no more numbers than rows
known-fits : (values : List (Option ℤ)) → length (known values) ≤ length values
known-fits [] = omega arith
known-fits (None ∷ vs) = omega (arith, known-fits vs)
known-fits (Some n ∷ vs) = omega (arith, known-fits vs)

pub numbers_fit : (rows : ℕ) (ns : List ℤ) (vs : List (Option ℤ)) → AreRows rows ns vs → length ns ≤ rows
numbers_fit rows ns vs are = rw are.numbers_known (omega (arith, known-fits vs, are.count))

-- the rows of one tally and of another
pub rows_joined : (k j : ℕ) (ns ms all : List ℤ) (vs ws values : List (Option ℤ)) → AreRows k ns vs → AreRows j ms ws → all ≡ ns ++ ms → values ≡ vs ++ ws → k + j ≤ ROW_LIMIT → AreRows (k + j) all values
rows_joined k j ns ms all vs ws values a b e f room = record {
  count = rw f (omega (arith, a.count, b.count, length-append vs ws));
  room = room;
  numbers_known = rw (e, f, filter_map-append (λ v. v) vs ws, a.numbers_known, b.numbers_known) refl;
}

-- one row
pub rows_one : (v : Option ℤ) → AreRows 1 (known (v ∷ [])) (v ∷ [])
rows_one v = record { count = refl; room = lit≤ tt; numbers_known = refl }
