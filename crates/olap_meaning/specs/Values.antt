-- What a measure is worth over fact rows.
use Rattle.std.specs.Prelude.{ℕ, ◌+◌, ◌*◌, ◌/◌, List, [], ◌∷◌, not, Option, ℤ, pos, negsuc, neg_ℤ, ◌+ℤ◌, ◌*ℤ◌, int_lt, if◌then◌else◌, fold, filter, filter_map, length}
use Rattle.std.specs.Ordering.{int_eq}
use Rattle.olap_meaning.specs.declared.Aggregator.{Aggregator}
use Rattle.olap_meaning.specs.declared.Aggregator.TheVariants.{Sum, Count, Min, Max, Avg, DistinctCount}
use Rattle.olap_meaning.specs.declared.CellValue.{CellValue}
use Rattle.olap_meaning.specs.declared.CellValue.TheVariants.{Empty, Whole, Hundredths}

-- the numbers among a measure's values: those that are not NULL, in order
abbrev pub known : List (Option ℤ) → List ℤ
known values = filter_map (λ v. v) values

-- the sum of numbers
abbrev pub total : List ℤ → ℤ
total numbers = fold (λ sum n. sum +ℤ n) (pos 0) numbers

-- the least of a number and others
abbrev pub least : ℤ → List ℤ → ℤ
least first rest = fold (λ m n. if int_lt n m then n else m) first rest

-- the greatest of a number and others
abbrev pub greatest : ℤ → List ℤ → ℤ
greatest first rest = fold (λ m n. if int_lt m n then n else m) first rest

-- each number once, by first appearance
abbrev pub different : List ℤ → List ℤ
different [] = []
different (n ∷ ns) = n ∷ filter (λ m. not (int_eq m n)) (different ns)

-- a quotient, rounded to the nearest whole number, and half away from zero
abbrev pub rounded : ℤ → ℕ → ℤ
rounded (pos a) n = pos ((2 * a + n) / (2 * n))
rounded (negsuc a) n = neg_ℤ (pos ((2 * (a + 1) + n) / (2 * n)))

-- the aggregate of some rows by their numbers that are not NULL. The counts are numbers also where none is;
-- the others are empty then. An average is in hundredths. (Schema Guide, "Measures"; the rounding is this project's.)
abbrev pub aggregate_known : Aggregator → List ℤ → CellValue
aggregate_known Count numbers = Whole (pos (length numbers))
aggregate_known DistinctCount numbers = Whole (pos (length (different numbers)))
aggregate_known Sum [] = Empty
aggregate_known Sum (n ∷ ns) = Whole (total (n ∷ ns))
aggregate_known Min [] = Empty
aggregate_known Min (n ∷ ns) = Whole (least n ns)
aggregate_known Max [] = Empty
aggregate_known Max (n ∷ ns) = Whole (greatest n ns)
aggregate_known Avg [] = Empty
aggregate_known Avg (n ∷ ns) = Hundredths (rounded (pos 100 *ℤ total (n ∷ ns)) (length (n ∷ ns)))

-- the aggregate of a measure over rows, by the value of each row: empty over no rows, for every aggregator
abbrev pub aggregate : Aggregator → List (Option ℤ) → CellValue
aggregate aggregator [] = Empty
aggregate aggregator (v ∷ vs) = aggregate_known aggregator (known (v ∷ vs))
