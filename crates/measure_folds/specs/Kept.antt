-- What the parts of a tally keep of the numbers that they were handed.
use Rattle.std.specs.Prelude.{◌≡◌, ℕ, ◌*◌, ◌^◌, ◌≤◌, List, [], ◌∷◌, length, fold, Bool, true, false, Option, None, Some, ℤ, pos, neg_ℤ, ◌≤ℤ◌, int_lt, if◌then◌else◌}
use Rattle.olap_meaning.specs.Values.{known, total}
use Rattle.olap_meaning.specs.declared.Aggregator.{Aggregator}
use Rattle.olap_meaning.specs.declared.Aggregator.TheVariants.{Max, Min}
use Rattle.olap_meaning.specs.declared.TheConstants.{ROW_LIMIT}

-- how many numbers there are and their sum, which is at most 2 ^ 63 a number, as each is of 64 bits
pub record AreSummed (known : ℕ) (sum : ℤ) (numbers : List ℤ) : Type 0 where
  pub count : known ≡ length numbers
  pub summed : sum ≡ total numbers
  pub low : neg_ℤ (pos (2 ^ 63 * known)) ≤ℤ sum
  pub high : sum ≤ℤ pos (2 ^ 63 * known)

-- how many rows a tally holds, and which numbers its state was handed
pub record AreRows (rows : ℕ) (numbers : List ℤ) (values : List (Option ℤ)) : Type 0 where
  pub count : rows ≡ length values
  pub room : rows ≤ ROW_LIMIT
  pub numbers_known : numbers ≡ known values

-- the greatest of some numbers, or the least, and the numbers
pub record ExtremeOf : Type 0 where
  pub is_greatest : Bool
  pub numbers : List ℤ

-- the aggregator of the greatest, or of the least
abbrev pub extreme_aggregator : Bool → Aggregator
extreme_aggregator true = Max
extreme_aggregator false = Min

-- a number lies beyond another: it is greater, or less
abbrev pub beyond : Bool → ℤ → ℤ → Bool
beyond true n m = int_lt m n
beyond false n m = int_lt n m

-- the greatest of some numbers, or the least, None where there are none
abbrev pub extreme_of : Bool → List ℤ → Option ℤ
extreme_of greatest [] = None
extreme_of greatest (n ∷ ns) = Some (fold (λ m n. if beyond greatest n m then n else m) n ns)

-- the greater or the lesser of two numbers, of which either may be missing
abbrev pub further_of : Bool → Option ℤ → Option ℤ → Option ℤ
further_of greatest None other = other
further_of greatest (Some m) None = Some m
further_of greatest (Some m) (Some n) = Some (if beyond greatest n m then n else m)
