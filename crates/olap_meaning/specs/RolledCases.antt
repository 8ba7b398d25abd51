-- Cases of rolled offers, worked by hand: two columns, 1 and 2, of two values each.
use Rattle.std.specs.Prelude.{ℕ, ◌≡◌, [], ◌∷◌, true, false}
use Rattle.olap_meaning.specs.declared.Aggregator.TheVariants.{Sum, DistinctCount}
use Rattle.olap_meaning.specs.declared.cells.Allowed.{Allowed}
use Rattle.olap_meaning.specs.declared.cells.Allowed.TheVariants.{Any, Set}
use Rattle.olap_meaning.specs.declared.cells.Cell.{Cell}
use Rattle.olap_meaning.specs.Rolled.{Offer, can_roll}

-- each column has two values
abbrev pub two : ℕ → ℕ
two column = 2

-- the total
abbrev pub whole : Cell
whole = record { cube = 0; measure = 0; at = [] }

-- the value 0 of column 2
abbrev pub part : Cell
part = record { cube = 0; measure = 0; at = (2, 0) ∷ [] }

-- a load by column 1, of a version
abbrev pub by_one : Allowed → ℕ → Offer
by_one first version =
    record {
      header = record { cube = 0; measure = 0; columns = (1, first) ∷ [] };
      version = version;
    }

-- the offer of a load of another cube or measure
abbrev pub by_other : ℕ → ℕ → Allowed → Offer
by_other cube measure first =
    record {
      header = record { cube = cube; measure = measure; columns = (1, first) ∷ [] };
      version = 1;
    }

-- a load by columns 1 and 2, of version 1
abbrev pub by_both : Allowed → Allowed → Offer
by_both first second =
    record {
      header = record { cube = 0; measure = 0; columns = (1, first) ∷ (2, second) ∷ [] };
      version = 1;
    }

pub record RolledCasesAreDecided : Type 0 where
  -- a load that is open everywhere
  pub one_open : can_roll Sum two whole (by_one Any 1 ∷ []) ≡ true
  -- both values of the split, and one alone
  pub both_values : can_roll Sum two whole
      (by_one (Set (0 ∷ [])) 1 ∷ by_one (Set (1 ∷ [])) 1 ∷ []) ≡ true
  pub one_value : can_roll Sum two whole (by_one (Set (0 ∷ [])) 1 ∷ []) ≡ false
  -- sets that overlap
  pub overlap : can_roll Sum two whole
      (by_one (Set (0 ∷ 1 ∷ [])) 1 ∷ by_one (Set (1 ∷ [])) 1 ∷ []) ≡ true
  -- as many values as the column has, but one that it lacks
  pub other_value : can_roll Sum two whole
      (by_one (Set (0 ∷ [])) 1 ∷ by_one (Set (5 ∷ [])) 1 ∷ []) ≡ false
  -- a column without values
  pub no_values : can_roll Sum (λ column. 0) whole (by_one (Set (0 ∷ [])) 1 ∷ []) ≡ true
  -- two versions
  pub two_versions : can_roll Sum two whole
      (by_one (Set (0 ∷ [])) 1 ∷ by_one (Set (1 ∷ [])) 2 ∷ []) ≡ false
  -- a distinct count
  pub distinct : can_roll DistinctCount two whole (by_one Any 1 ∷ []) ≡ false
  -- no more columns than the cell's
  pub no_more : can_roll Sum two part
      (record { header = record { cube = 0; measure = 0; columns = (2, Any) ∷ [] }; version = 1 } ∷
      []) ≡ false
  -- the cell's own column is covered, and the other is split
  pub own_column : can_roll Sum two part
      (by_both (Set (0 ∷ [])) Any ∷ by_both (Set (1 ∷ [])) (Set (0 ∷ [])) ∷ []) ≡ true
  pub uncovered : can_roll Sum two part
      (by_both (Set (0 ∷ [])) Any ∷ by_both (Set (1 ∷ [])) (Set (1 ∷ [])) ∷ []) ≡ false
  -- two splits: four single cells
  pub two_splits : can_roll Sum two whole
      (by_both (Set (0 ∷ [])) (Set (0 ∷ [])) ∷ by_both (Set (0 ∷ [])) (Set (1 ∷ [])) ∷
      by_both (Set (1 ∷ [])) (Set (0 ∷ [])) ∷ by_both (Set (1 ∷ [])) (Set (1 ∷ [])) ∷ []) ≡ false
  -- a set that holds every value: as the split, and beside another split, where it is not open
  pub full_split : can_roll Sum two whole (by_both (Set (0 ∷ 1 ∷ [])) Any ∷ []) ≡ true
  pub full_beside : can_roll Sum two whole
      (by_both (Set (0 ∷ 1 ∷ [])) (Set (0 ∷ [])) ∷ by_both (Set (0 ∷ 1 ∷ [])) (Set (1 ∷ [])) ∷
      []) ≡ false
  pub open_beside : can_roll Sum two whole
      (by_both Any (Set (0 ∷ [])) ∷ by_both Any (Set (1 ∷ [])) ∷ []) ≡ true
  -- two lists of columns, each with one of the two values
  pub two_lists : can_roll Sum two whole
      (by_one (Set (0 ∷ [])) 1 ∷ by_both (Set (1 ∷ [])) Any ∷ []) ≡ false
  -- the first offer is of another list, and those after it fit
  pub behind_other : can_roll Sum two whole
      (by_both (Set (1 ∷ [])) (Set (0 ∷ [])) ∷ by_one (Set (0 ∷ [])) 1 ∷ by_one (Set (1 ∷ [])) 1 ∷
      []) ≡ true
  -- loads of another measure, and of another cube
  pub other_measure : can_roll Sum two whole (by_other 0 1 Any ∷ []) ≡ false
  pub other_cube : can_roll Sum two whole (by_other 1 0 Any ∷ []) ≡ false
  -- a column without values, of a load of another measure
  pub no_values_uncovered : can_roll Sum (λ column. 0) whole
      (by_other 0 1 (Set (0 ∷ [])) ∷ []) ≡ false
