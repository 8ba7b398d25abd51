-- Numbers that rise.
use Rattle.std.specs.Prelude.{ℕ, ◌≡◌, ◌≤◌, List, [], Option, Some, None, All, IsTrue}
use Rattle.olap_meaning.specs.Covering.{among}

-- numbers, and how many more there is room for
pub record RisingOf : Type 0 where
  pub items : List ℕ
  pub places : ℕ

-- the least of some numbers, if there is one
abbrev pub IsLeast : List ℕ → Option ℕ → Type 0
IsLeast numbers None = numbers ≡ []
IsLeast numbers (Some least) = IsTrue (among numbers least) × All (λ number. least ≤ number) numbers
