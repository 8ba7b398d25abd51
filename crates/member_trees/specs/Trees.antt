-- The members of a hierarchy by the paths of its leaves. A path is a list of values, from the top.
use Rattle.std.specs.Prelude.{ℕ, ◌≡◌, List, All, length}

-- a hierarchy's levels, how many they are, and the paths of its leaves, in the order of the table
pub record TreeOf : Type 0 where
  pub levels : ℕ
  pub leaves : List (List ℕ)

-- each leaf has a value in each level
abbrev pub AreWhole : ℕ → List (List ℕ) → Type 0
AreWhole levels leaves = All (λ leaf. length leaf ≡ levels) leaves
