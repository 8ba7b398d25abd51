-- How many loads in flight have each mask.
use Rattle.std.specs.Prelude.{ℕ, List, [], ◌∷◌, if◌then◌else◌, nat_eq}

-- masks, each with how many loads have it, and for how many more masks there is room
pub record MasksOf : Type 0 where
  pub counts : List (ℕ × ℕ)
  pub places : ℕ

-- how many loads have a mask
abbrev pub count_at : List (ℕ × ℕ) → ℕ → ℕ
count_at [] q = 0
count_at (e ∷ es) q = if nat_eq q e.0 then e.1 else count_at es q
