-- How words begin.
use Rattle.std.specs.Prelude.{ℕ, List, ◌≡◌, ◌++◌}

-- the word begins so
abbrev pub Begins : List ℕ → List ℕ → Type 0
Begins front word = (more : List ℕ) × (front ++ more ≡ word)
