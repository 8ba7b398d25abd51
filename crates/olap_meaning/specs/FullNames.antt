-- The full names of hierarchies. (Schema Guide, "Dimensions, Hierarchies, and Levels")
use Rattle.std.specs.Prelude.{ℕ, List, ◌++◌, bytes_eq, codes, if◌then◌else◌}

-- a hierarchy's name where it is its dimension's, else the dimension's name, a dot, and its own
abbrev pub joined_name : List ℕ → List ℕ → List ℕ
joined_name dimension hierarchy =
    if bytes_eq hierarchy dimension then hierarchy else dimension ++ codes "." ++ hierarchy
