-- Sets, as they are written. Each has the byte at which it begins.
use Rattle.std.specs.Prelude.{ℕ, suc, ◌+◌, List, [], ◌∷◌}
use Rattle.query_meaning.specs.declared.set_text.Picks.{Picks}

mutual
  pub data Set : Type 0 where
    Braces : (at : ℕ) (sets : Sets) → Set
    Cross : (at : ℕ) (first second : Set) → Set
    Tuple : (at : ℕ) (paths : List (List (List ℕ))) → Set
    Picked : (at : ℕ) (path : List (List ℕ)) (picks : Picks) → Set

  pub data Sets : Type 0 where
    none : Sets
    more : (set : Set) (others : Sets) → Sets

-- sets in a list
abbrev pub sets_of : List Set → Sets
sets_of [] = none
sets_of (set ∷ sets) = more set (sets_of sets)

-- some sets, and then others
abbrev pub before : Sets → Sets → Sets
before none others = others
before (more set sets) others = more set (before sets others)

-- one more at the end
abbrev pub pushed : Sets → Set → Sets
pushed sets set = before sets (more set none)

-- how many braces and Crossjoins, and how many sets in braces, a set has: what a walk through it ends by
abbrev mutual
  pub set_size : Set → ℕ
  set_size (Braces at sets) = suc (sets_size sets)
  set_size (Cross at first second) = suc (set_size first + set_size second)
  set_size (Tuple at paths) = 0
  set_size (Picked at path picks) = 0

  pub sets_size : Sets → ℕ
  sets_size none = 0
  sets_size (more set sets) = suc (set_size set + sets_size sets)
