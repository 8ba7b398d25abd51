-- How alike names are.
use Rattle.std.specs.Prelude.{ℕ, List, Bool, bytes_eq}
use Rattle.std.specs.Str.{str_to_ascii_lowercase}
use Rattle.catalog_tables.specs.declared.matching.Likeness.{Likeness}
use Rattle.catalog_tables.specs.declared.matching.Likeness.TheVariants.{Exact, ButCase}

-- two names are the same except for the case of ASCII letters
abbrev pub is_but_case : List ℕ → List ℕ → Bool
is_but_case name other = bytes_eq (str_to_ascii_lowercase name) (str_to_ascii_lowercase other)

-- a name is so much like another: the same, or the same except for the case of ASCII letters
abbrev pub is_alike : Likeness → List ℕ → List ℕ → Bool
is_alike Exact name other = bytes_eq name other
is_alike ButCase name other = is_but_case name other
