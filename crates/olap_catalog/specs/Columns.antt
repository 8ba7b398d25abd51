-- The texts of a column.
use Rattle.std.specs.Prelude.{ℕ, List, [], slice_get, length}
use Rattle.std.specs.Option.{option_map_or}
use Rattle.olap_meaning.specs.declared.tables.Catalog.{Catalog}
use Rattle.olap_meaning.specs.Catalog.{field_texts, records}

-- the texts of a column, one for each leaf of its dimension
abbrev pub column_texts : Catalog → ℕ → List (List ℕ)
column_texts catalog column =
    option_map_or
    (λ c. field_texts c.field (records catalog c.dimension)) (slice_get catalog.columns column) []

-- how many leaves a column has a value for: those of its dimension
abbrev pub column_leaves : Catalog → ℕ → ℕ
column_leaves catalog column =
    option_map_or (λ c. length (records catalog c.dimension)) (slice_get catalog.columns column) 0
