-- The text of what is kept: a line for each kept load.
use Rattle.std.specs.Prelude.{ℕ, ◌++◌, ◌∷◌, List, [], Option, codes, flat_map, length, map, position, slice_get, unwrap_or}
use Rattle.std.specs.Fmt.{decimal}
use Rattle.std.specs.Option.{option_map_or}
use Rattle.olap_meaning.specs.declared.cells.Allowed.{Allowed}
use Rattle.olap_meaning.specs.declared.cells.Allowed.TheVariants.{Any, Set}
use Rattle.olap_meaning.specs.declared.cells.LevelRef.TheVariants.{Whole}
use Rattle.olap_meaning.specs.declared.cells.Member.TheVariants.{Measure}
use Rattle.olap_meaning.specs.declared.tables.Catalog.{Catalog}
use Rattle.olap_meaning.specs.Catalog.{member_name, root_name, values}
use Rattle.olap_meaning.specs.Covering.{among}
use Rattle.olap_meaning.specs.Texts.{line, name_text}
use Rattle.query_meaning.specs.Titles.{joined_by}
use Rattle.history_core.specs.declared.answers.CacheLine.{CacheLine}

-- the place of the hierarchy of a column: of the one that has it among its levels
abbrev pub hierarchy_of : Catalog → ℕ → Option ℕ
hierarchy_of catalog column =
    position (λ hierarchy. among hierarchy.levels column) catalog.hierarchies

-- the name of a column: its hierarchy's full name, a dot, and its level's name
abbrev pub column_name : Catalog → ℕ → List ℕ
column_name catalog column =
    name_text
    (option_map_or (λ h. root_name catalog (Whole h)) (hierarchy_of catalog column) [])
    ++ codes "."
    ++ name_text (option_map_or (λ own. own.name) (slice_get catalog.columns column) [])

-- the name text of a value of a column
abbrev pub value_text : Catalog → ℕ → ℕ → List ℕ
value_text catalog column value =
    name_text (unwrap_or (slice_get (values catalog column) value) [])

-- what is allowed on a column: a star where any value is, or the values in braces, with a comma between each two
abbrev pub allowed_text : Catalog → ℕ → Allowed → List ℕ
allowed_text catalog column Any = codes "*"
allowed_text catalog column (Set values) =
    codes "{" ++ joined_by (codes ",") (map (value_text catalog column) values) ++ codes "}"

-- a column and what is allowed on it
abbrev pub allowance_text : Catalog → ℕ × Allowed → List ℕ
allowance_text catalog column =
    column_name catalog column.0 ++ codes "=" ++ allowed_text catalog column.0 column.1

-- the line of a kept load: its number, its version, its measure, its columns with a space between each two, and how many
-- flushes touch it, each after a tab
abbrev pub load_text : Catalog → CacheLine → List ℕ
load_text catalog load =
    codes "L" ++ (9 ∷ decimal load.load) ++ (9 ∷ decimal load.version)
    ++ (9 ∷ name_text (member_name catalog load.header.cube (Measure load.header.measure)))
    ++ (9 ∷ joined_by (codes " ") (map (allowance_text catalog) load.header.columns))
    ++ (9 ∷ decimal load.flushes)

-- the text of what is kept, as a look at a position finds it: the position and the number of lines, the lines, and a dot
abbrev pub cache_text : Catalog → ℕ → List CacheLine → List ℕ
cache_text catalog position loads =
    line (codes "CACHE " ++ decimal position ++ codes " " ++ decimal (length loads))
    ++ flat_map (λ load. line (load_text catalog load)) loads ++ line (codes ".")
