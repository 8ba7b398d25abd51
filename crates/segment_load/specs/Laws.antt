-- What the body of a load is worth.
use Rattle.std.specs.Prelude.{◌≡◌, ℕ, List, Some, IsTrue}
use Rattle.olap_meaning.specs.declared.cells.Cell.{Cell}
use Rattle.olap_meaning.specs.declared.cells.Header.{Header}
use Rattle.olap_meaning.specs.declared.tables.Catalog.{Catalog}
use Rattle.olap_meaning.specs.declared.tables.Row.{Row}
use Rattle.olap_meaning.specs.Covering.{just_covers}
use Rattle.olap_meaning.specs.History.{Entry, rows_of}
use Rattle.olap_meaning.specs.Worth.{value, value_over}
use Rattle.segment_header.specs.Headers.{is_header}
use Rattle.segment_body.specs.BodyOf.{BodyOf}
use Rattle.fact_reader.specs.BodyRows.{HoldsRows, body_of, body_value}

-- what the body that rows alone fill says of a cell that its header just covers is the value of the cell over these rows
abbrev pub LoadsAreWorth : Type 0
LoadsAreWorth =
    (catalog : Catalog) (header : Header) (rows : List Row) (body : BodyOf) (cell : Cell)
    → IsTrue (is_header header) → IsTrue (just_covers header cell)
    → body_of catalog header rows ≡ Some body
    → body_value body cell ≡ value_over catalog cell rows

-- over the rows of a version, it is the value of the cell in that version
abbrev pub LoadsAreWorthInVersions : Type 0
LoadsAreWorthInVersions =
    (catalog : Catalog) (history : List Entry) (header : Header) (version : ℕ) (body : BodyOf)
    (cell : Cell)
    → IsTrue (is_header header) → IsTrue (just_covers header cell)
    → body_of catalog header (rows_of history header.cube version) ≡ Some body
    → body_value body cell ≡ value catalog history cell version

-- the body that rows alone fill holds them
abbrev pub LoadsHoldRows : Type 0
LoadsHoldRows =
    (catalog : Catalog) (header : Header) (rows : List Row) (body : BodyOf)
    → body_of catalog header rows ≡ Some body → HoldsRows catalog header rows body

-- what a body that holds rows says of a cell that its header just covers is the value of the cell over these rows
abbrev pub HeldRowsAreWorth : Type 0
HeldRowsAreWorth =
    (catalog : Catalog) (header : Header) (rows : List Row) (body : BodyOf) (cell : Cell)
    → IsTrue (is_header header) → IsTrue (just_covers header cell)
    → HoldsRows catalog header rows body → body_value body cell ≡ value_over catalog cell rows

-- over the rows of a version, it is the value of the cell in that version
abbrev pub HeldRowsAreWorthInVersions : Type 0
HeldRowsAreWorthInVersions =
    (catalog : Catalog) (history : List Entry) (header : Header) (version : ℕ) (body : BodyOf)
    (cell : Cell)
    → IsTrue (is_header header) → IsTrue (just_covers header cell)
    → HoldsRows catalog header (rows_of history header.cube version) body
    → body_value body cell ≡ value catalog history cell version
