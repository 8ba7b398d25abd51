-- How the faults of a file are answered.
use Rattle.std.specs.Prelude.{◌≡◌, ℕ, List, Option, IsSomeAnd, codes}
use Rattle.fault_texts.specs.FaultTexts.{no_column_text, not_csv_text, not_number_text, too_many_rows_text}
use Rattle.olap_meaning.specs.FileQuery.{FileFault, not_csv, no_column, not_number, too_many_rows}
use Rattle.olap_server.specs.declared.fault.CellFault.{CellFault}
use Rattle.olap_server.specs.declared.fault.CellFault.TheVariants.{NotCsv, NoColumn, NotNumber, TooManyRows, OutOfMemory}

-- the answer to a fault of the file
abbrev pub told_fault : FileFault → CellFault
told_fault (not_csv n) = NotCsv n
told_fault (no_column name) = NoColumn name
told_fault (not_number n column) = NotNumber n column
told_fault (too_many_rows total limit) = TooManyRows total limit

-- there is a fault, and this is its answer
abbrev pub TellsFault : CellFault → Option FileFault → Type 0
TellsFault answer found = IsSomeAnd found (λ fault. answer ≡ told_fault fault)

-- a column is not there, and this is its answer
abbrev pub MissesColumn : CellFault → Option (List ℕ) → Type 0
MissesColumn answer missing = IsSomeAnd missing (λ name. answer ≡ told_fault (no_column name))

-- what is told of an answer
abbrev pub refusal_text : CellFault → List ℕ
refusal_text (NotCsv row) = not_csv_text row
refusal_text (NoColumn name) = no_column_text name
refusal_text (NotNumber row column) = not_number_text row column
refusal_text (TooManyRows total limit) = too_many_rows_text total limit
refusal_text OutOfMemory = codes "MEMORY"
