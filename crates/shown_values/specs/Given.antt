-- What texts are given for values.
use Rattle.std.specs.Prelude.{ℕ, List, Result, Ok}
use Rattle.olap_meaning.specs.declared.CellValue.{CellValue}
use Rattle.olap_meaning.specs.declared.OutOfMemory.{OutOfMemory}

-- the texts that are given for a value, by what may be answered for it
abbrev pub Given : (CellValue → Result (List ℕ) OutOfMemory → Type 0) → CellValue → List ℕ → Type 0
Given answers value text = answers value (Ok text)
