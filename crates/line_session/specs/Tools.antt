-- What a session works with, as contracts see it.
use Rattle.std.specs.Prelude.{ℕ, List, Result}
use Rattle.olap_meaning.specs.declared.OutOfMemory.{OutOfMemory}
use Rattle.olap_meaning.specs.declared.CellValue.{CellValue}
use Rattle.olap_meaning.specs.declared.cells.Allowed.{Allowed}
use Rattle.segment_header.specs.Widening.{Allowing, Widened}
use Rattle.shown_values.specs.Given.{Given}

-- tools: which texts may be given for a value, and what a load may be allowed in a column
pub record ToolsOf : Type 1 where
  pub texts : CellValue → List ℕ → Type 0
  pub allowed : Allowing

-- those of a formatter and a widener that may answer so
abbrev pub tools_of : (CellValue → Result (List ℕ) OutOfMemory → Type 0)
    → (List ℕ → ℕ → Result Allowed OutOfMemory → Type 0) → ToolsOf
tools_of texts allowed = record { texts = Given texts; allowed = Widened allowed }
