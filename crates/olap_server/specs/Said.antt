-- What a run has to say.
use Rattle.std.specs.Prelude.{◌≡◌, ◌⊎◌, ℕ, List, codes}
use Rattle.cache_opening.specs.declared.fault.OpenFault.{OpenFault}
use Rattle.cache_opening.specs.declared.fault.OpenFault.TheVariants as fault
use Rattle.fault_texts.specs.FaultTexts.{aggregate_line, batch_line, rows_line, schema_line, table_line}
use Rattle.olap_meaning.specs.Texts.{line, named_line}
use Rattle.olap_server.specs.declared.status.Status.{Status}
use Rattle.olap_server.specs.declared.status.Status.TheVariants.{Schema, Source, Memory, NoFile}

-- how it ended, and the text that it writes
pub record Said : Type 0 where
  pub status : Status
  pub text : List ℕ

-- the lines that a run writes: the words are no command line
abbrev pub usage_line : List ℕ
usage_line = line (codes "USAGE")

-- a file, or the input, could not be read
abbrev pub source_line : List ℕ
source_line = line (codes "SOURCE")

-- there was no memory
abbrev pub memory_line : List ℕ
memory_line = line (codes "MEMORY")

-- more bytes came than a session takes
abbrev pub budget_line : List ℕ
budget_line = line (codes "INPUT 1099511627776")

-- a file is not there
abbrev pub no_file_line : List ℕ → List ℕ
no_file_line name = named_line (codes "NO FILE") name

-- there was no memory for what was to be said
abbrev pub no_memory : Said
no_memory = record { status = Memory; text = memory_line }

-- what is told of a fault of the opening
abbrev pub told_opening : OpenFault → Said
told_opening (fault.NoFile name) = record { status = NoFile; text = no_file_line name }
told_opening (fault.Schema reason) = record { status = Schema; text = schema_line reason }
told_opening (fault.Table file reason) = record { status = Schema; text = table_line file reason }
told_opening (fault.Batch file reason) = record { status = Schema; text = batch_line file reason }
told_opening (fault.TooManyRows file total limit) =
    record { status = Schema; text = rows_line file total limit }
told_opening (fault.Aggregate file reason) =
    record { status = Schema; text = aggregate_line file reason }
told_opening fault.Source = record { status = Source; text = source_line }
told_opening fault.OutOfMemory = no_memory

-- this is said, which comes only where the cause holds, or there was no memory for it
abbrev pub IsSaid : Type 0 → Status → List ℕ → Said → Type 0
IsSaid cause status text said =
    (said ≡ no_memory) ⊎ (cause × (said ≡ record { status = status; text = text }))
