-- What the words of the command line ask for.
use Rattle.std.specs.Prelude.{ℕ, true, false, List, [], ◌∷◌, Option, Some, None, bytes_eq, codes, option_map, if◌then◌else◌}
use Rattle.std.specs.Option.{option_and_then}
use Rattle.olap_meaning.specs.FileQuery.{FileQuery}
use Rattle.olap_meaning.specs.Texts.{aggregator_named}
use Rattle.command_words.specs.Options.{Given, Known, Text, command_line, number_or, value_of}

-- the command `cell`: a query of one file
pub record CellCommand : Type 0 where
  pub file : List ℕ
  pub query : FileQuery

-- words two by two; None where one is left over
abbrev pub pairs_of : List (List ℕ) → Option (List (List ℕ × List ℕ))
pairs_of [] = Some []
pairs_of (word ∷ []) = None
pairs_of (first ∷ second ∷ words) = option_map (λ pairs. (first, second) ∷ pairs) (pairs_of words)

-- the command that stands after `cell`: FILE COLUMN AGGREGATOR { COLUMN VALUE }, each word by its place
abbrev pub behind_cell : List ℕ → List ℕ → List ℕ → List (List ℕ) → Option CellCommand
behind_cell file column name words = option_and_then (λ aggregator. option_map (λ pairs.
    record {
      file = file;
      query = record { column = column; aggregator = aggregator; pairs = pairs };
    })
    (pairs_of words)) (aggregator_named name)

-- the command of the words after `cell`; None where one is missing
abbrev pub cell_command : List (List ℕ) → Option CellCommand
cell_command [] = None
cell_command (file ∷ []) = None
cell_command (file ∷ column ∷ []) = None
cell_command (file ∷ column ∷ name ∷ words) = behind_cell file column name words

-- what `run` knows: the option `--schema`, which must be given, and the option `--budget`
abbrev pub run_known : Known
run_known = (codes "schema", true) ∷ (codes "budget", false) ∷ []

-- the greatest budget that a command line may give, and the budget where it gives none
abbrev pub most_budget : ℕ
most_budget = 10_000_000

abbrev pub usual_budget : ℕ
usual_budget = 1_000_000

-- the command `run`: a session over the cache that the schema of a file opens, with a budget
pub record RunCommand : Type 0 where
  pub file : Text
  pub budget : ℕ

-- the command with this file and this budget; None where there is no such file or no such budget
abbrev pub run_with : Option Text → Option ℕ → Option RunCommand
run_with None budget = None
run_with (Some file) None = None
run_with (Some file) (Some budget) = Some (record { file = file; budget = budget })

-- the command of the options of `run`
abbrev pub run_of : Given → Option RunCommand
run_of given =
    run_with (value_of (codes "schema") given)
    (number_or most_budget usual_budget (value_of (codes "budget") given))

-- the command of the words after `run`, --schema FILE [ --budget N ]; None where they are no command line
abbrev pub run_command : List Text → Option RunCommand
run_command words = option_and_then run_of (command_line run_known words)

-- what a command line asks for: a cell of a file; or a session over the cache that the schema of a file opens
pub data Command : Type 0 where
  Cell : CellCommand → Command
  Run : RunCommand → Command

-- the command of the words, cell FILE .. or run --schema FILE [ --budget N ]; None where they are no command line
abbrev pub command_of : List Text → Option Command
command_of [] = None
command_of (first ∷ words) =
    if bytes_eq first (codes "cell") then option_map Cell (cell_command words)
    else if bytes_eq first (codes "run") then option_map Run (run_command words)
    else None
