-- What the words of a command line ask for, as they were given.
use Rattle.std.specs.Prelude.{ℕ, ◌≡◌, ◌⊎◌, ◌&&◌, ⊤, Bool, true, false, not, List, [], ◌∷◌, Option, None, IsSome, bytes_eq, codes, map, string_bytes}
use Rattle.std.specs.List.{list_any}
use Rattle.command_words.specs.Commands.{Command, Cell, Run, command_of}
use Rattle.command_words.specs.OddWords.{is_odd}
use Rattle.command_words.specs.Shapes.{run_read}
use Rattle.olap_server.specs.declared.command.Command.{Command as Read}
use Rattle.olap_server.specs.declared.command.Command.TheVariants as read
use Rattle.olap_server.specs.declared.words.Words.{Words}
use Rattle.olap_server.specs.declared.words.Words.TheVariants as words

-- what a command that was read asks for
abbrev pub asked : Read → Command
asked (read.Cell command) = Cell command
asked (read.Run options) = Run (run_read options)

-- what words ask for, which were given so: those that are no text are no command line
abbrev pub IsAsked : Words → Option Command → Type 0
IsAsked (words.Read given) command = command ≡ command_of (map string_bytes given.items)
IsAsked words.NotText command = command ≡ None
IsAsked words.OutOfMemory command = ⊥

-- words begin with `run`, and none of those after it is one that can be no option and no value
abbrev pub may_be_run : List (List ℕ) → Bool
may_be_run [] = false
may_be_run (first ∷ words) = bytes_eq first (codes "run") && not (list_any is_odd words)

-- there may be no memory for words: they are a command line, or may be the command `run`, whose options take memory to read
abbrev pub MayWant : List (List ℕ) → Type 0
MayWant given = IsSome (command_of given) ⊎ (may_be_run given ≡ true)

-- the same of words as they were given: or there was no memory for them
abbrev pub MayLackMemory : Words → Type 0
MayLackMemory (words.Read given) = MayWant (map string_bytes given.items)
MayLackMemory words.NotText = ⊥
MayLackMemory words.OutOfMemory = ⊤
