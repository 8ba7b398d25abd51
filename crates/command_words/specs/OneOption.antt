-- The command line of `run` without a budget, in its one or two words.
use Rattle.std.specs.Prelude.{ℕ, Bool, false, ◌==◌, ◌&&◌, List, [], ◌∷◌, Option, Some, None, bytes_eq, codes, drop, nat_eq, not, if◌then◌else◌}
use Rattle.std.specs.List.{starts_with}
use Rattle.std.specs.Option.{option_and_then}
use Rattle.command_words.specs.Commands.{run_known}
use Rattle.command_words.specs.Options.{Text, command_line, is_given, value_of}

-- a word can stand as the file of an option: it is not empty, and does not begin with a hyphen
abbrev pub is_file_word : List ℕ → Bool
is_file_word [] = false
is_file_word (c ∷ text) = not (c == 45)

-- the file of the option `--schema` in one word, with = between name and file, which is not empty
abbrev pub joined_file : List ℕ → Option (List ℕ)
joined_file option =
    if starts_with nat_eq option (codes "--schema=") && not (bytes_eq option (codes "--schema="))
    then Some (drop 9 option)
    else None

-- the file of the option `--schema`, in one word or in two; None where the words are no such option
abbrev pub schema_file : List (List ℕ) → Option (List ℕ)
schema_file [] = None
schema_file (option ∷ []) = joined_file option
schema_file (option ∷ file ∷ []) =
    if bytes_eq option (codes "--schema") && is_file_word file then Some file else None
schema_file (option ∷ file ∷ others) = None

-- the file of a command line of `run` that gives no budget; None where the words are no such line
abbrev pub file_alone : List Text → Option Text
file_alone words =
    option_and_then
    (λ given. if is_given given (codes "budget") then None else value_of (codes "schema") given)
    (command_line run_known words)
