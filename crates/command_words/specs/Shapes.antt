-- Commands as `clap` is given them, and what it finds, for private clauses.
use Rattle.std.specs.Prelude.{◌≡◌, true, Option, Some, None, List, [], ◌∷◌, map, Bool}
use Rattle.clap.specs.Words.{App, Row, Rule, first_value, new_app, new_rule}
use Rattle.clap.specs.Simple.{on_top}
use Rattle.clap.specs.Values.{reading_of}
use Rattle.clap.specs.declared.builder.action.ArgAction.TheVariants.{Set}
use Rattle.clap.specs.declared.builder.value_parser.ValueParser.TheVariants as vp
use Rattle.clap.specs.declared.parser.matches.ValueSource.TheVariants.{CommandLine}
use Rattle.clap.specs.declared.parser.matches.Found.{Found}
use Rattle.command_words.specs.Options.{Given, Known, Text, value_of}
use Rattle.command_words.specs.Commands.{RunCommand}
use Rattle.command_words.specs.declared.options.KnownOption.{KnownOption}
use Rattle.command_words.specs.declared.run.RunOptions.{RunOptions}

-- a known option, as the definitions name it
abbrev pub known_option : KnownOption → Text × Bool
known_option option = (option.name.now, option.is_required)

-- an option with one value
abbrev pub option_rule : Text × Bool → Rule
option_rule option = record (new_rule option.0) { long = Some option.0; action = Some Set; required = option.1 }

-- a command whose words hold no program's name, and that gives no help
abbrev pub options_app : Text → Known → App
options_app name known = on_top (λ shape. record shape {
  no_binary_name = true;
  disable_help_flag = true;
  rules = map option_rule known;
}) (new_app name)

-- what is found for an option
abbrev pub given_row : Text × Text → Row
given_row option = record {
  id = option.0;
  values = option.1 ∷ [];
  count = None;
  source = Some CommandLine;
  reading = reading_of vp.String;
}

-- what is found for options
abbrev pub given_rows : Given → List Row
given_rows = map given_row

-- what is found is the options of a command line
abbrev pub HasOptions : Option Given → Found → Type 0
HasOptions None found = ⊥
HasOptions (Some given) found = (name : Text) → first_value found name ≡ value_of name given

-- the command of the options of `run` that were read
abbrev pub run_read : RunOptions → RunCommand
run_read options = record { file = options.schema.now; budget = options.budget }
