-- The options up to here are the command's.
use Rattle.std.proofs.Common.{◌≡◌, map, take}
use Rattle.clap.specs.Words.{app_of}
use Rattle.command_words.specs.Shapes.{known_option, options_app}
use Rattle.command_words.proofs.options.options_command.Given as goal

abbrev pub invariant-loop-option : goal.invariant-loop-option
invariant-loop-option l = app_of l.command ≡ options_app l.fn.name (map known_option (take l.option-index l.known))
