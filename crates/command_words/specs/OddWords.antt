-- Words that no command line has.
use Rattle.std.specs.Prelude.{Bool, not, ◌&&◌, is_some}
use Rattle.command_words.specs.Options.{Text, is_value, option_word}

-- a word can be no value and no option: it is empty, begins with a hyphen and names no option, or has an empty value
abbrev pub is_odd : Text → Bool
is_odd word = not (is_value word) && not (is_some (option_word word))
