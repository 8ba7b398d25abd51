-- Command lines of options, each with one value.
use Rattle.std.specs.Prelude.{ℕ, ◌+◌, ◌==◌, ◌&&◌, ◌||◌, Bool, true, false, not, nat_le, List, [], ◌∷◌, length, Option, Some, None, if◌then◌else◌, find, option_map, bytes_eq}
use Rattle.std.specs.List.{list_all, list_any, before_first, after_first}
use Rattle.std.specs.Option.{option_and_then}
use Rattle.olap_meaning.specs.Records.{digits_below}

-- a text is a list of bytes
abbrev pub Text : Type 0
Text = List ℕ

-- the options that a command knows: each name, and whether it must be given
abbrev pub Known : Type 0
Known = List (Text × Bool)

-- options that are given, in order: each name with its value
abbrev pub Given : Type 0
Given = List (Text × Text)

-- a byte is =
abbrev pub is_equals : ℕ → Bool
is_equals byte = byte == 61

-- a word can be the value of an option: it is not empty, and does not begin with a hyphen
abbrev pub is_value : Text → Bool
is_value [] = false
is_value (byte ∷ bytes) = not (byte == 45)

-- what stands after the two hyphens of a word; None where there are no two, or nothing stands after them
abbrev pub behind_hyphens : Text → Option Text
behind_hyphens (first ∷ second ∷ byte ∷ bytes) =
    if first == 45 && second == 45 then Some (byte ∷ bytes) else None
behind_hyphens _ = None

-- a name with the value that = joins to it, whatever it begins with; None where the value is empty
abbrev pub joined_value : Text → Text → Option (Text × Option Text)
joined_value name [] = None
joined_value name (byte ∷ bytes) = Some (name, Some (byte ∷ bytes))

-- NAME=VALUE, cut at the first =, or NAME alone, whose value is the next word
abbrev pub option_parts : Text → Option (Text × Option Text)
option_parts text =
    if list_any is_equals text
    then joined_value (before_first is_equals text) (after_first is_equals text)
    else Some (text, None)

-- the option of a word, --NAME=VALUE or --NAME; None where the word is no option
abbrev pub option_word : Text → Option (Text × Option Text)
option_word word = option_and_then option_parts (behind_hyphens word)

-- what a word that should be an option makes of the words after it
abbrev pub from_word : Option (Text × Option Text) → (Option Text → Option Given) → Option Given
from_word None others = None
from_word (Some (name, Some value)) others = option_map (λ given. (name, value) ∷ given) (others None)
from_word (Some (name, None)) others = others (Some name)

-- the options of words, where a name may wait for its value; None where an option is without one, or a word is too many
unfoldable pub options_from : Option Text → List Text → Option Given
options_from None [] = Some []
options_from (Some name) [] = None
options_from None (word ∷ words) = from_word (option_word word) (λ waiting. options_from waiting words)
options_from (Some name) (word ∷ words) =
    if is_value word then option_map (λ given. (name, word) ∷ given) (options_from None words) else None

-- a command knows an option of this name
abbrev pub is_known : Known → Text → Bool
is_known known name = list_any (λ option. bytes_eq option.0 name) known

-- an option of this name is given
abbrev pub is_given : Given → Text → Bool
is_given given name = list_any (λ option. bytes_eq option.0 name) given

-- no option is given twice
abbrev pub is_once : Given → Bool
is_once [] = true
is_once (option ∷ given) = not (is_given given option.0) && is_once given

-- each option that must be given is given
abbrev pub is_whole : Known → Given → Bool
is_whole known given = list_all (λ option. not option.1 || is_given given option.0) known

-- a command takes these options: it knows each of them, none is given twice, and none that must be given is left out
abbrev pub takes : Known → Given → Bool
takes known given =
    list_all (λ option. is_known known option.0) given && (is_once given && is_whole known given)

-- options, where a command takes them
abbrev pub taken : Known → Option Given → Option Given
taken known None = None
taken known (Some given) = if takes known given then Some given else None

-- the options of a command line; None where these words are none
abbrev pub command_line : Known → List Text → Option Given
command_line known words = taken known (options_from None words)

-- the value of an option; None where it is not given
abbrev pub value_of : Text → Given → Option Text
value_of name given = option_map (λ option. option.1) (find (λ option. bytes_eq option.0 name) given)

-- a number up to this one, in 1 to 20 ASCII digits
abbrev pub number_to : ℕ → Text → Option ℕ
number_to most value =
    if nat_le (length value) 20 then digits_below (most + 1) value else None

-- the number that an option gives, up to this one, or the usual one where the option is not given; None where its value is no
-- such number
abbrev pub number_or : ℕ → ℕ → Option Text → Option ℕ
number_or most usual None = Some usual
number_or most usual (Some value) = number_to most value
