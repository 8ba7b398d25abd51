-- What the answers of the reader of requests stand for.
use Rattle.std.specs.Prelude.{ℕ, ◌≡◌, List, true, Some}
use Rattle.std.specs.Str.{is_utf8}
use Rattle.query_meaning.specs.Requests.{argument_of}
use Rattle.input_lines.specs.Requests as meaning
use Rattle.input_lines.specs.declared.request.Request.{Request}
use Rattle.input_lines.specs.declared.request.Request.TheVariants.{NotText, Blank, NoCommand, Stops, Quit, After, Append, Ask, Flush, Agg, Show}

-- what a request asks for
abbrev pub asked : Request → meaning.Request
asked NotText = meaning.NotText
asked Blank = meaning.Blank
asked NoCommand = meaning.NoCommand
asked (Stops byte) = meaning.Stops byte
asked Quit = meaning.Quit
asked (After n) = meaning.After n
asked (Append argument) = meaning.Append argument
asked (Ask query) = meaning.Ask query
asked (Flush text) = meaning.Flush text
asked (Agg name) = meaning.Agg name
asked Show = meaning.Show

-- each line of text that has this command, by its word, and this argument asks for this
abbrev pub Asks : List ℕ → List ℕ → meaning.Request → Type 0
Asks word argument request =
    (line : List ℕ) → is_utf8 line ≡ true → argument_of word line ≡ Some argument
    → meaning.IsRequest line request

-- each line of text that has this command, by its word, and this argument asks for nothing else
abbrev pub AsksOnly : List ℕ → List ℕ → meaning.Request → Type 0
AsksOnly word argument request =
    (line : List ℕ) → is_utf8 line ≡ true → argument_of word line ≡ Some argument
    → meaning.IsOnly line request
