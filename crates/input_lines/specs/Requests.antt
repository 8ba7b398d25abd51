-- What a line of an input asks for.
use Rattle.std.specs.Prelude.{ℕ, ◌≡◌, ◌⊎◌, List, true, false, Some, codes}
use Rattle.std.specs.Str.{is_utf8}
use Rattle.query_meaning.specs.declared.query.Query.{Query}
use Rattle.query_meaning.specs.declared.region_text.RegionText.{RegionText}
use Rattle.query_meaning.specs.Requests.{argument_of, commands, has_one_of, is_blank, is_quit, is_show}
use Rattle.query_meaning.specs.WholeFlushes.{WritesFlush}
use Rattle.query_meaning.specs.WholeQueries.{WritesQuery}
use Rattle.text_forms.specs.Forms.{StopsAt, Writes}
use Rattle.command_arguments.specs.Append.{IsAppend}
use Rattle.command_arguments.specs.Blank.{IsBlank}
use Rattle.command_arguments.specs.Name.{IsName}
use Rattle.command_arguments.specs.Position.{IsPosition}
use Rattle.command_arguments.specs.declared.append.AppendArgument.{AppendArgument}

-- what a line asks for: nothing, since it is no text, or blank, or has no command, or its argument is none of its
-- command's form and stops at a byte; the end; that a cache has this many entries; an append; the answer to a query; a
-- flush; that the aggregate table of a name is built; or to be shown what is kept
pub data Request : Type 0 where
  NotText : Request
  Blank : Request
  NoCommand : Request
  Stops : ℕ → Request
  Quit : Request
  After : ℕ → Request
  Append : AppendArgument → Request
  Ask : Query → Request
  Flush : RegionText → Request
  Agg : List ℕ → Request
  Show : Request

-- a line has a command, by its word, and an argument that writes this
pub record HasArgument {Q : Type 0} (word : List ℕ) (W : List ℕ → Q → Type 0)
    (line : List ℕ) (value : Q) : Type 0 where
  pub argument : List ℕ
  pub command : argument_of word line ≡ Some argument
  pub writes : W argument value

-- a line has a command, by its word, and an argument that writes nothing: this byte ends the longest front of the
-- argument with which one begins that does
pub record ArgumentStops {Q : Type 0} (word : List ℕ) (W : List ℕ → Q → Type 0)
    (line : List ℕ) (byte : ℕ) : Type 0 where
  pub argument : List ℕ
  pub command : argument_of word line ≡ Some argument
  pub stops : StopsAt W argument byte

-- a line has a command whose argument stops at this byte
abbrev pub Stopped : List ℕ → ℕ → Type 0
Stopped line byte =
    ArgumentStops (codes "MDX") WritesQuery line byte
    ⊎ ArgumentStops (codes "APPEND") (Writes IsAppend) line byte
    ⊎ ArgumentStops (codes "FLUSH") WritesFlush line byte
    ⊎ ArgumentStops (codes "AGG") (Writes IsName) line byte
    ⊎ ArgumentStops (codes "CACHE") (Writes IsBlank) line byte
    ⊎ ArgumentStops (codes "AFTER") (Writes IsPosition) line byte
    ⊎ ArgumentStops (codes "QUIT") (Writes IsBlank) line byte

-- a line asks for this
abbrev pub IsRequest : List ℕ → Request → Type 0
IsRequest line NotText = is_utf8 line ≡ false
IsRequest line Blank = (is_utf8 line ≡ true) × (is_blank line ≡ true)
IsRequest line NoCommand =
    (is_utf8 line ≡ true) × (is_blank line ≡ false) × (has_one_of commands line ≡ false)
IsRequest line (Stops byte) = (is_utf8 line ≡ true) × Stopped line byte
IsRequest line Quit = (is_utf8 line ≡ true) × (is_quit line ≡ true)
IsRequest line (After n) =
    (is_utf8 line ≡ true) × HasArgument (codes "AFTER") (Writes IsPosition) line n
IsRequest line (Append argument) =
    (is_utf8 line ≡ true) × HasArgument (codes "APPEND") (Writes IsAppend) line argument
IsRequest line (Ask query) =
    (is_utf8 line ≡ true) × HasArgument (codes "MDX") WritesQuery line query
IsRequest line (Flush text) =
    (is_utf8 line ≡ true) × HasArgument (codes "FLUSH") WritesFlush line text
IsRequest line (Agg name) =
    (is_utf8 line ≡ true) × HasArgument (codes "AGG") (Writes IsName) line name
IsRequest line Show = (is_utf8 line ≡ true) × (is_show line ≡ true)

-- a line asks for nothing else
abbrev pub IsOnly : List ℕ → Request → Type 0
IsOnly line request = (other : Request) → IsRequest line other → other ≡ request
