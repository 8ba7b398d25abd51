-- A line ends the session just where it asks for that.
use Rattle.std.proofs.Common.{◌≡◌, refl, ◌∙◌, ap, List, ℕ, Bool, true, false, ◌&&◌, codes}
use Rattle.std.proofs.lemmas.Bool.{and_parts, false_from_ne_true}
use Rattle.std.specs.Str.{is_utf8}
use Rattle.query_meaning.specs.Requests.{MayTakeMemory, is_quit}
use Rattle.input_lines.specs.Asked.{asked}
use Rattle.input_lines.specs.declared.request.Request.{Request as Read}
use Rattle.input_lines.specs.declared.request.Request.TheVariants as read
use Rattle.input_lines.specs.Requests.{Request, Quit, IsRequest}
use Rattle.input_lines.proofs.Arguments.{white_argument}
use Rattle.input_lines.proofs.Commands.{quit, takes_none}
use Rattle.input_lines.proofs.Only.{only_end}
use Rattle.line_session.specs.Sessions.{ends_session}

-- a line that asks for the end ends the session
pub quits : (line : List ℕ) → IsRequest line Quit → ends_session line ≡ true
quits line is = ap (λ (b : Bool). b && is_quit line) is.0 ∙ is.1

-- a line that asks for anything else does not
pub goes_on : (line : List ℕ) (request : Request) → IsRequest line request → (request ≡ Quit → ⊥) → ends_session line ≡ false
goes_on line request is other =
    false_from_ne_true (ends_session line) (λ ends. other (only_end line (and_parts (is_utf8 line) (is_quit line) ends) request is))

-- a line that may take memory to read does not
pub lacking : (line : List ℕ) → MayTakeMemory line → ends_session line ≡ false
lacking line takes =
    false_from_ne_true (ends_session line) (λ ends.
    let has = white_argument (codes "QUIT") line (and_parts (is_utf8 line) (is_quit line) ends).1 in
    takes_none quit line refl takes (has.argument, has.command))

-- what was read asks for the end only where it is that
pub asks_for_end : (request : Read) → asked request ≡ Quit → request ≡ read.Quit
asks_for_end read.NotText is = absurd (let n : ⊥ = cc in n)
asks_for_end read.Blank is = absurd (let n : ⊥ = cc in n)
asks_for_end read.NoCommand is = absurd (let n : ⊥ = cc in n)
asks_for_end (read.Stops byte) is = absurd (let n : ⊥ = cc in n)
asks_for_end read.Quit is = refl
asks_for_end (read.After n) is = absurd (let n : ⊥ = cc in n)
asks_for_end (read.Append argument) is = absurd (let n : ⊥ = cc in n)
asks_for_end (read.Ask query) is = absurd (let n : ⊥ = cc in n)
asks_for_end (read.Flush text) is = absurd (let n : ⊥ = cc in n)
asks_for_end (read.Agg name) is = absurd (let n : ⊥ = cc in n)
asks_for_end read.Show is = absurd (let n : ⊥ = cc in n)
