-- A session: the lines of an input, one after another, each with its reply.
use Rattle.std.specs.Prelude.{ℕ, ◌≡◌, ◌⊎◌, ◌++◌, ◌+◌, ◌-◌, ◌≤◌, ◌&&◌, List, [], ◌∷◌, All, Bool, true, not, Option, IfSome, bytes_eq, codes, filter, flat_map, is_some, length, map, sum, sum_by, take}
use Rattle.std.specs.List.{list_all}
use Rattle.std.specs.Str.{is_utf8}
use Rattle.query_meaning.specs.Lines.{Begins, FirstLine, TooMany}
use Rattle.query_meaning.specs.Replies.{no_memory_reply, too_long_reply}
use Rattle.query_meaning.specs.Requests.{argument_of, is_quit}
use Rattle.outside.specs.Fetched.{Fetched}
use Rattle.outside.specs.Told.{TakesFront}
use Rattle.input_lines.specs.Reader.{IsSpent}
use Rattle.installed_tables.specs.Installed.{present_rows}
use Rattle.line_session.specs.Desks.{DeskOf}
use Rattle.line_session.specs.Replies.{Dealing, Handled, Handles, catalog_of, costs_of}
use Rattle.line_session.specs.Tools.{ToolsOf}
use Rattle.line_session.specs.declared.end.SessionEnd.{SessionEnd}
use Rattle.line_session.specs.declared.end.SessionEnd.TheVariants.{Quit, EndOfInput, LongLine, Budget, ReceiveFault, SendFault, Memory}

-- the greatest number of bytes that a session may be told to take
abbrev pub byte_limit : ℕ
byte_limit = 1099511627776

-- IsSession tools before asked handled after: these lines were handled, one after another, with these replies and entries;
-- for them the depot was asked this, in all; and so what is seen goes on
abbrev pub IsSession : ToolsOf → DeskOf → List Fetched → List Handled → DeskOf → Type 0
IsSession tools before asked [] after = (after ≡ before) × (asked ≡ [])
IsSession tools before asked (handled ∷ more) after =
    (middle : DeskOf) × (first : List Fetched) × (rest : List Fetched) × (asked ≡ first ++ rest)
    × Handles tools (record { before = before; after = middle; asked = first }) handled
    × IsSession tools middle rest more after

-- a line ends the session
abbrev pub ends_session : List ℕ → Bool
ends_session line = is_utf8 line && is_quit line

-- no line ends the session
abbrev pub go_on : List (List ℕ) → Bool
go_on = list_all (λ line. not (ends_session line))

-- the last line ends the session, and none before it does
pub record EndsAtLast (lines : List (List ℕ)) : Type 0 where
  pub before : List (List ℕ)
  pub last : List ℕ
  pub are : lines ≡ before ++ last ∷ []
  pub earlier : go_on before ≡ true
  pub ends : ends_session last ≡ true

-- AreFirst most bytes lines left rest: these are the first lines of an input of which at most this many bytes may be
-- taken, each line with its end; after them the rest is left, of which this many bytes may be taken
pub data AreFirst : ℕ → List ℕ → List (List ℕ) → ℕ → List ℕ → Type 0 where
  -- none yet
  none : {most : ℕ} {bytes : List ℕ} → AreFirst most bytes [] most bytes
  -- a line, within the bytes that may be taken, and then the others
  line : {most left size : ℕ} {bytes rest : List ℕ} {lines : List (List ℕ)} (first behind : List ℕ)
      → Begins bytes (FirstLine first behind) → length bytes ≡ size + length behind → size ≤ most
      → AreFirst (most - size) behind lines left rest
      → AreFirst most bytes (first ∷ lines) left rest

-- what is left after the lines that were handled, by how the session ended: the end has come; or too many bytes without
-- an LF come, among those that may be taken; or no LF is among those, which are no more than a line may have, and one
-- byte more comes
abbrev pub IsLeft : SessionEnd → ℕ → List ℕ → Type 0
IsLeft EndOfInput left rest = rest ≡ []
IsLeft LongLine left rest = Begins (take left rest) TooMany
IsLeft Budget left rest = IsSpent rest left
IsLeft end left rest = ⊥

-- which lines of an input were handled, of which at most this many bytes may be taken, by how the session ended
abbrev pub AreHandled : ℕ → SessionEnd → List (List ℕ) → List ℕ → Type 0
AreHandled most Quit lines bytes =
    (left : ℕ) × (rest : List ℕ) × AreFirst most bytes lines left rest × EndsAtLast lines
AreHandled most ReceiveFault lines bytes =
    (left : ℕ) × (rest : List ℕ) × AreFirst most bytes lines left rest × (go_on lines ≡ true)
AreHandled most SendFault lines bytes =
    (left : ℕ) × (rest : List ℕ) × AreFirst most bytes lines left rest
    × ((go_on lines ≡ true) ⊎ EndsAtLast lines)
AreHandled most Memory lines bytes = lines ≡ []
AreHandled most end lines bytes =
    (left : ℕ) × (rest : List ℕ) × AreFirst most bytes lines left rest × (go_on lines ≡ true)
    × IsLeft end left rest

-- a write has failed: of the replies joined a front was sent; or too long a line came after all these lines, and of
-- the replies and that to it a front was sent
abbrev pub IsSentInPart : ℕ → Option (List ℕ) → List (List ℕ) → List ℕ → List ℕ
    → List ℕ → Type 0
IsSentInPart most left lines before after text =
    TakesFront before after text
    ⊎ (IfSome left (AreHandled most LongLine lines)
    × TakesFront before after (text ++ too_long_reply))

-- what was sent, by how the session ended: the replies joined, and that to too long a line; after a failed write a
-- front of this
abbrev pub AreSent : ℕ → SessionEnd → Option (List ℕ) → List (List ℕ) → List ℕ → List ℕ
    → List ℕ → Type 0
AreSent most LongLine left lines before after text = after ≡ before ++ (text ++ too_long_reply)
AreSent most SendFault left lines before after text =
    IsSentInPart most left lines before after text
AreSent most end left lines before after text = after ≡ before ++ text

-- a session was served: the lines that were handled are those of the input, each with its reply, and the replies were
-- sent. At most this many bytes of the input may be taken, and one more
pub record IsServed (tools : ToolsOf) (most : ℕ) (end : SessionEnd) (dealing : Dealing) (left : Option (List ℕ))
    (sent_before sent_after : List ℕ) (handled : List Handled) : Type 0 where
  pub session : IsSession tools dealing.before dealing.asked handled dealing.after
  pub lines : IfSome left (AreHandled most end (map (λ one. one.line) handled))
  pub sent : AreSent most end left (map (λ one. one.line) handled) sent_before sent_after
      (flat_map (λ one. one.reply) handled)

-- how many rows and groups were read for some lines
abbrev pub all_read : List Handled → ℕ
all_read handled = sum_by (λ one. one.read) handled

-- a line has the command AGG, and its reply says that there was no memory
abbrev pub is_agg_without_memory : Handled → Bool
is_agg_without_memory handled =
    is_some (argument_of (codes "AGG") handled.line) && bytes_eq handled.reply no_memory_reply

-- this many rows has the version of the cube of some aggregate table that was the present one at some place of the history,
-- at the session's begin or after it
abbrev pub AreOfVersion : Dealing → ℕ → Type 0
AreOfVersion dealing rows =
    (table : ℕ) × (front : ℕ) × (length dealing.before.cache.entries ≤ front)
    × (rows ≡ present_rows (catalog_of dealing.before) (take front dealing.after.cache.entries) table)

-- for the lines of a session at most so much was read as its entries cost its seat, and for each AGG that found no memory the
-- rows of one version
pub record ReadsFew (dealing : Dealing) (handled : List Handled) : Type 0 where
  pub unbuilt : List ℕ
  pub each : length unbuilt ≤ length (filter is_agg_without_memory handled)
  pub versions : All (AreOfVersion dealing) unbuilt
  pub at_most : all_read handled ≤ costs_of dealing + sum unbuilt
