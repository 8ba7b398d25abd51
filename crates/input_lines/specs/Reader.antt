-- What a reader of lines holds and tells.
use Rattle.std.specs.Prelude.{◌≡◌, ◌≢◌, ◌++◌, ◌<◌, ◌≤◌, ◌⊎◌, ◌==◌, ◌-◌, ◌+◌, ⊤, ℕ, Bool, true, false, List, [], ◌∷◌, Option, Some, None, IfSome, Result, Ok, Err, option_map, length, take, drop, slice_index, if◌then◌else◌}
use Rattle.std.specs.List.{position_or_len}
use Rattle.outside.specs.Event.{Event, gave, ended, gave_not}
use Rattle.outside.specs.Told.{TakenOff}
use Rattle.outside.specs.declared.source.Failed.{Failed}
use Rattle.query_meaning.specs.Lines.{FirstLine, TooMany, Begins, HasNoLf, line_limit}
use Rattle.input_lines.specs.declared.next.Next.{Next}
use Rattle.input_lines.specs.declared.next.Next.TheVariants.{Line, TooLong, End, Spent}
use Rattle.input_lines.specs.declared.next.Found.{Found}
use Rattle.input_lines.specs.declared.next.Found.TheVariants as found

-- the line that was given last; the bytes that were received, may be lines, and are not yet given; how many bytes more
-- may be lines; the byte after all these, where it has come; and whether the end has come
pub record Reading : Type 0 where
  pub line : List ℕ
  pub held : List ℕ
  pub room : ℕ
  pub beyond : List ℕ
  pub ended : Bool

-- all the bytes that are not yet given: those that a reader holds, and then the link's, where it tells them
abbrev pub not_given : Reading → Option (List ℕ) → Option (List ℕ)
not_given reading left =
    option_map (λ rest. reading.held ++ (reading.beyond ++ rest)) left

-- how many of these may be lines
abbrev pub allowed : Reading → ℕ
allowed reading = length reading.held + reading.room

-- a byte that ends a line
abbrev pub is_lf : ℕ → Bool
is_lf byte = byte == 10

-- how many bytes stand before the first LF, or before the end where there is no LF
abbrev pub line_length : List ℕ → ℕ
line_length bytes = position_or_len is_lf bytes

-- these bytes without a CR that is the last of them
abbrev pub without_cr : List ℕ → List ℕ
without_cr bytes =
    if slice_index bytes (length bytes - 1) == 13 then take (length bytes - 1) bytes else bytes

-- no LF is among the bytes that may be lines, which are no more than a line may have; and one byte more comes
pub record IsSpent (bytes : List ℕ) (most : ℕ) : Type 0 where
  pub more : most < length bytes
  pub none : HasNoLf (take most bytes)
  pub short : most ≤ line_limit

-- a line comes, which with its end is among the bytes that may be lines; after it the rest is left, of which this many
-- may be
pub record GivesLine (bytes : List ℕ) (most : ℕ) (line rest : List ℕ) (left : ℕ) : Type 0 where
  pub size : ℕ
  pub begins : Begins bytes (FirstLine line rest)
  pub size_is : length bytes ≡ size + length rest
  pub within : most ≡ size + left

-- an answer tells what the bytes that were not given begin with, of which at most this many may be lines
abbrev pub TellsOf : List ℕ → ℕ → Next → List ℕ → List ℕ → ℕ → Type 0
TellsOf bytes most Line line rest left = GivesLine bytes most line rest left
TellsOf bytes most TooLong line rest left = Begins (take most bytes) TooMany
TellsOf bytes most End line rest left = bytes ≡ []
TellsOf bytes most Spent line rest left = IsSpent bytes most

-- the same, where the link tells its bytes
abbrev pub TellsFront : Option (List ℕ) → ℕ → Next → List ℕ → Option (List ℕ) → ℕ → Type 0
TellsFront (Some bytes) most next line (Some rest) left = TellsOf bytes most next line rest left
TellsFront None most next line None left = ⊤
TellsFront _ most next line _ left = ⊥

-- these bytes have an LF, or are too many without one: no byte more is needed to know what they begin with
abbrev pub NeedsNoMore : List ℕ → Type 0
NeedsNoMore held = (line_length held < length held) ⊎ (line_limit < length held)

-- where the end has come, no byte is left
abbrev pub IsAtEnd : Bool → Option (List ℕ) → Type 0
IsAtEnd over left = over ≡ true → IfSome left (λ bytes. bytes ≡ [])

-- a reader may receive: neither the end nor a byte too many has come
abbrev pub MayReceive : Reading → Type 0
MayReceive reading = (reading.beyond ≡ []) × (reading.ended ≡ false)

-- what a reader holds when these bytes came that may be lines
abbrev pub with_bytes : Reading → List ℕ → Reading
with_bytes reading bytes =
    record reading { held = reading.held ++ bytes; room = reading.room - length bytes }

-- why a reader has stopped to receive: what it holds says what comes next, or the end has come, or a byte has come
-- after all that may be lines, or a receive has failed
pub data Heard : Type 0 where
  enough : Heard
  at_end : Heard
  spent : Heard
  cut_off : Heard

-- Hears before events all heard: what passes from what a reader holds on until it stops to receive, and what it holds
-- then. It receives only while more is needed to know what comes next, and at most one byte after those that may be
-- lines
pub data Hears : Reading → List Event → Reading → Heard → Type 0 where
  -- nothing, since what is held says it
  known : {reading : Reading} → NeedsNoMore reading.held → Hears reading [] reading enough
  -- nothing, since a byte has come after all that may be lines
  beyond : {reading : Reading} → ¬ NeedsNoMore reading.held → reading.beyond ≢ []
      → Hears reading [] reading spent
  -- nothing, since the end has come before
  over : {reading : Reading} → ¬ NeedsNoMore reading.held → reading.beyond ≡ []
      → reading.ended ≡ true → Hears reading [] reading at_end
  -- the end comes
  ends : {reading : Reading} → ¬ NeedsNoMore reading.held → MayReceive reading
      → Hears reading (ended ∷ []) (record reading { ended = true }) at_end
  -- the receive fails
  fails : {reading : Reading} → ¬ NeedsNoMore reading.held → MayReceive reading
      → Hears reading (gave_not ∷ []) reading cut_off
  -- bytes come that may all be lines, and then the rest
  piece : {reading all : Reading} {events : List Event} {heard : Heard} (bytes : List ℕ)
      → ¬ NeedsNoMore reading.held → MayReceive reading → bytes ≢ [] → length bytes ≤ reading.room
      → Hears (with_bytes reading bytes) events all heard
      → Hears reading (gave bytes ∷ events) all heard
  -- bytes come of which the last is after all that may be lines
  piece_beyond : {reading all : Reading} {events : List Event} {heard : Heard} (bytes : List ℕ)
      (last : ℕ) → ¬ NeedsNoMore reading.held → MayReceive reading → length bytes ≡ reading.room
      → Hears (record (with_bytes reading bytes) { beyond = last ∷ [] }) events all heard
      → Hears reading (gave (bytes ++ last ∷ []) ∷ events) all heard

-- except for the line and the bytes that are held, a reader holds what it held
pub record KeepsRoom (all after : Reading) : Type 0 where
  pub room : after.room ≡ all.room
  pub beyond : after.beyond ≡ all.beyond
  pub ended : after.ended ≡ all.ended

-- a reader gives no line, and holds what it held
pub record Keeps (all after : Reading) : Type 0 where
  pub line : after.line ≡ []
  pub held : after.held ≡ all.held
  pub rest : KeepsRoom all after

-- a line is what the bytes that were held at last begin with; those after it are still held
pub record GivesHeldLine (all after : Reading) : Type 0 where
  pub begins : Begins all.held (FirstLine after.line after.held)
  pub rest : KeepsRoom all after

-- an answer says what comes next of the bytes that were held at last, by why the reader has stopped
abbrev pub SaysNext : Heard → Reading → Reading → Result Next Failed → Type 0
SaysNext enough all after (Ok Line) = GivesHeldLine all after
SaysNext enough all after (Ok TooLong) = Begins all.held TooMany × Keeps all after
SaysNext at_end all after (Ok Line) = GivesHeldLine all after
SaysNext at_end all after (Ok End) = (all.held ≡ []) × Keeps all after
SaysNext spent all after (Ok Spent) = Keeps all after
SaysNext cut_off all after (Err e) = Keeps all after
SaysNext heard all after told = ⊥

-- what comes next of an input is answered, and this has passed for it
pub record Tells (before : Reading) (events : List Event) (after : Reading)
    (told : Result Next Failed) : Type 0 where
  pub all : Reading
  pub heard : Heard
  pub hears : Hears before events all heard
  pub answer : SaysNext heard all after told

-- what was found in bytes that are held
abbrev pub IsFound : Found → List ℕ → Type 0
IsFound (found.Lf n) held = (n ≡ line_length held) × (n < length held) × (n ≤ line_limit)
IsFound found.TooLong held = line_limit < line_length held
IsFound found.Neither held = (line_length held ≡ length held) × (length held ≤ line_limit)
IsFound found.Spent held = ⊥

-- what a reader found that stops to receive
abbrev pub Finds : Found → Reading → Type 0
Finds found.Neither reading =
    IsFound found.Neither reading.held × (reading.beyond ≡ []) × (reading.ended ≡ true)
Finds found.Spent reading =
    IsFound found.Neither reading.held × (reading.beyond ≢ []) × (reading.room ≡ 0)
Finds found reading = IsFound found reading.held

-- why a reader has stopped that found this
abbrev pub heard_of : Result Found Failed → Heard
heard_of (Ok found.Neither) = at_end
heard_of (Ok found.Spent) = spent
heard_of (Ok _) = enough
heard_of (Err e) = cut_off

-- what a reader has heard until it stopped
pub record HasHeard (before after : List Event) (old new : Reading) (heard : Heard) : Type 0 where
  pub events : List Event
  pub passed : after ≡ before ++ events
  pub hears : Hears old events new heard

-- what one receive adds that gave these bytes: the end, where it gave none
abbrev pub received : List ℕ → List Event
received [] = ended ∷ []
received (byte ∷ bytes) = gave (byte ∷ bytes) ∷ []

-- what a reader holds when these bytes came, or the end, with none: those that may be lines stand after those that it
-- held, and one after them is apart
abbrev pub with_received : Reading → List ℕ → Reading
with_received reading bytes = record reading {
  held = reading.held ++ take reading.room bytes;
  room = reading.room - length bytes;
  beyond = drop reading.room bytes;
  ended = length bytes == 0;
}

-- a reader has received this many bytes, or the end
pub record HasReceived (before after : Option (List ℕ)) (talk told : List Event) (n : ℕ)
    (old new : Reading) : Type 0 where
  pub bytes : List ℕ
  pub size : length bytes ≡ n
  pub few : n ≤ old.room + 1
  pub taken : TakenOff before after bytes
  pub passed : told ≡ talk ++ received bytes
  pub now : new ≡ with_received old bytes

-- with what is left a reader holds the same bytes as before, of which as many may be lines
pub record HoldsSame (before after : Option (List ℕ)) (old new : Reading) : Type 0 where
  pub bytes : not_given new after ≡ not_given old before
  pub room : allowed new ≡ allowed old

-- a reader asks for nothing more, since what it holds says what comes next, or all that may be lines has come
abbrev pub NeedsNothing : Reading → Type 0
NeedsNothing reading = NeedsNoMore reading.held ⊎ (reading.beyond ≢ [])
