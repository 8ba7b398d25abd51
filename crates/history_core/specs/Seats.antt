-- What a seat has done in a history, and whether loads fly in it.
use Rattle.std.specs.Prelude.{ℕ, ◌≡◌, ◌==◌, Bool, List, Option, Some, None, false, filter}
use Rattle.olap_meaning.specs.declared.cells.Who.{Who}
use Rattle.olap_meaning.specs.History as history
use Rattle.olap_meaning.specs.History.{Entry, Append, Agg, Flush, Start, Done, Drop, Evict, Answer, Saw, Load}

-- who did what an entry says; an eviction is nobody's
abbrev pub actor : Entry → Option Who
actor (Append who cube version rows) = Some who
actor (Agg who table version) = Some who
actor (Flush who region) = Some who
actor (Start load) = Some load.who
actor (Done who load) = Some who
actor (Drop who load) = Some who
actor (Evict load) = None
actor (Answer who cells) = Some who
actor (Saw who) = Some who

-- an entry is of a seat
abbrev pub is_of_seat : ℕ → Entry → Bool
is_of_seat seat entry = history.is_some_and (λ who. who.seat == seat) (actor entry)

-- the entries of a seat, in order
abbrev pub entries_of : List Entry → ℕ → List Entry
entries_of history seat = filter (is_of_seat seat) history

-- no load flies
abbrev pub NoneFlies : List Entry → Type 0
NoneFlies entries = (j : ℕ) → history.flying entries j ≡ false

-- no load of a seat flies
abbrev pub SeatIsIdle : List Entry → ℕ → Type 0
SeatIsIdle entries seat =
    (j : ℕ) (load : Load) → history.load_at entries j ≡ Some load → load.who.seat ≡ seat
    → history.flying entries j ≡ false
