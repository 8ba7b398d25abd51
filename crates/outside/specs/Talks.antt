-- What a talk says.
use Rattle.std.specs.Prelude.{◌==◌, ◌++◌, ℕ, suc, List, [], ◌∷◌, take, if◌then◌else◌}
use Rattle.outside.specs.Event.{Event, gave, took, ended, gave_not, took_not}

-- all the bytes that were given, in their order
abbrev pub given : List Event → List ℕ
given [] = []
given (gave bytes ∷ rest) = bytes ++ given rest
given (took bytes ∷ rest) = given rest
given (ended ∷ rest) = given rest
given (gave_not ∷ rest) = given rest
given (took_not ∷ rest) = given rest

-- all the bytes that were taken, in their order
abbrev pub taken : List Event → List ℕ
taken [] = []
taken (gave bytes ∷ rest) = taken rest
taken (took bytes ∷ rest) = bytes ++ taken rest
taken (ended ∷ rest) = taken rest
taken (gave_not ∷ rest) = taken rest
taken (took_not ∷ rest) = taken rest

-- how often a call has failed
abbrev pub failures : List Event → ℕ
failures [] = 0
failures (gave bytes ∷ rest) = failures rest
failures (took bytes ∷ rest) = failures rest
failures (ended ∷ rest) = failures rest
failures (gave_not ∷ rest) = suc (failures rest)
failures (took_not ∷ rest) = suc (failures rest)

-- what a read adds that gave so many bytes of a piece: these bytes; or the end, where it gave none
abbrev pub shown : ℕ → List ℕ → List Event
shown n piece = if n == 0 then ended ∷ [] else gave (take n piece) ∷ []

-- what a write adds that failed behind so many bytes
abbrev pub cut : ℕ → List ℕ → List Event
cut n bytes = took (take n bytes) ∷ took_not ∷ []
