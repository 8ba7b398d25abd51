-- Steps one after another, each with a value or a refusal.
use Rattle.std.specs.Prelude.{Option, None, Some, Result, Ok, Err}

infixl 10 ◌>>=◌
-- a step and what follows it: the first refusal of both
abbrev pub ◌>>=◌ : {A B E : Type 0} → Result A E → (A → Result B E) → Result B E
(Ok x) >>= f = f x
(Err e) >>= f = Err e

-- an outcome whose refusal is told as another
abbrev pub refused_as : {A E F : Type 0} → (E → F) → Result A E → Result A F
refused_as told (Ok x) = Ok x
refused_as told (Err e) = Err (told e)

-- what is answered, where there is no fault
abbrev pub unless : {A E : Type 0} → Option E → Result A E → Result A E
unless None answer = answer
unless (Some fault) answer = Err fault
