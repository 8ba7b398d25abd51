-- What the objects outside hold, where they tell it.
use Rattle.std.specs.Prelude.{◌≡◌, ◌++◌, ℕ, List, [], ◌∷◌, All, Option, Some, None, Ok, Err, IfSome, ⊤, option_map, take, bytes_eq, if◌then◌else◌}
use Rattle.outside.specs.Fetched.{Fetched}
use Rattle.outside.specs.declared.depot.DepotRefusal.TheVariants as depot

-- some bytes from the front of these were taken, and no others
abbrev pub TakesFront : List ℕ → List ℕ → List ℕ → Type 0
TakesFront before after bytes = (n : ℕ) × (after ≡ before ++ take n bytes)

-- these bytes were taken off the front of what was left, and no others
abbrev pub TakenOff : Option (List ℕ) → Option (List ℕ) → List ℕ → Type 0
TakenOff before after bytes = before ≡ option_map (λ rest. bytes ++ rest) after

-- some files, each with its name
abbrev pub Files : Type 0
Files = List (List ℕ × List ℕ)

-- the bytes of the file of this name: the first, where two have one name
abbrev pub file_named : Files → List ℕ → Option (List ℕ)
file_named [] name = None
file_named (file ∷ files) name = if bytes_eq file.0 name then Some file.1 else file_named files name

-- an answer is that of these files: the bytes are those of the file of this name, or no file has this name. A failure
-- and want of memory say nothing of the files
abbrev pub IsOf : Files → Fetched → Type 0
IsOf all (name, Ok bytes) = file_named all name ≡ Some bytes
IsOf all (name, Err depot.Missing) = file_named all name ≡ None
IsOf all (name, Err depot.Failed) = ⊤
IsOf all (name, Err depot.OutOfMemory) = ⊤

-- answers are those of a depot's files, where it tells them
abbrev pub AreTheirs : Option Files → List Fetched → Type 0
AreTheirs files answers = IfSome files (λ all. All (IsOf all) answers)
