-- What a depot is asked for, one file after another, and what comes of its answers.
use Rattle.std.specs.Prelude.{◌≡◌, ◌++◌, ℕ, List, [], ◌∷◌, Option, Result, Ok, Err}
use Rattle.outside.specs.Fetched.{Fetched}
use Rattle.outside.specs.Told.{Files, AreTheirs}
use Rattle.outside.specs.declared.depot.DepotRefusal.TheVariants as depot
use Rattle.cache_opening.specs.declared.fault.OpenFault.{OpenFault}
use Rattle.cache_opening.specs.declared.fault.OpenFault.TheVariants.{NoFile, Source, OutOfMemory}

-- what is still to be asked for: nothing, where a value is made or there is a fault; or the file of this name, and then
-- what its bytes call for
pub data Asking (A : Type 0) : Type 0 where
  made : A → Asking A
  refused : OpenFault → Asking A
  ask : List ℕ → (List ℕ → Asking A) → Asking A

infixl 10 ◌>>=◌
-- one asking and then the next, which follows from the value that the first has made; a fault ends both
abbrev pub ◌>>=◌ : {A B : Type 0} → Asking A → (A → Asking B) → Asking B
(made x) >>= next = next x
(refused fault) >>= next = refused fault
(ask name rest) >>= next = ask name (λ bytes. rest bytes >>= next)

-- the file of this name is asked for, and its bytes are the value
abbrev pub bytes_of : List ℕ → Asking (List ℕ)
bytes_of name = ask name (λ bytes. made bytes)

-- what a reader makes of the bytes of a file, or the fault that it finds, as it is told
abbrev pub read_by : {A Fault : Type 0} → (Fault → OpenFault) → Result A Fault → Asking A
read_by told (Ok x) = made x
read_by told (Err fault) = refused (told fault)

-- Comes asking answers outcome: just these names were asked for, in this order, these answers came, and this is the
-- outcome
pub data Comes {A : Type 0} : Asking A → List Fetched → Result A OpenFault → Type 0 where
  -- a value is made, and nothing more is asked for
  value : {x : A} → Comes (made x) [] (Ok x)
  -- there is a fault, and nothing more is asked for
  refuses : {fault : OpenFault} → Comes (refused fault) [] (Err fault)
  -- the bytes of a file came, and then what they call for
  found : {name bytes : List ℕ} {rest : List ℕ → Asking A} {answers : List Fetched} {outcome : Result A OpenFault}
      → Comes (rest bytes) answers outcome → Comes (ask name rest) ((name, Ok bytes) ∷ answers) outcome
  -- no file has the name
  missing : {name : List ℕ} {rest : List ℕ → Asking A}
      → Comes (ask name rest) ((name, Err depot.Missing) ∷ []) (Err (NoFile name))
  -- the file could not be read
  failed : {name : List ℕ} {rest : List ℕ → Asking A}
      → Comes (ask name rest) ((name, Err depot.Failed) ∷ []) (Err Source)
  -- the depot had no memory for the file
  wanting : {name : List ℕ} {rest : List ℕ → Asking A}
      → Comes (ask name rest) ((name, Err depot.OutOfMemory) ∷ []) (Err OutOfMemory)
  -- no file has the name, and there was no memory to tell which
  unnamed : {name : List ℕ} {rest : List ℕ → Asking A}
      → Comes (ask name rest) ((name, Err depot.Missing) ∷ []) (Err OutOfMemory)
  -- there was no memory to go on, and nothing more is asked for
  stopped : {asking : Asking A} → Comes asking [] (Err OutOfMemory)

-- between two states of a depot just those answers came that lead to this outcome. Where the depot tells its files,
-- each answer is theirs
pub record Leads {A : Type 0} (files : Option Files) (before after : List Fetched)
    (asking : Asking A) (outcome : Result A OpenFault) : Type 0 where
  pub answers : List Fetched
  pub added : after ≡ before ++ answers
  pub comes : Comes asking answers outcome
  pub theirs : AreTheirs files answers
