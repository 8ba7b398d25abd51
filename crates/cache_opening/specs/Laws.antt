-- What follows of an opening where the files are told.
use Rattle.std.specs.Prelude.{◌≡◌, List, Some, Result, Ok, Err, ⊤}
use Rattle.outside.specs.Fetched.{Fetched}
use Rattle.outside.specs.Told.{Files}
use Rattle.cache_opening.specs.declared.fault.OpenFault.{OpenFault}
use Rattle.cache_opening.specs.declared.fault.OpenFault.TheVariants.{Source, OutOfMemory}
use Rattle.cache_opening.specs.Asking.{Asking, Leads}
use Rattle.cache_opening.specs.Opening.{Opening, in_files}

-- an outcome is that of these files: this is made of them, or this is their fault. A failure and want of memory say
-- nothing of the files
abbrev pub IsIn : {A : Type 0} → Files → Asking A → Result A OpenFault → Type 0
IsIn all asking (Ok x) = in_files all asking ≡ Ok x
IsIn all asking (Err Source) = ⊤
IsIn all asking (Err OutOfMemory) = ⊤
IsIn all asking (Err fault) = in_files all asking ≡ Err fault

-- where a depot tells its files, what its answers lead to is the opening of these files, or their fault
abbrev pub OpeningsAreOfTheirFiles : Type 0
OpeningsAreOfTheirFiles =
    (all : Files) (before after : List Fetched) (asking : Asking Opening)
    (outcome : Result Opening OpenFault) → Leads (Some all) before after asking outcome
    → IsIn all asking outcome
