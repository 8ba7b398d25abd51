-- Where the files are told, what comes is that of the files.
use Rattle.std.proofs.Common.{◌≡◌, refl, ℕ, List, [], Some, Result, Ok, Err}
use Rattle.std.specs.Prelude.{All}
use Rattle.std.proofs.lemmas.List.Elements.{All-head, All-tail}
use Rattle.outside.specs.Fetched.{Fetched}
use Rattle.outside.specs.Told.{Files, file_named}
use Rattle.outside.specs.declared.depot.DepotRefusal.TheVariants as depot
use Rattle.cache_opening.specs.declared.fault.OpenFault.{OpenFault}
use Rattle.cache_opening.specs.declared.fault.OpenFault.TheVariants.{NoFile, Schema, Table, Batch, TooManyRows, Aggregate, Source, OutOfMemory}
use Rattle.cache_opening.specs.Asking.{Asking, ask, refused, Comes, value, refuses, found, missing, failed, wanting, unnamed, stopped}
use Rattle.outside.specs.Told.{IsOf}
use Rattle.cache_opening.specs.Laws.{IsIn}

-- a fault is that of the files
refused_in : (A : Type 0) (all : Files) (fault : OpenFault) → IsIn {A = A} all (refused fault) (Err fault)
refused_in A all (NoFile n) = refl
refused_in A all (Schema f) = refl
refused_in A all (Table n f) = refl
refused_in A all (Batch n f) = refl
refused_in A all (TooManyRows n total limit) = refl
refused_in A all (Aggregate n f) = refl
refused_in A all Source = tt
refused_in A all OutOfMemory = tt

module _ {A : Type 0} (all : Files) where
  -- a file is there: what comes of its bytes comes of the whole
  found_in : (name bytes : List ℕ) (rest : List ℕ → Asking A) (outcome : Result A OpenFault) → file_named all name ≡ Some bytes → IsIn all (rest bytes) outcome → IsIn all (ask name rest) outcome
  found_in name bytes rest (Ok x) at h = rw at h
  found_in name bytes rest (Err (NoFile n)) at h = rw at h
  found_in name bytes rest (Err (Schema f)) at h = rw at h
  found_in name bytes rest (Err (Table n f)) at h = rw at h
  found_in name bytes rest (Err (Batch n f)) at h = rw at h
  found_in name bytes rest (Err (TooManyRows n total limit)) at h = rw at h
  found_in name bytes rest (Err (Aggregate n f)) at h = rw at h
  found_in name bytes rest (Err Source) at h = tt
  found_in name bytes rest (Err OutOfMemory) at h = tt

  pub comes_in : {asking : Asking A} {answers : List Fetched} {outcome : Result A OpenFault} → Comes asking answers outcome → All (IsOf all) answers → IsIn all asking outcome
  comes_in value theirs = refl
  comes_in (refuses {fault}) theirs = refused_in A all fault
  comes_in (found {name} {bytes} {rest} {answers} {outcome} h) theirs =
      found_in name bytes rest outcome (All-head (IsOf all) (name, Ok bytes) answers theirs) (comes_in h (All-tail (IsOf all) (name, Ok bytes) answers theirs))
  comes_in (missing {name} {rest}) theirs = let none = All-head (IsOf all) (name, Err depot.Missing) [] theirs in rw none refl
  comes_in failed theirs = tt
  comes_in wanting theirs = tt
  comes_in unnamed theirs = tt
  comes_in stopped theirs = tt
