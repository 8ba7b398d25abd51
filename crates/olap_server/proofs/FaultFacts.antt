-- Which answers tell a fault.
use Rattle.std.proofs.Common.{◌≡◌, ◌+◌, ◌∷◌, ◌⊎◌, inl, inr, ℕ, List, Option, Some, None}
use Rattle.std.specs.Option.{IsSomeAnd, option_or}
use Rattle.olap_meaning.specs.FileQuery.{FileFault, FileQuery, no_column, not_number, record_fault, first_fault}
use Rattle.olap_server.specs.declared.fault.CellFault.{CellFault}
use Rattle.olap_server.specs.declared.fault.CellFault.TheVariants.{OutOfMemory as NoMemory}
use Rattle.olap_server.specs.Faults.{told_fault, TellsFault, MissesColumn}

-- the answer to a missing column tells it, where there was memory for its name
pub missed_or_not : (answer : CellFault) (missing : Option (List ℕ)) (name : List ℕ) → missing ≡ Some name → (answer ≡ told_fault (no_column name)) ⊎ (answer ≡ NoMemory) → (answer ≡ NoMemory) ⊎ MissesColumn answer missing
missed_or_not answer missing name found (inl told) = inr (rw found told)
missed_or_not answer missing name found (inr none) = inl none

first_of : (o p : Option FileFault) (P : FileFault → Type 0) → IsSomeAnd o P → IsSomeAnd (option_or o p) P
first_of None p P h = absurd h
first_of (Some fault) p P h = h

-- the fault of a record that comes next is the first fault of the records that are left
pub tells_first : (answer : CellFault) (query : FileQuery) (header : List (List ℕ)) (n : ℕ) (row : List (List ℕ)) (rows left : List (List (List ℕ))) (first : Option FileFault) → left ≡ row ∷ rows → first_fault query header n left ≡ first
    → (answer ≡ NoMemory) ⊎ TellsFault answer (record_fault query header n row) → (answer ≡ NoMemory) ⊎ TellsFault answer first
tells_first answer query header n row rows left first next same (inl none) = inl none
tells_first answer query header n row rows left first next same (inr told) =
    inr (rw (← same, next) (first_of (record_fault query header n row) (first_fault query header (n + 1) rows) (λ fault. answer ≡ told_fault fault) told))

-- a field that is no number is the fault of its record, where there was memory for the column's name
pub no_number : (answer : CellFault) (n : ℕ) (column : List ℕ) (found : Option FileFault) → found ≡ Some (not_number n column) → (answer ≡ told_fault (not_number n column)) ⊎ (answer ≡ NoMemory) → (answer ≡ NoMemory) ⊎ TellsFault answer found
no_number answer n column found is (inl told) = inr (rw is told)
no_number answer n column found is (inr none) = inl none
