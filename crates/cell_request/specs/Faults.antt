-- Why a query means no axes, as the code says it.
use Rattle.std.specs.Prelude.{◌≡◌, Option, Some, None, Result, Err, IfSome}
use Rattle.olap_catalog.specs.declared.fault.NameFault.{NameFault}
use Rattle.olap_catalog.specs.declared.fault.NameFault.TheVariants as name_fault
use Rattle.query_meaning.specs.Resolution.{Refusal}
use Rattle.query_meaning.specs.Resolution as refusal
use Rattle.cell_request.specs.declared.fault.ResolveFault.{ResolveFault}
use Rattle.cell_request.specs.declared.fault.ResolveFault.TheVariants as fault

-- why a query means no axes, where a fault says so
abbrev pub refusal_of : ResolveFault → Option Refusal
refusal_of (fault.UnknownCube name) = Some (refusal.NoCube name)
refusal_of (fault.UnknownMember name) = Some (refusal.NoMember name)
refusal_of (fault.AxisTwice hierarchy) = Some (refusal.AxisTwice hierarchy)
refusal_of (fault.MixedSet at) = Some (refusal.MixedSet at)
refusal_of (fault.TooManyCells count limit) = Some (refusal.TooManyCells count limit)
refusal_of fault.OutOfMemory = None

-- an outcome is refused as a fault says, or memory was short
abbrev pub IsFaultOf : {A : Type 0} → ResolveFault → Result A Refusal → Type 0
IsFaultOf fault outcome = IfSome (refusal_of fault) (λ refused. outcome ≡ Err refused)

-- a reason is the one that a fault says, or memory was short
abbrev pub IsReason : ResolveFault → Option Refusal → Type 0
IsReason fault reason = IfSome (refusal_of fault) (λ refused. reason ≡ Some refused)

-- the fault of a path that the catalog does not know
abbrev pub fault_of : NameFault → ResolveFault
fault_of (name_fault.UnknownMember name) = fault.UnknownMember name
fault_of name_fault.OutOfMemory = fault.OutOfMemory
