-- Why a flush means no region, as the code says it.
use Rattle.std.specs.Prelude.{ℕ, ◌≡◌, ◌⊎◌, Option, Some, None, Result, Err, IsSomeAnd}
use Rattle.olap_catalog.specs.declared.fault.NameFault.{NameFault}
use Rattle.olap_catalog.specs.declared.fault.NameFault.TheVariants as name_fault
use Rattle.olap_meaning.specs.Catalog.{find_cube}
use Rattle.olap_meaning.specs.MemberOf.{IsMemberOf}
use Rattle.olap_meaning.specs.declared.tables.Catalog.{Catalog}
use Rattle.query_meaning.specs.declared.region_text.RegionText.{RegionText}
use Rattle.query_meaning.specs.RegionMeaning.{RegionRefusal}
use Rattle.query_meaning.specs.RegionMeaning as refusal
use Rattle.region_algebra.specs.declared.fault.RegionFault.{RegionFault}
use Rattle.region_algebra.specs.declared.fault.RegionFault.TheVariants as fault

-- why a flush means no region, where a fault says so
abbrev pub refusal_of : RegionFault → Option RegionRefusal
refusal_of (fault.UnknownCube name) = Some (refusal.NoCube name)
refusal_of (fault.UnknownMember name) = Some (refusal.NoMember name)
refusal_of (fault.CommonDimension dimension) = Some (refusal.CommonDimension dimension)
refusal_of (fault.Mismatch first second) = Some (refusal.Mismatch first second)
refusal_of fault.NoMeasures = Some refusal.NoMeasures
refusal_of (fault.RangeLevels first second) = Some (refusal.RangeLevels first second)
refusal_of (fault.TooManyBoxes count limit) = Some (refusal.TooManyBoxes count limit)
refusal_of fault.OutOfMemory = None

-- an outcome is refused as a fault says, or memory was short
abbrev pub IsFaultOf : {A : Type 0} → RegionFault → Result A RegionRefusal → Type 0
IsFaultOf f outcome =
    (f ≡ fault.OutOfMemory) ⊎ IsSomeAnd (refusal_of f) (λ refused. outcome ≡ Err refused)

-- a reason is the one that a fault says, or memory was short
abbrev pub IsReason : RegionFault → Option RegionRefusal → Type 0
IsReason f reason =
    (f ≡ fault.OutOfMemory) ⊎ IsSomeAnd (refusal_of f) (λ refused. reason ≡ Some refused)

-- the fault of a path that the catalog does not know
abbrev pub fault_of : NameFault → RegionFault
fault_of (name_fault.UnknownMember name) = fault.UnknownMember name
fault_of name_fault.OutOfMemory = fault.OutOfMemory

-- the members that a fault of levels names are ones of a cube
abbrev pub NamesMembers : Catalog → ℕ → RegionFault → Type 0
NamesMembers catalog cube (fault.RangeLevels first second) =
    IsMemberOf catalog cube first × IsMemberOf catalog cube second
NamesMembers catalog cube _ = Unit {0}

-- the members that a fault of levels names are ones of the cube that a text names
abbrev pub NamesMembersOf : Catalog → RegionText → RegionFault → Type 0
NamesMembersOf catalog text (fault.RangeLevels first second) =
    IsSomeAnd (find_cube catalog text.cube)
    (λ cube. IsMemberOf catalog cube first × IsMemberOf catalog cube second)
NamesMembersOf catalog text _ = Unit {0}
