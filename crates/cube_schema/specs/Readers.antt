-- What a reader answers where it has no value.
use Rattle.std.specs.Prelude.{◌≡◌, ◌⊎◌, Result, Err}
use Rattle.cube_schema.specs.declared.fault.SchemaFault.{SchemaFault}
use Rattle.cube_schema.specs.declared.fault.SchemaFault.TheVariants.{OutOfMemory}

-- the fault is that of a definition, or want of memory
abbrev pub IsFaultOf : {A : Type 0} → Result A SchemaFault → SchemaFault → Type 0
IsFaultOf meaning fault = (fault ≡ OutOfMemory) ⊎ (meaning ≡ Err fault)
