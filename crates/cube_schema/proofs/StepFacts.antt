-- What a walk that went well says of its steps.
use Rattle.std.proofs.Common.{◌≡◌, ℕ, ◌≤◌, List, [], ◌∷◌, length, Result, Ok, Err, refl, arith}
use Rattle.olap_meaning.specs.Results.{◌>>=◌}
use Rattle.serde_json.specs.Data.{Data}
use Rattle.cube_schema.specs.declared.fault.SchemaFault.{SchemaFault}
use Rattle.cube_schema.specs.declared.place.SchemaNode.{SchemaNode}
use Rattle.cube_schema.specs.declared.place.SchemaPlace.{SchemaPlace}
use Rattle.cube_schema.specs.Fields.{within, filled}

-- a success, with the type of its faults
abbrev pub success : {A : Type 0} → A → Result A SchemaFault
success a = Ok a

-- where two steps went well, each did
pub both-ok : {A B : Type 0} (r : Result A SchemaFault) (f : A → Result B SchemaFault) (b : B) → (r >>= f) ≡ Ok b → (a : A) × (r ≡ Ok a) × (f a ≡ Ok b)
both-ok (Ok a) f b e = (a, refl, e)
both-ok (Err fault) f b e = absurd (let n : ⊥ = cc in n)

pub same-ok : {A : Type 0} (a b : A) → success a ≡ success b → a ≡ b
same-ok a b e = cc

pub within-ok : (place : SchemaPlace) (count limit : ℕ) (u : Unit {0}) → within place count limit ≡ Ok u → count ≤ limit
within-ok place count limit u e = grind arith

pub filled-ok : (first : SchemaNode) (items : List Data) (u : Unit {0}) → filled first items ≡ Ok u → 1 ≤ length items
filled-ok first [] u e = absurd (let n : ⊥ = cc in n)
filled-ok first (d ∷ ds) u e = omega arith
