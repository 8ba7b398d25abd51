-- The list under a key, whose items are read one after another.
use Rattle.std.specs.Prelude.{ℕ, List, [], ◌∷◌, ◌++◌, length, Result, Ok}
use Rattle.olap_meaning.specs.Results.{◌>>=◌}
use Rattle.serde_json.specs.Data.{Data}
use Rattle.cube_schema.specs.declared.fault.SchemaFault.{SchemaFault}
use Rattle.cube_schema.specs.declared.place.SchemaKey.{SchemaKey}
use Rattle.cube_schema.specs.declared.place.SchemaNode.{SchemaNode}
use Rattle.cube_schema.specs.declared.place.SchemaPlace.{SchemaPlace}
use Rattle.cube_schema.specs.declared.place.SchemaPlace.TheVariants.{Key}
use Rattle.cube_schema.specs.Fields.{list_at, within, filled}

-- some items, read one after another after earlier ones: each knows those before it, and the first fault is the
-- answer
unfoldable pub items_from : {A : Type 0} → (List A → Data → Result A SchemaFault) → List A
    → List Data → Result (List A) SchemaFault
items_from item earlier [] = Ok earlier
items_from item earlier (value ∷ more) = do
  found ← item earlier value
  items_from item (earlier ++ found ∷ []) more

-- a list may have any number of items
abbrev pub any_number : SchemaPlace → List Data → Result (Unit {0}) SchemaFault
any_number place items = Ok tt

-- a list may have this many items at most
abbrev pub at_most : ℕ → SchemaPlace → List Data → Result (Unit {0}) SchemaFault
at_most limit place items = within place (length items) limit

-- a list has at least one item: else the first is missing
abbrev pub some : SchemaNode → SchemaPlace → List Data → Result (Unit {0}) SchemaFault
some first place items = filled first items

-- a list has at least one item, and this many at most
abbrev pub some_at_most : SchemaNode → ℕ → SchemaPlace → List Data → Result (Unit {0}) SchemaFault
some_at_most first limit place items = do
  _ ← within place (length items) limit
  filled first items

-- the list under a key, as long as it may be: its items are read one after another, each knowing those before it
unfoldable pub items_at :
    {A : Type 0} → SchemaNode → SchemaKey
    → (SchemaPlace → List Data → Result (Unit {0}) SchemaFault)
    → (List A → Data → Result A SchemaFault) → Data → Result (List A) SchemaFault
items_at node key size item whole = do
  items ← list_at node key whole
  _ ← size (Key node key) items
  items_from item [] items
