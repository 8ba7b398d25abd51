-- What stands at the keys of an object: a value of the right kind, or the first fault.
use Rattle.std.specs.Prelude.{ℕ, ◌==◌, List, [], ◌∷◌, length, slice_index, Bool, true, false, not, ◌&&◌, ◌||◌, nat_lt, nat_le, Option, Some, None, Result, Ok, Err, if◌then◌else◌}
use Rattle.std.specs.List.{list_all}
use Rattle.std.specs.Str.{is_utf8}
use Rattle.olap_meaning.specs.Results.{◌>>=◌}
use Rattle.serde_json.specs.Data.{Data, boolean, string, array, object, Items, no_items, item}
use Rattle.serde_json.specs.Find.{get}
use Rattle.serde_json.specs.Read.{read}
use Rattle.cube_schema.specs.declared.fault.SchemaFault.{SchemaFault}
use Rattle.cube_schema.specs.declared.fault.SchemaFault.TheVariants.{NotJson, Missing, WrongKind, TooMany}
use Rattle.cube_schema.specs.declared.place.SchemaKey.{SchemaKey}
use Rattle.cube_schema.specs.declared.place.SchemaNode.{SchemaNode}
use Rattle.cube_schema.specs.declared.place.SchemaPlace.{SchemaPlace}
use Rattle.cube_schema.specs.declared.place.SchemaPlace.TheVariants.{Node, Key}
use Rattle.cube_schema.specs.Places.{key_text}

-- a fault where a test is true
abbrev pub refused_if : Bool → SchemaFault → Result (Unit {0}) SchemaFault
refused_if true fault = Err fault
refused_if false fault = Ok tt

-- the value that the bytes are, by `serde_json`'s grammar
unfoldable pub json_of : List ℕ → Option Data
json_of bytes = if is_utf8 bytes then read bytes else None

-- a JSON value that must be there
abbrev pub json_or_fault : Option Data → Result Data SchemaFault
json_or_fault None = Err NotJson
json_or_fault (Some d) = Ok d

-- a value that must be an object
abbrev pub object_at : SchemaNode → Data → Result Data SchemaFault
object_at node (object ms) = Ok (object ms)
object_at node _ = Err (WrongKind (Node node))

-- a value that must be there
abbrev pub there : SchemaPlace → Option Data → Result Data SchemaFault
there place None = Err (Missing place)
there place (Some d) = Ok d

-- the value at a key that must be there
unfoldable pub value_at : SchemaNode → SchemaKey → Data → Result Data SchemaFault
value_at node key d = there (Key node key) (get (key_text key) d)

-- a text that must not be empty
abbrev pub filled_text : SchemaPlace → List ℕ → Result (List ℕ) SchemaFault
filled_text place [] = Err (WrongKind place)
filled_text place (b ∷ bs) = Ok (b ∷ bs)

-- a name: a text that is not empty
abbrev pub name_of : SchemaPlace → Data → Result (List ℕ) SchemaFault
name_of place (string s) = filled_text place s
name_of place _ = Err (WrongKind place)

-- the name at a key
unfoldable pub name_at : SchemaNode → SchemaKey → Data → Result (List ℕ) SchemaFault
name_at node key d = do
  value ← value_at node key d
  name_of (Key node key) value

-- a name that need not be there
abbrev pub name_if_there : SchemaPlace → Option Data → Result (Option (List ℕ)) SchemaFault
name_if_there place None = Ok None
name_if_there place (Some d) = do
  name ← name_of place d
  Ok (Some name)

-- the name at a key that need not be there
unfoldable pub optional_name_at : SchemaNode → SchemaKey → Data
    → Result (Option (List ℕ)) SchemaFault
optional_name_at node key d = name_if_there (Key node key) (get (key_text key) d)

-- an ASCII letter or digit, `_`, `-` or `.`
abbrev pub is_file_byte : ℕ → Bool
is_file_byte b =
    (nat_le 65 b && nat_le b 90) || (nat_le 97 b && nat_le b 122) || (nat_le 48 b && nat_le b 57)
    || (b == 95) || (b == 45) || (b == 46)

-- a file name: 1 to 64 such bytes, of which the first is no `.`
unfoldable pub is_file_name : List ℕ → Bool
is_file_name name =
    nat_le 1 (length name) && nat_le (length name) 64 && not (slice_index name 0 == 46)
    && list_all is_file_byte name

-- a text that must be a file name
abbrev pub file_of : SchemaPlace → Data → Result (List ℕ) SchemaFault
file_of place (string s) = if is_file_name s then Ok s else Err (WrongKind place)
file_of place _ = Err (WrongKind place)

-- the file name at a key
unfoldable pub file_at : SchemaNode → SchemaKey → Data → Result (List ℕ) SchemaFault
file_at node key d = do
  value ← value_at node key d
  file_of (Key node key) value

-- a file name that need not be there
abbrev pub file_if_there : SchemaPlace → Option Data → Result (Option (List ℕ)) SchemaFault
file_if_there place None = Ok None
file_if_there place (Some d) = do
  name ← file_of place d
  Ok (Some name)

-- the file name at a key that need not be there
unfoldable pub optional_file_at : SchemaNode → SchemaKey → Data
    → Result (Option (List ℕ)) SchemaFault
optional_file_at node key d = file_if_there (Key node key) (get (key_text key) d)

-- true or false, or a default where nothing stands
abbrev pub bool_or : SchemaPlace → Bool → Option Data → Result Bool SchemaFault
bool_or place default None = Ok default
bool_or place default (Some (boolean b)) = Ok b
bool_or place default (Some _) = Err (WrongKind place)

-- true or false at a key that need not be there
unfoldable pub bool_at : SchemaNode → SchemaKey → Bool → Data → Result Bool SchemaFault
bool_at node key default d = bool_or (Key node key) default (get (key_text key) d)

-- the items of an array, as a list
abbrev pub listed : Items → List Data
listed no_items = []
listed (item d ds) = d ∷ listed ds

-- a value that must be a list
abbrev pub list_of : SchemaPlace → Data → Result (List Data) SchemaFault
list_of place (array ds) = Ok (listed ds)
list_of place _ = Err (WrongKind place)

-- the items of the list at a key
unfoldable pub list_at : SchemaNode → SchemaKey → Data → Result (List Data) SchemaFault
list_at node key d = do
  value ← value_at node key d
  list_of (Key node key) value

-- a fault where a list of this many items is too long
abbrev pub within : SchemaPlace → ℕ → ℕ → Result (Unit {0}) SchemaFault
within place count limit = refused_if (nat_lt limit count) (TooMany place count limit)

-- a fault where a list has no item: its first is missing
abbrev pub filled : SchemaNode → List Data → Result (Unit {0}) SchemaFault
filled first [] = Err (Missing (Node first))
filled first (d ∷ ds) = Ok tt
