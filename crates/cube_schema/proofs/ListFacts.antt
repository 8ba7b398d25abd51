-- Lists under keys: the items of an array, and what a list that was read says.
use Rattle.std.proofs.Common.{◌≡◌, ◌+◌, List, [], ◌∷◌, ◌++◌, length, map, Result, Ok, refl, ap, subst, arith, length-append}
use Rattle.std.proofs.lemmas.List.Elements.{All-nil, All-push}
use Rattle.std.specs.List.{All}
use Rattle.serde_json.specs.Data.{Data}
use Rattle.serde_json.specs.declared.value.Value.{Value}
use Rattle.serde_json.specs.View.{items_view, view}
use Rattle.cube_schema.specs.declared.fault.SchemaFault.{SchemaFault}
use Rattle.cube_schema.specs.declared.place.SchemaKey.{SchemaKey}
use Rattle.cube_schema.specs.declared.place.SchemaNode.{SchemaNode}
use Rattle.cube_schema.specs.declared.place.SchemaPlace.{SchemaPlace}
use Rattle.cube_schema.specs.declared.place.SchemaPlace.TheVariants.{Key}
use Rattle.cube_schema.specs.Fields.{list_at, listed}
use Rattle.cube_schema.specs.Lists.{items_at, items_from}
use Rattle.cube_schema.proofs.StepFacts.{both-ok}

pub listed_view : (values : List Value) → listed (items_view values) ≡ map view values
listed_view [] = refl
listed_view (v ∷ vs) = ap (λ ds. view v ∷ ds) (listed_view vs)

-- as many items are read as there are
pub items_from-length : {A : Type 0} (item : List A → Data → Result A SchemaFault) (earlier : List A) (items : List Data) (found : List A)
    → items_from item earlier items ≡ Ok found → length found ≡ length earlier + length items
unfolding items_from
items_from-length item earlier [] found e = let same : earlier ≡ found = cc in rw same (omega arith)
items_from-length item earlier (v ∷ vs) found e =
    let s = both-ok (item earlier v) _ found e in
    let h = items_from-length item (earlier ++ s.0 ∷ []) vs found s.2 in
    omega (arith, h, length-append earlier (s.0 ∷ []))

-- what holds before, and again with each item that is read, holds of all that are read
pub items_from-keep : {A : Type 0} (item : List A → Data → Result A SchemaFault) (P : List A → Type 0)
    → ((earlier : List A) (v : Data) (x : A) → item earlier v ≡ Ok x → P earlier → P (earlier ++ x ∷ []))
    → (earlier : List A) (items : List Data) (found : List A) → P earlier → items_from item earlier items ≡ Ok found → P found
unfolding items_from
items_from-keep item P step earlier [] found h e = let same : earlier ≡ found = cc in subst P same h
items_from-keep item P step earlier (v ∷ vs) found h e =
    let s = both-ok (item earlier v) _ found e in
    items_from-keep item P step (earlier ++ s.0 ∷ []) vs found (step earlier v s.0 s.1 h) s.2

-- a list that was read: its items, that they are as many as may be, and that they were read
pub record IsListRead {A : Type 0} (place : SchemaPlace) (size : SchemaPlace → List Data → Result (Unit {0}) SchemaFault) (item : List A → Data → Result A SchemaFault) (found : List A) : Type 0 where
  pub items : List Data
  pub sized : size place items ≡ Ok tt
  pub read : items_from item [] items ≡ Ok found

pub items_at-parts : {A : Type 0} (node : SchemaNode) (key : SchemaKey) (size : SchemaPlace → List Data → Result (Unit {0}) SchemaFault) (item : List A → Data → Result A SchemaFault) (v : Data) (found : List A)
    → items_at node key size item v ≡ Ok found → IsListRead (Key node key) size item found
unfolding items_at
items_at-parts node key size item v found e =
    let items = both-ok (list_at node key v) _ found e in
    let sized = both-ok (size (Key node key) items.0) _ found items.2 in
    record { items = items.0; sized = sized.1; read = sized.2 }

-- what holds of each item that is read holds of all that are
pub all-read : {A : Type 0} (P : A → Type 0) (node : SchemaNode) (key : SchemaKey) (size : SchemaPlace → List Data → Result (Unit {0}) SchemaFault) (item : List A → Data → Result A SchemaFault) (v : Data) (found : List A)
    → ((earlier : List A) (w : Data) (x : A) → item earlier w ≡ Ok x → P x) → items_at node key size item v ≡ Ok found → All P found
all-read P node key size item v found each e =
    let parts = items_at-parts node key size item v found e in
    items_from-keep item (All P) (λ earlier w x is h. All-push P earlier x h (each earlier w x is)) [] parts.items found (All-nil P) parts.read
