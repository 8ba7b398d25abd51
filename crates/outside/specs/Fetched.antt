-- What a depot was asked for, and how the logic stores it.
use Rattle.std.specs.Prelude.{◌≡◌, ◌==◌, ℕ, List, [], Result, Ok, Err, cond, refl}
use Rattle.std.specs.Coded.{Coded, code_by, coded×, coded_ℕ, coded_list}
use Rattle.outside.specs.declared.depot.DepotRefusal.{DepotRefusal}
use Rattle.outside.specs.declared.depot.DepotRefusal.TheVariants.{Missing, Failed, OutOfMemory}

-- a name that was asked for, and what came: the bytes of its file, or why they were not given
abbrev pub Fetched : Type 0
Fetched = List ℕ × Result (List ℕ) DepotRefusal

abbrev to_parts : Fetched → ℕ × (List ℕ × List ℕ)
to_parts (name, Ok bytes) = (0, (name, bytes))
to_parts (name, Err Missing) = (1, (name, []))
to_parts (name, Err Failed) = (2, (name, []))
to_parts (name, Err OutOfMemory) = (3, (name, []))

abbrev from_parts : ℕ × (List ℕ × List ℕ) → Fetched
from_parts p = (p.1.0, cond (p.0 == 0) (Ok p.1.1) (cond (p.0 == 1) (Err Missing) (cond (p.0 == 2) (Err Failed) (Err OutOfMemory))))

pub from_parts-to_parts : (f : Fetched) → from_parts (to_parts f) ≡ f
from_parts-to_parts (name, Ok bytes) = refl
from_parts-to_parts (name, Err Missing) = refl
from_parts-to_parts (name, Err Failed) = refl
from_parts-to_parts (name, Err OutOfMemory) = refl

abbrev pub fetched_code : Coded (List Fetched)
fetched_code = coded_list (code_by (ℕ × (List ℕ × List ℕ)) (coded× coded_ℕ (coded× (coded_list coded_ℕ) (coded_list coded_ℕ))) to_parts from_parts from_parts-to_parts)
