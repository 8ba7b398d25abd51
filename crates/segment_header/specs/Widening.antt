-- What a load may allow in a column, by the values that are wanted there.
use Rattle.std.specs.Prelude.{ℕ, ◌≡◌, ◌⊎◌, ◌↔◌, ◌<◌, List, Bool, true, ◌&&◌, IsTrue, Result, Ok, length, nat_le, nat_lt}
use Rattle.std.specs.List.{list_all}
use denote.Param.Members.{Shared}
use denote.Ref.{Bor}
use Rattle.olap_meaning.specs.declared.schema.TheConstants.{RECORD_LIMIT}
use Rattle.olap_meaning.specs.declared.OutOfMemory.{OutOfMemory}
use Rattle.olap_meaning.specs.declared.cells.Allowed.{Allowed}
use Rattle.olap_meaning.specs.declared.cells.Allowed.TheVariants.{Any, Set}
use Rattle.olap_meaning.specs.Covering.{allows, among}
use Rattle.olap_meaning.specs.Legal.{rise}
use Rattle.segment_header.specs.Headers.{is_set}

-- values of a column are below the number of its values
abbrev pub are_below : ℕ → List ℕ → Bool
are_below count values = list_all (λ value. nat_lt value count) values

-- values that are wanted in a column of this many values: there is one, they rise, and are below the number. No column has
-- more values than a table has records
abbrev pub are_wanted : List ℕ → ℕ → Bool
are_wanted wanted count =
    nat_lt 0 (length wanted) && rise wanted && are_below count wanted && nat_le count RECORD_LIMIT

-- allowed values are a column's: any of them, or a set of values below their number
abbrev pub is_within : ℕ → Allowed → Bool
is_within count Any = true
is_within count (Set values) = are_below count values

-- allowed values serve those that are wanted: they are well formed, allow each wanted value, and are the column's
pub record Serves (wanted : List ℕ) (count : ℕ) (allowed : Allowed) : Type 0 where
  pub formed : IsTrue (is_set allowed)
  pub wide : IsTrue (list_all (allows allowed) wanted)
  pub within : IsTrue (is_within count allowed)

-- the plain answer: any value exactly where all values of the column are wanted, else the wanted set
pub record WidensPlainly (wanted : List ℕ) (count : ℕ) (allowed : Allowed) : Type 0 where
  pub any : allowed ≡ Any ↔ ((value : ℕ) → value < count → IsTrue (among wanted value))
  pub set : (allowed ≡ Any) ⊎ (allowed ≡ Set wanted)

-- a closure may answer so for these wanted values of a column of this many
pub record AnswersAt {F R : Type 0} (g : Shared F (Bor (List ℕ) × (ℕ × Unit {0})) R) (f : F)
    (wanted : List ℕ) (count : ℕ) (answer : R) : Type 0 where
  pub shown : Bor (List ℕ)
  pub shows : shown.now ≡ wanted
  pub says : g.post f (shown, (count, tt)) answer

-- what a load may be allowed in a column: which values, by those that are wanted there and the number of the column's
abbrev pub Allowing : Type 1
Allowing = List ℕ → ℕ → Allowed → Type 0

-- what is allowed where this is answered
abbrev pub Widened : (List ℕ → ℕ → Result Allowed OutOfMemory → Type 0) → Allowing
Widened answers wanted count allowed = answers wanted count (Ok allowed)
