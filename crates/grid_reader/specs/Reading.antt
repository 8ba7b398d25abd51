-- What parts of a grid are read as. A text is the list of its bytes.
use Rattle.std.specs.Prelude.{ℕ, ◌≡◌, List, Option, Some}
use Rattle.query_meaning.specs.Titles.{IsTitle}

-- what something is read as, by a relation: x exactly where the relation says that it is x
abbrev pub ReadsAs : {A B : Type 0} → (A → B → Type 0) → A → Option B → Type 0
ReadsAs {A} {B} is from read = (x : B) → (read ≡ Some x → is from x) × (is from x → read ≡ Some x)

-- a text has the form of a title, and is this one
abbrev pub IsTitleAt : List ℕ → List ℕ → Type 0
IsTitleAt text title = IsTitle text × (title ≡ text)
