-- The argument that is a name in brackets.
use Rattle.std.specs.Prelude.{◌≡◌, ℕ, List}
use Rattle.text_forms.specs.White.{White, End}
use Rattle.text_forms.specs.Names.{Name, InName, Closing}
use Rattle.command_arguments.specs.declared.name.NameReader.{NameReader}
use Rattle.command_arguments.specs.declared.name.NameReader.TheVariants as reader

-- after the name: it is this one, and nothing but white comes
abbrev pub Ended : List ℕ → ℕ → List ℕ → List ℕ → Type 0
Ended own at name cs = (own ≡ name) × White End cs

-- argument = name, with white around it
abbrev pub IsName : ℕ → List ℕ → List ℕ → Type 0
IsName at cs own = White (Name (Ended own) 0) cs

-- what may still come
abbrev pub rest_of : NameReader → ℕ → List ℕ → List ℕ → Type 0
rest_of reader.Before at cs own = IsName at cs own
rest_of (reader.InName name) at cs own = InName name (Ended own) 0 cs
rest_of (reader.Closing name) at cs own = Closing name (Ended own) 0 cs
rest_of (reader.Behind name) at cs own = Ended own 0 name cs

-- nothing needs to hold of a state
abbrev pub fits : NameReader → Type 0
fits state = Unit {0}
