-- The argument that is nothing but white.
use Rattle.std.specs.Prelude.{ℕ, List}
use Rattle.text_forms.specs.White.{White, End}
use Rattle.command_arguments.specs.declared.blank.BlankReader.{BlankReader}

-- the characters are white
abbrev pub IsBlank : ℕ → List ℕ → Unit {0} → Type 0
IsBlank at cs value = White End cs

-- what may still come
abbrev pub rest_of : BlankReader → ℕ → List ℕ → Unit {0} → Type 0
rest_of state = IsBlank
