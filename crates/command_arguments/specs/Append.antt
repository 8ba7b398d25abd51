-- The argument that is a name in brackets and a file name.
use Rattle.std.specs.Prelude.{◌≡◌, ◌≢◌, ◌⊎◌, ◌==◌, ◌||◌, ◌++◌, ℕ, zero, suc, true, List, [], ◌∷◌, encode_utf8}
use Rattle.std.specs.Char.{is_ascii_alphanumeric}
use Rattle.text_forms.specs.White.{White, End}
use Rattle.text_forms.specs.Names.{Name, InName, Closing}
use Rattle.command_arguments.specs.declared.append.AppendArgument.{AppendArgument}
use Rattle.command_arguments.specs.declared.append.AppendReader.{AppendReader}
use Rattle.command_arguments.specs.declared.append.AppendReader.TheVariants as append

-- a letter or digit of ASCII, "_", "-" or "."
abbrev pub IsFileCharacter : ℕ → Type 0
IsFileCharacter c = (is_ascii_alphanumeric c || c == 95 || c == 45 || c == 46) ≡ true

-- at most `left` characters, which after those of `front` are `file`, and then what `Then` says
abbrev pub MoreFile : List ℕ → ℕ → List ℕ → (List ℕ → Type 0) → List ℕ → Type 0
MoreFile front left file Then [] = (file ≡ front) × Then []
MoreFile front zero file Then (c ∷ cs) = (file ≡ front) × Then (c ∷ cs)
MoreFile front (suc left) file Then (c ∷ cs) =
    (IsFileCharacter c × MoreFile (front ++ encode_utf8 c) left file Then cs)
    ⊎ ((file ≡ front) × Then (c ∷ cs))

-- 1 to 64 characters of a file name, which do not begin with ".", and then what `Then` says
abbrev pub File : List ℕ → (List ℕ → Type 0) → List ℕ → Type 0
File file Then [] = ⊥
File file Then (c ∷ cs) = IsFileCharacter c × (c ≢ 46) × MoreFile (encode_utf8 c) 63 file Then cs

-- after the name: it is the cube's, and a file name comes
abbrev pub Named : AppendArgument → ℕ → List ℕ → List ℕ → Type 0
Named q at name cs = (q.cube ≡ name) × White (File q.file (White End)) cs

-- append = name file, with white around and between them
abbrev pub IsAppend : ℕ → List ℕ → AppendArgument → Type 0
IsAppend at cs q = White (Name (Named q) 0) cs

-- what may still come
abbrev pub rest_of : AppendReader → ℕ → List ℕ → AppendArgument → Type 0
rest_of append.Before at cs q = IsAppend at cs q
rest_of (append.InName name) at cs q = InName name (Named q) 0 cs
rest_of (append.Closing name) at cs q = Closing name (Named q) 0 cs
rest_of (append.Between cube) at cs q = Named q 0 cube cs
rest_of (append.InFile cube file left) at cs q =
    (q.cube ≡ cube) × MoreFile file left q.file (White End) cs
rest_of (append.Behind cube file) at cs q = (q.cube ≡ cube) × (q.file ≡ file) × White End cs

-- nothing needs to hold of a state
abbrev pub fits : AppendReader → Type 0
fits state = Unit {0}
