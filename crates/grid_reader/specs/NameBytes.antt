-- How a name text is written byte by byte, and where it ends. A text is the list of its bytes.
use Rattle.std.specs.Prelude.{ℕ, ◌≡◌, ◌≢◌, ◌++◌, ◌==◌, List, [], ◌∷◌, flat_map, if◌then◌else◌}

-- a byte of a name, as its name text has it: a closing bracket twice; a backslash, a tab, a carriage return and a
-- line feed after a backslash
abbrev pub name_byte : ℕ → List ℕ
name_byte b = if b == 93 then 93 ∷ 93 ∷ [] else if b == 92 then 92 ∷ 92 ∷ [] else if b == 9
    then 92 ∷ 116 ∷ [] else if b == 13 then 92 ∷ 114 ∷ [] else if b == 10 then 92 ∷ 110 ∷ []
    else b ∷ []

-- the byte of a name for which a letter stands after a backslash
abbrev pub unescaped : ℕ → ℕ
unescaped letter = if letter == 116 then 9 else if letter == 114 then 13 else if letter == 110
    then 10 else letter

-- no closing bracket comes next
abbrev pub NoBracket : List ℕ → Type 0
NoBracket text = (others : List ℕ) → text ≢ 93 ∷ others

-- a text is this name, its closing bracket and this rest, which does not double the bracket
pub record IsNameTo (text name rest : List ℕ) : Type 0 where
  pub parts : text ≡ flat_map name_byte name ++ 93 ∷ rest
  pub ends : NoBracket rest
