-- Names in brackets.
use Rattle.std.specs.Prelude.{◌≡◌, ◌≢◌, ◌⊎◌, ◌++◌, ◌+◌, ℕ, List, [], ◌∷◌, encode_utf8, encode_utf8_all}
use Rattle.query_meaning.specs.Tokens.{escaped, size}

-- in a name, after the bytes `front` of it, at the byte `at`: its other characters come and its "]", it has a
-- character, and then what `Then` says of the byte after it, of the name's bytes and of the characters that follow
pub record InName (front : List ℕ) (Then : ℕ → List ℕ → List ℕ → Type 0) (at : ℕ) (cs : List ℕ)
    : Type 0 where
  pub more : List ℕ
  pub rest : List ℕ
  pub some : front ++ encode_utf8_all more ≢ []
  pub parts : cs ≡ escaped more ++ 93 ∷ rest
  pub goes : Then (at + size (escaped more) + 1) (front ++ encode_utf8_all more) rest

-- after a "]" in a name, which ended it or is the first of two
abbrev pub Closing : List ℕ → (ℕ → List ℕ → List ℕ → Type 0) → ℕ → List ℕ → Type 0
Closing front Then at cs =
    ((front ≢ []) × Then at front cs)
    ⊎ ((rest : List ℕ) × (cs ≡ 93 ∷ rest)
    × InName (front ++ encode_utf8 93) Then (at + 1) rest)

-- a name in brackets, and then what `Then` says
abbrev pub Name : (ℕ → List ℕ → List ℕ → Type 0) → ℕ → List ℕ → Type 0
Name Then at cs = (rest : List ℕ) × (cs ≡ 91 ∷ rest) × InName [] Then (at + 1) rest
