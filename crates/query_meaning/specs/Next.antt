-- Grammars over tokens are written by what comes next: `Next kind Then` is a token of this kind, and then what `Then`
-- says.
use Rattle.std.specs.Prelude.{◌≡◌, ℕ, List, [], ◌∷◌}
use Rattle.query_meaning.specs.declared.token.Token.{Token}
use Rattle.query_meaning.specs.Tokens.{Placed, At}

-- what tokens may come
abbrev pub Tokens : Type 1
Tokens = List Placed → Type 0

-- a token of this kind, and then what `Then` says
abbrev pub Next : Token → Tokens → Tokens
Next kind Then [] = ⊥
Next kind Then (At at other ∷ ts) = (other ≡ kind) × Then ts

-- a token of this kind at this byte, and then what `Then` says
abbrev pub NextAt : ℕ → Token → Tokens → Tokens
NextAt at kind Then [] = ⊥
NextAt at kind Then (At place other ∷ ts) = (place ≡ at) × (other ≡ kind) × Then ts

-- nothing more
abbrev pub End : Tokens
End ts = ts ≡ []
