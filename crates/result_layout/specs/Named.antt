-- Titles with names.
use Rattle.std.specs.Prelude.{ℕ, ◌≡◌, List, ◌∷◌, All}
use Rattle.query_meaning.specs.Titles.{IsTitleName, TitleName, names_text}

-- a text is that of some names, one at least
pub record IsNamed (text : List ℕ) : Type 0 where
  pub first : TitleName
  pub others : List TitleName
  pub named : All IsTitleName (first ∷ others)
  pub is : text ≡ names_text (first ∷ others)
