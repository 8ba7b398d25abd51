-- What shown texts are read as.
use Rattle.std.specs.Prelude.{ℕ, ◌≡◌, Bool, true, false, pos, neg_ℤ, List, ℤ, Option, Some}
use Rattle.olap_meaning.specs.declared.CellValue.{CellValue}
use Rattle.olap_meaning.specs.Texts.{CanBeShown, plain_text}
use Rattle.query_meaning.specs.Shown.{bare}

-- what a text is read as: a value exactly where the value can be shown and the text, without its commas and spaces, is
-- its plain text
abbrev pub IsReadAs : List ℕ → Option CellValue → Type 0
IsReadAs text read =
    (value : CellValue)
    → (read ≡ Some value → CanBeShown value × (bare text ≡ plain_text value))
    × (CanBeShown value → bare text ≡ plain_text value → read ≡ Some value)

-- a number by its sign and its size
abbrev pub signed : Bool → ℕ → ℤ
signed true size = neg_ℤ (pos size)
signed false size = pos size
