-- Texts that show the values of cells. A text is the list of its bytes.
use Rattle.std.specs.Prelude.{ℕ, ◌≡◌, ◌||◌, ◌==◌, Bool, not, List, [], filter}
use Rattle.olap_meaning.specs.declared.CellValue.{CellValue}
use Rattle.olap_meaning.specs.Texts.{plain_text}

-- neither a comma nor a space
abbrev pub is_kept : ℕ → Bool
is_kept b = not (b == 44 || b == 32)

-- a text without its commas and spaces
abbrev pub bare : List ℕ → List ℕ
bare text = filter is_kept text

-- a tab, a carriage return or a line feed
abbrev pub is_break : ℕ → Bool
is_break b = b == 9 || b == 13 || b == 10

-- the tabs, carriage returns and line feeds of a text
abbrev pub breaks : List ℕ → List ℕ
breaks text = filter is_break text

-- a text shows a value: it stands within one field of one line, and without its commas and spaces it is the plain text
abbrev pub Shows : CellValue → List ℕ → Type 0
Shows value text = (breaks text ≡ []) × (bare text ≡ plain_text value)
