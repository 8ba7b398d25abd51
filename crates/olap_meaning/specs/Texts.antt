-- How values and names are written. A text is the list of its bytes.
use Rattle.std.specs.Prelude.{ℕ, ◌++◌, ◌/◌, ◌%◌, ◌==◌, ◌≤◌, ◌^◌, List, [], ◌∷◌, Option, Some, None, ℤ, pos, negsuc, bytes_eq, codes, flat_map, encode_utf8, if◌then◌else◌}
use Rattle.std.specs.Fmt.{decimal, signed_decimal}
use Rattle.std.specs.Str.{chars}
use Rattle.std.specs.Int.RustNames.{unsigned_abs}
use Rattle.olap_meaning.specs.declared.Aggregator.{Aggregator}
use Rattle.olap_meaning.specs.declared.Aggregator.TheVariants.{Sum, Count, Min, Max, Avg, DistinctCount}
use Rattle.olap_meaning.specs.declared.CellValue.{CellValue}
use Rattle.olap_meaning.specs.declared.CellValue.TheVariants.{Empty, Whole, Hundredths}
use Rattle.olap_meaning.specs.declared.texts.Written.{Written}
use Rattle.olap_meaning.specs.declared.texts.Written.TheVariants.{Fixed, Made}

-- a minus sign, before a number below zero
abbrev pub sign : ℤ → List ℕ
sign (pos n) = []
sign (negsuc n) = codes "-"

-- a number below 100 in two digits
abbrev pub two_digits : ℕ → List ℕ
two_digits n = decimal (n / 10) ++ decimal (n % 10)

-- the plain text of a value: nothing for an empty cell; hundredths with two digits after the dot
abbrev pub plain_text : CellValue → List ℕ
plain_text Empty = []
plain_text (Whole n) = signed_decimal n
plain_text (Hundredths n) =
    sign n ++ decimal (unsigned_abs n / 100) ++ codes "." ++ two_digits (unsigned_abs n % 100)

-- the size of a value's number, whatever its sign; 0 for an empty cell
abbrev pub size : CellValue → ℕ
size Empty = 0
size (Whole n) = unsigned_abs n
size (Hundredths n) = unsigned_abs n

-- a value that can be shown: empty, or a number from -2^100 to 2^100
abbrev pub CanBeShown : CellValue → Type 0
CanBeShown value = size value ≤ 2 ^ 100

-- a character of a name, as its name text has it: a closing bracket twice; a backslash, a tab, a carriage return
-- and a line feed after a backslash
abbrev pub name_character : ℕ → List ℕ
name_character c = if c == 93 then codes "]]" else if c == 92 then 92 ∷ 92 ∷ [] else if c == 9
    then 92 ∷ codes "t" else if c == 13 then 92 ∷ codes "r" else if c == 10 then 92 ∷ codes "n"
    else encode_utf8 c

-- the name text of a name: in brackets, so that it has no end but its own and stands on one line
abbrev pub name_text : List ℕ → List ℕ
name_text name = codes "[" ++ flat_map name_character (chars name) ++ codes "]"

-- a line: a text and a line feed
abbrev pub line : List ℕ → List ℕ
line text = text ++ 10 ∷ []

-- a line of a label and a name
abbrev pub named_line : List ℕ → List ℕ → List ℕ
named_line label name = line (label ++ codes " " ++ name_text name)

-- the bytes of a text that is written
abbrev pub text_of : Written → List ℕ
text_of (Fixed text) = text.now
text_of (Made text) = text

-- the aggregator of a name, as schemas and command lines spell it
abbrev pub aggregator_named : List ℕ → Option Aggregator
aggregator_named name =
    if bytes_eq name (codes "sum") then Some Sum
    else if bytes_eq name (codes "count") then Some Count
    else if bytes_eq name (codes "min") then Some Min
    else if bytes_eq name (codes "max") then Some Max
    else if bytes_eq name (codes "avg") then Some Avg
    else if bytes_eq name (codes "distinct-count") then Some DistinctCount
    else None
