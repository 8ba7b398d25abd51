-- The titles of members and tuples. A text is the list of its bytes.
use Rattle.std.specs.Prelude.{ℕ, ◌≡◌, ◌≢◌, ◌++◌, Bool, true, false, List, [], ◌∷◌, All, codes, flat_map, map, slice_get, unwrap_or}
use Rattle.std.specs.Str.{is_utf8}
use Rattle.olap_meaning.specs.declared.tables.Catalog.{Catalog}
use Rattle.olap_meaning.specs.declared.cells.Member.{Member}
use Rattle.olap_meaning.specs.declared.cells.Member.TheVariants as member
use Rattle.olap_meaning.specs.declared.cells.LevelRef.TheVariants.{Measures, Whole}
use Rattle.olap_meaning.specs.Texts.{name_text}
use Rattle.olap_meaning.specs.Catalog.{values, box, member_name, root_name}

-- a dot and the name text of a value's text in its column
abbrev pub value_part : Catalog → ℕ × ℕ → List ℕ
value_part catalog pair =
    codes "." ++ name_text (unwrap_or (slice_get (values catalog pair.0) pair.1) [])

-- the title of a member: of a measure below Measures; of an all member below its hierarchy's full name; of another
-- member the hierarchy's full name and the values of its path from the top, of which a path without values has none
abbrev pub title : Catalog → ℕ → Member → List ℕ
title catalog cube (member.Measure m) =
    name_text (root_name catalog Measures) ++ codes "."
    ++ name_text (member_name catalog cube (member.Measure m))
title catalog cube (member.All h) =
    name_text (root_name catalog (Whole h)) ++ codes "."
    ++ name_text (member_name catalog cube (member.All h))
title catalog cube (member.At h path) =
    name_text (root_name catalog (Whole h))
    ++ flat_map (value_part catalog) (box catalog (member.At h path))

-- texts in a row, with a text between each two
abbrev pub joined_by : List ℕ → List (List ℕ) → List ℕ
joined_by between [] = []
joined_by between (first ∷ others) = first ++ flat_map (λ other. between ++ other) others

-- the title of a tuple: those of its members, with a comma and a space between each two
abbrev pub tuple_title : Catalog → ℕ → List Member → List ℕ
tuple_title catalog cube tuple = joined_by (codes ", ") (map (title catalog cube) tuple)

-- a name in a title, with what stands before it where another does: a comma and a space where it begins a member, or
-- else a dot
pub record TitleName : Type 0 where
  pub begins : Bool
  pub name : List ℕ

-- what stands before a name that another goes before
abbrev pub mark : Bool → List ℕ
mark true = codes ", "
mark false = codes "."

-- a name text after its mark
abbrev pub marked_name : TitleName → List ℕ
marked_name one = mark one.begins ++ name_text one.name

-- name texts in a row, each after its mark but the first
abbrev pub names_text : List TitleName → List ℕ
names_text [] = []
names_text (first ∷ others) = name_text first.name ++ flat_map marked_name others

-- a name that may stand in a title: a text of UTF-8 that is not empty
abbrev pub IsTitleName : TitleName → Type 0
IsTitleName one = (one.name ≢ []) × (is_utf8 one.name ≡ true)

-- a text has the form of a title: name texts with a dot or a comma and a space between each two, or nothing
pub record IsTitle (text : List ℕ) : Type 0 where
  pub names : List TitleName
  pub named : All IsTitleName names
  pub is : text ≡ names_text names
