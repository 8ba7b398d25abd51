-- The words after a dot.
use Rattle.std.specs.Prelude.{Bool, true, false}
use Rattle.query_meaning.specs.declared.keyword.Keyword.{Keyword}
use Rattle.query_meaning.specs.declared.keyword.Keyword.TheVariants as keyword

-- the keyword after a dot
abbrev pub suffix_key : Bool → Keyword
suffix_key true = keyword.Children
suffix_key false = keyword.Members
