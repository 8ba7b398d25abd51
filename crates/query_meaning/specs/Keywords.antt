-- The keywords of queries and of flushes.
use Rattle.std.specs.Prelude.{ℕ, List, codes}
use Rattle.query_meaning.specs.declared.keyword.Keyword.{Keyword}
use Rattle.query_meaning.specs.declared.keyword.Keyword.TheVariants as keyword

-- a keyword in capital letters
abbrev pub keyword_text : Keyword → List ℕ
keyword_text keyword.Select = codes "SELECT"
keyword_text keyword.On = codes "ON"
keyword_text keyword.Columns = codes "COLUMNS"
keyword_text keyword.Zero = codes "0"
keyword_text keyword.Rows = codes "ROWS"
keyword_text keyword.One = codes "1"
keyword_text keyword.From = codes "FROM"
keyword_text keyword.Where = codes "WHERE"
keyword_text keyword.Non = codes "NON"
keyword_text keyword.Empty = codes "EMPTY"
keyword_text keyword.Crossjoin = codes "CROSSJOIN"
keyword_text keyword.Members = codes "MEMBERS"
keyword_text keyword.Children = codes "CHILDREN"
keyword_text keyword.Member = codes "MEMBER"
keyword_text keyword.Range = codes "RANGE"
keyword_text keyword.Measures = codes "MEASURES"
keyword_text keyword.Union = codes "UNION"
