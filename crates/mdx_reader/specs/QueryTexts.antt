-- What the reader of queries answers.
use Rattle.std.specs.Prelude.{◌≡◌, ℕ, List, Result, Ok, Err}
use Rattle.text_forms.specs.Forms.{StopsAt}
use Rattle.query_meaning.specs.declared.query.Query.{Query}
use Rattle.query_meaning.specs.WholeQueries.{WritesQuery}
use Rattle.mdx_reader.specs.declared.query_reader.QueryFault.{QueryFault}
use Rattle.mdx_reader.specs.declared.query_reader.QueryFault.TheVariants.{SyntaxAt, OutOfMemory}

-- the query that the text writes, which is its one query; or the byte at which it stops, where it writes none; or a want
-- of memory
abbrev pub ReadsQuery : List ℕ → Result Query QueryFault → Type 0
ReadsQuery text (Ok query) =
    WritesQuery text query × ((other : Query) → WritesQuery text other → other ≡ query)
ReadsQuery text (Err (SyntaxAt byte)) = StopsAt WritesQuery text byte
ReadsQuery text (Err OutOfMemory) = Unit {0}
