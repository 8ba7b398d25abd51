-- How a query is written.
use Rattle.std.specs.Prelude.{ℕ, List, false}
use Rattle.std.specs.Str.{IsUtf8, chars}
use Rattle.query_meaning.specs.declared.query.Query.{Query}
use Rattle.query_meaning.specs.Tokens.{Placed, Spells}
use Rattle.query_meaning.specs.Grammar.{IsQuery}

-- the text writes this query: it is UTF-8, and its characters spell the query's tokens
pub record WritesQuery (text : List ℕ) (q : Query) : Type 0 where
  pub utf8 : IsUtf8 text
  pub tokens : List Placed
  pub spelled : Spells false 0 tokens (chars text)
  pub is_query : IsQuery tokens q
