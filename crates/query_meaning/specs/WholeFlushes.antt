-- How a flush is written.
use Rattle.std.specs.Prelude.{ℕ, List, false}
use Rattle.std.specs.Str.{IsUtf8, chars}
use Rattle.query_meaning.specs.declared.region_text.RegionText.{RegionText}
use Rattle.query_meaning.specs.Tokens.{Placed, Spells}
use Rattle.query_meaning.specs.FlushGrammar.{IsFlush}

-- the text writes this flush: it is UTF-8, and its characters spell the flush's tokens
pub record WritesFlush (text : List ℕ) (q : RegionText) : Type 0 where
  pub utf8 : IsUtf8 text
  pub tokens : List Placed
  pub spelled : Spells false 0 tokens (chars text)
  pub is_flush : IsFlush tokens q
