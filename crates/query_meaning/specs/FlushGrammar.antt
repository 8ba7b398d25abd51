-- The grammar of flushes, over the tokens of queries:
--
-- flush  = name region
-- region = MEMBER "(" path ")" | RANGE "(" path "," path ")" | MEASURES
--        | CROSSJOIN "(" region { "," region } ")" | UNION "(" region { "," region } ")"
-- path   = name { "." name }
--
-- The outermost region has depth 1, a part of a region is one deeper, and no region has a depth above 16.
use Rattle.std.specs.Prelude.{ℕ, zero, suc, List}
use Rattle.query_meaning.specs.declared.token.Token.TheVariants.{Sign, Name}
use Rattle.query_meaning.specs.Tokens.{Placed}
use Rattle.query_meaning.specs.Next.{Tokens, Next, End}
use Rattle.query_meaning.specs.declared.region_text.Joins.{Joins}
use Rattle.query_meaning.specs.declared.region_text.Joins.TheVariants as joins
use Rattle.query_meaning.specs.declared.region_text.RegionText.{RegionText}
use Rattle.query_meaning.specs.declared.keyword.Keyword.{Keyword}
use Rattle.query_meaning.specs.declared.keyword.Keyword.TheVariants as keyword
use Rattle.query_meaning.specs.RegionTree.{RegionTree, RegionTrees, Member, Range, Measures, Parts, none, more}
use Rattle.query_meaning.specs.Grammar.{Key, Path, depths_below}

-- the keyword that joins parts
abbrev pub joins_key : Joins → Keyword
joins_key joins.Crossjoin = keyword.Crossjoin
joins_key joins.Union = keyword.Union

-- IsRegion left region Then tokens: a region below which `left` depths are left, and then what `Then` says
abbrev mutual
  pub IsRegion : ℕ → RegionTree → Tokens → Tokens
  IsRegion left (Member path) Then ts =
      Key keyword.Member (Next (Sign 40) (Path path (Next (Sign 41) Then))) ts
  IsRegion left (Range first last) Then ts =
      Key keyword.Range
      (Next (Sign 40) (Path first (Next (Sign 44) (Path last (Next (Sign 41) Then))))) ts
  IsRegion left Measures Then ts = Key keyword.Measures Then ts
  IsRegion zero (Parts joined parts) Then ts = ⊥
  IsRegion (suc left) (Parts joined parts) Then ts =
      Key (joins_key joined) (Next (Sign 40) (AreParts left parts (Next (Sign 41) Then))) ts

  -- one or more regions below which `left` depths are left, with a comma between two, and then what `Then` says
  pub AreParts : ℕ → RegionTrees → Tokens → Tokens
  AreParts left none Then ts = ⊥
  AreParts left (more part parts) Then ts = IsRegion left part (MoreParts left parts Then) ts

  -- regions below which `left` depths are left, with a comma before each, and then what `Then` says
  pub MoreParts : ℕ → RegionTrees → Tokens → Tokens
  MoreParts left none Then ts = Then ts
  MoreParts left (more part parts) Then ts =
      Next (Sign 44) (IsRegion left part (MoreParts left parts Then)) ts

-- the tokens are a flush
abbrev pub IsFlush : List Placed → RegionText → Type 0
IsFlush ts q = Next (Name q.cube) (IsRegion depths_below q.region End) ts
