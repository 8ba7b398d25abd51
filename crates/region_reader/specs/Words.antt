-- Which keywords begin a region, and how.
use Rattle.std.specs.Prelude.{ℕ, List, ◌<◌}
use Rattle.query_meaning.specs.declared.keyword.Keyword.{Keyword}
use Rattle.query_meaning.specs.declared.keyword.Keyword.TheVariants as keyword
use Rattle.query_meaning.specs.Keywords.{keyword_text}
use Rattle.text_forms.specs.Words.{Begins}

-- the keyword may begin a region below which `left` depths are left
abbrev pub BeginsRegion : ℕ → Keyword → Type 0
BeginsRegion left keyword.Member = Unit {0}
BeginsRegion left keyword.Range = Unit {0}
BeginsRegion left keyword.Measures = Unit {0}
BeginsRegion left keyword.Crossjoin = 0 < left
BeginsRegion left keyword.Union = 0 < left
BeginsRegion left other = ⊥

-- such a keyword begins with these letters
abbrev pub MayBegin : ℕ → List ℕ → Type 0
MayBegin left front = (k : Keyword) × BeginsRegion left k × Begins front (keyword_text k)

-- none begins with them
abbrev pub MayNotBegin : ℕ → List ℕ → Type 0
MayNotBegin left front = (k : Keyword) → BeginsRegion left k → ¬ Begins front (keyword_text k)
