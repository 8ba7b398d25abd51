-- The grammar of queries (MDX, "SELECT Statement"), over the tokens of a text:
--
-- query  = SELECT axis ON (COLUMNS | 0) [ "," axis ON (ROWS | 1) ] FROM name [ WHERE slicer ]
-- axis   = [ NON EMPTY ] set
-- set    = "{" [ set { "," set } ] "}" | CROSSJOIN "(" set "," set ")" | tuple | path [ "." (MEMBERS | CHILDREN) ]
-- tuple  = "(" path { "," path } ")"
-- slicer = path | tuple
-- path   = name { "." name }
--
-- The outermost set has depth 1, a set in braces or in a Crossjoin is one deeper, and no set has a depth above 16.
use Rattle.std.specs.Prelude.{◌≡◌, ◌⊎◌, ℕ, zero, suc, Bool, true, false, List, [], ◌∷◌, Option, Some, None}
use Rattle.query_meaning.specs.declared.token.Token.TheVariants.{Word, Sign, Name}
use Rattle.query_meaning.specs.Tokens.{Placed}
use Rattle.query_meaning.specs.Next.{Tokens, Next, NextAt, End}
use Rattle.query_meaning.specs.declared.set_text.Picks.{Picks}
use Rattle.query_meaning.specs.declared.set_text.Picks.TheVariants as picks
use Rattle.query_meaning.specs.declared.query.AxisText.{AxisText}
use Rattle.query_meaning.specs.declared.query.Query.{Query}
use Rattle.query_meaning.specs.declared.keyword.Keyword.{Keyword}
use Rattle.query_meaning.specs.declared.keyword.Keyword.TheVariants as keyword
use Rattle.query_meaning.specs.Keywords.{keyword_text}
use Rattle.query_meaning.specs.Tree.{Set, Sets, Braces, Cross, Tuple, Picked, none, more}

-- a keyword, and then what `Then` says
abbrev pub Key : Keyword → Tokens → Tokens
Key k Then ts = Next (Word (keyword_text k)) Then ts

-- names with a dot before each, and then what `Then` says
abbrev pub Dots : List (List ℕ) → Tokens → Tokens
Dots [] Then ts = Then ts
Dots (name ∷ names) Then ts = Next (Sign 46) (Next (Name name) (Dots names Then)) ts

-- a path, and then what `Then` says
abbrev pub Path : List (List ℕ) → Tokens → Tokens
Path [] Then ts = ⊥
Path (name ∷ names) Then ts = Next (Name name) (Dots names Then) ts

-- the same of a path that begins at this byte
abbrev pub PathAt : ℕ → List (List ℕ) → Tokens → Tokens
PathAt at [] Then ts = ⊥
PathAt at (name ∷ names) Then ts = NextAt at (Name name) (Dots names Then) ts

-- paths with a comma before each, and the end of their tuple
abbrev pub MorePaths : List (List (List ℕ)) → Tokens → Tokens
MorePaths [] Then ts = Next (Sign 41) Then ts
MorePaths (path ∷ paths) Then ts = Next (Sign 44) (Path path (MorePaths paths Then)) ts

-- the paths of a tuple, after its "("
abbrev pub Paths : List (List (List ℕ)) → Tokens → Tokens
Paths [] Then ts = ⊥
Paths (path ∷ paths) Then ts = Path path (MorePaths paths Then) ts

-- what may stand after the path of a set
abbrev pub Suffix : Picks → Tokens → Tokens
Suffix picks.Itself Then ts = Then ts
Suffix picks.Members Then ts = Next (Sign 46) (Key keyword.Members Then) ts
Suffix picks.Children Then ts = Next (Sign 46) (Key keyword.Children Then) ts

-- how many depths are left below the outermost set
abbrev pub depths_below : ℕ
depths_below = 15

-- a tuple of these paths, and then what `Then` says
abbrev pub ATuple : List (List (List ℕ)) → Tokens → Tokens
ATuple paths Then ts = Next (Sign 40) (Paths paths Then) ts

-- IsSet left set Then tokens: a set below which `left` depths are left, and then what `Then` says
abbrev mutual
  pub IsSet : ℕ → Set → Tokens → Tokens
  IsSet left (Picked at path picks) Then ts = PathAt at path (Suffix picks Then) ts
  IsSet left (Tuple at paths) Then ts = NextAt at (Sign 40) (Paths paths Then) ts
  IsSet left (Braces at sets) Then ts = NextAt at (Sign 123) (Items left sets Then) ts
  IsSet zero (Cross at first second) Then ts = ⊥
  IsSet (suc left) (Cross at first second) Then ts =
      NextAt at (Word (keyword_text keyword.Crossjoin))
      (Next (Sign 40) (IsSet left first
      (Next (Sign 44) (IsSet left second (Next (Sign 41) Then))))) ts

  -- what stands after the "{" of a set below which `left` depths are left
  pub Items : ℕ → Sets → Tokens → Tokens
  Items left none Then ts = Next (Sign 125) Then ts
  Items zero (more set sets) Then ts = ⊥
  Items (suc left) (more set sets) Then ts = IsSet left set (MoreSets left sets Then) ts

  -- sets below which `left` depths are left, with a comma before each, and the end of their braces
  pub MoreSets : ℕ → Sets → Tokens → Tokens
  MoreSets left none Then ts = Next (Sign 125) Then ts
  MoreSets left (more set sets) Then ts =
      Next (Sign 44) (IsSet left set (MoreSets left sets Then)) ts

-- NON EMPTY where it is asked for, and then what `Then` says
abbrev pub NonEmpty : Bool → Tokens → Tokens
NonEmpty true Then ts = Key keyword.Non (Key keyword.Empty Then) ts
NonEmpty false Then ts = Then ts

-- an axis, and then what `Then` says
abbrev pub IsAxis : AxisText → Tokens → Tokens
IsAxis axis Then ts = NonEmpty axis.non_empty (IsSet depths_below axis.set Then) ts

-- one keyword or the other
abbrev pub Either : Keyword → Keyword → Tokens → Tokens
Either j k Then ts = Key j Then ts ⊎ Key k Then ts

-- a path by itself, or a tuple; a path by itself is sliced as a tuple of this path alone
abbrev pub Slices : List (List ℕ) → List (List (List ℕ)) → Tokens
Slices path paths ts = ((paths ≡ []) × Path path End ts) ⊎ ATuple (path ∷ paths) End ts

-- nothing, or WHERE and what is sliced
abbrev pub IsSlicer : List (List (List ℕ)) → Tokens
IsSlicer [] ts = End ts
IsSlicer (path ∷ paths) ts = Key keyword.Where (Slices path paths) ts

-- the cube, and the slicer
abbrev pub IsFrom : List ℕ → List (List (List ℕ)) → Tokens
IsFrom cube slicer ts = Next (Name cube) (IsSlicer slicer) ts

-- no rows, or a comma and the rows; and then the cube
abbrev pub AreRows : Option AxisText → Tokens → Tokens
AreRows None Then ts = Key keyword.From Then ts
AreRows (Some axis) Then ts =
    Next (Sign 44) (IsAxis axis (Key keyword.On
    (Either keyword.Rows keyword.One (Key keyword.From Then)))) ts

-- the tokens are a query
abbrev pub IsQuery : List Placed → Query → Type 0
IsQuery ts q =
    Key keyword.Select (IsAxis q.columns (Key keyword.On
    (Either keyword.Columns keyword.Zero (AreRows q.rows (IsFrom q.cube q.slicer))))) ts
