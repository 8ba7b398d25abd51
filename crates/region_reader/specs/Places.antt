-- What may still come at each place. What is still to be read is named first, and then the tokens follow from it.
use Rattle.std.specs.Prelude.{◌≡◌, ℕ, List, [], ◌∷◌, ◌++◌}
use Rattle.query_meaning.specs.declared.token.Token.TheVariants.{Sign}
use Rattle.query_meaning.specs.Tokens.{Placed}
use Rattle.query_meaning.specs.Next.{Tokens, Next, End}
use Rattle.query_meaning.specs.declared.region_text.RegionText.{RegionText}
use Rattle.region_reader.specs.declared.place.Frame.{Frame}
use Rattle.region_reader.specs.declared.place.Opens.{Opens}
use Rattle.region_reader.specs.declared.place.Opens.TheVariants as opens
use Rattle.region_reader.specs.declared.place.PathOf.{PathOf}
use Rattle.region_reader.specs.declared.place.PathOf.TheVariants as path_of
use Rattle.region_reader.specs.declared.place.Place.{Place}
use Rattle.region_reader.specs.declared.place.Place.TheVariants as place
use Rattle.query_meaning.specs.RegionTree.{RegionTree, RegionTrees, Member, Range, Parts, more, before}
use Rattle.query_meaning.specs.Grammar.{Dots, Path}
use Rattle.query_meaning.specs.FlushGrammar.{IsRegion, AreParts, MoreParts, IsFlush}

-- the parts that are still to come in each open region
abbrev pub Fill : List Frame → Type 0
Fill [] = Unit {0}
Fill (frame ∷ around) = RegionTrees × Fill around

-- the whole region, where `part` stands in the innermost open one
abbrev pub whole : (around : List Frame) → Fill around → RegionTree → RegionTree
whole [] fill part = part
whole (frame ∷ around) fill part =
    whole around fill.1 (Parts frame.joins (before frame.front (more part fill.0)))

-- the tokens after a region
abbrev pub After : (around : List Frame) → Fill around → Tokens
After [] fill ts = End ts
After (frame ∷ around) fill ts =
    MoreParts frame.left fill.0 (Next (Sign 41) (After around fill.1)) ts

-- what is still to come after a path, besides its region's end
abbrev pub Other : PathOf → Type 0
Other path_of.Member = Unit {0}
Other path_of.First = List (List ℕ)
Other (path_of.Last first) = Unit {0}

-- the region of a path
abbrev pub region_by : (of : PathOf) → Other of → List (List ℕ) → RegionTree
region_by path_of.Member other path = Member path
region_by path_of.First other path = Range path other
region_by (path_of.Last first) other path = Range first path

-- the tokens after a path
abbrev pub Behind : (of : PathOf) → Other of → Tokens → Tokens
Behind path_of.Member other Then ts = Next (Sign 41) Then ts
Behind path_of.First other Then ts = Next (Sign 44) (Path other (Next (Sign 41) Then)) ts
Behind (path_of.Last first) other Then ts = Next (Sign 41) Then ts

-- a region is still to come
pub record Coming (cube : List ℕ) (around : List Frame) (q : RegionText)
    (IsNext : RegionTree → Tokens → Tokens) (ts : List Placed) : Type 0 where
  pub fill : Fill around
  pub part : RegionTree
  pub same_cube : q.cube ≡ cube
  pub same : q.region ≡ whole around fill part
  pub goes : IsNext part (After around fill) ts

-- the tokens of a region after its keyword
abbrev pub Opened : Opens → RegionTree → Tokens → Tokens
Opened opens.Member (Member path) Then ts = Next (Sign 40) (Path path (Next (Sign 41) Then)) ts
Opened opens.Range (Range first last) Then ts =
    Next (Sign 40) (Path first (Next (Sign 44) (Path last (Next (Sign 41) Then)))) ts
Opened (opens.Parts joined left) (Parts other parts) Then ts =
    (other ≡ joined) × Next (Sign 40) (AreParts left parts (Next (Sign 41) Then)) ts
Opened of part Then ts = ⊥

-- names of a path are still to come
pub record Names (cube : List ℕ) (around : List Frame) (of : PathOf) (front : List (List ℕ))
    (q : RegionText) (AreNext : List (List ℕ) → Tokens → Tokens) (ts : List Placed)
    : Type 0 where
  pub fill : Fill around
  pub other : Other of
  pub names : List (List ℕ)
  pub same_cube : q.cube ≡ cube
  pub same : q.region ≡ whole around fill (region_by of other (front ++ names))
  pub goes : AreNext names (Behind of other (After around fill)) ts

-- a region was read
pub record Done (cube : List ℕ) (around : List Frame) (part : RegionTree) (q : RegionText)
    (ts : List Placed) : Type 0 where
  pub fill : Fill around
  pub same_cube : q.cube ≡ cube
  pub same : q.region ≡ whole around fill part
  pub goes : After around fill ts

-- the tokens that may still come at a place, and the flush that the whole then is
abbrev pub rest_of : Place → List Placed → RegionText → Type 0
rest_of place.ACube ts q = IsFlush ts q
rest_of (place.ARegion cube around left) ts q = Coming cube around q (IsRegion left) ts
rest_of (place.Opening cube around of) ts q = Coming cube around q (Opened of) ts
rest_of (place.AName cube around of front) ts q = Names cube around of front q Path ts
rest_of (place.AfterName cube around of front) ts q = Names cube around of front q Dots ts
rest_of (place.AfterRegion cube around part) ts q = Done cube around part q ts
