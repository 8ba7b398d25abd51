-- What may still come at each place. What is still to be read is named first, and then the tokens follow from it.
use Rattle.std.specs.Prelude.{◌≡◌, ◌<◌, ℕ, suc, Bool, true, List, [], ◌∷◌, ◌++◌, Option, Some}
use Rattle.query_meaning.specs.declared.token.Token.TheVariants.{Sign, Name}
use Rattle.query_meaning.specs.Tokens.{Placed}
use Rattle.query_meaning.specs.Next.{Tokens, Next, End}
use Rattle.query_meaning.specs.declared.keyword.Keyword.TheVariants as keyword
use Rattle.query_meaning.specs.declared.set_text.Picks.{Picks}
use Rattle.query_meaning.specs.declared.set_text.Picks.TheVariants as picks
use Rattle.query_meaning.specs.declared.query.AxisText.{AxisText}
use Rattle.query_meaning.specs.declared.query.Query.{Query}
use Rattle.mdx_reader.specs.declared.place.Which.{Which}
use Rattle.mdx_reader.specs.declared.place.Which.TheVariants as which
use Rattle.mdx_reader.specs.declared.place.Head.{Head}
use Rattle.mdx_reader.specs.declared.place.Frame.{Frame}
use Rattle.mdx_reader.specs.declared.place.Frame.TheVariants as frame
use Rattle.mdx_reader.specs.declared.place.Base.{Base}
use Rattle.mdx_reader.specs.declared.place.PathOf.{PathOf}
use Rattle.mdx_reader.specs.declared.place.PathOf.TheVariants as path_of
use Rattle.mdx_reader.specs.declared.place.Place.{Place}
use Rattle.mdx_reader.specs.declared.place.Place.TheVariants as place
use Rattle.query_meaning.specs.Tree.{Set, Sets, Braces, Cross, Tuple, Picked, more, before}
use Rattle.query_meaning.specs.Grammar.{Key, Dots, Path, MorePaths, Suffix, IsSet, Items, MoreSets, IsAxis, Either, Slices, IsSlicer, IsFrom, AreRows, IsQuery}

-- what is still to come after an axis: the rows after the columns, the cube and the slicer
abbrev pub Tail : Which → Type 0
Tail which.Columns = Option AxisText × List ℕ × List (List (List ℕ))
Tail (which.Rows columns) = List ℕ × List (List (List ℕ))

-- the query, where `axis` is this axis
abbrev pub query_of : (w : Which) → Tail w → AxisText → Query
query_of which.Columns tail axis =
    record { columns = axis; rows = tail.0; cube = tail.1; slicer = tail.2 }
query_of (which.Rows columns) tail axis =
    record { columns = columns; rows = Some axis; cube = tail.0; slicer = tail.1 }

-- the tokens after an axis and ON
abbrev pub BehindOn : (w : Which) → Tail w → Tokens
BehindOn which.Columns tail ts =
    Either keyword.Columns keyword.Zero (AreRows tail.0 (IsFrom tail.1 tail.2)) ts
BehindOn (which.Rows columns) tail ts =
    Either keyword.Rows keyword.One (Key keyword.From (IsFrom tail.0 tail.1)) ts

-- what is still to come in each open set: the other items of braces, or the second part of a Crossjoin
abbrev pub Gap : Frame → Type 0
Gap (frame.Braces at left front) = Sets
Gap (frame.First at left) = Set
Gap (frame.Second at first) = Unit {0}

-- the open set, where `set` stands in it
abbrev pub around_set : (f : Frame) → Gap f → Set → Set
around_set (frame.Braces at left front) gap set = Braces at (before front (more set gap))
around_set (frame.First at left) gap set = Cross at set gap
around_set (frame.Second at first) gap set = Cross at first set

-- the tokens after a set, to the end of the open one around it
abbrev pub Behind : (f : Frame) → Gap f → Tokens → Tokens
Behind (frame.Braces at left front) gap Then ts = MoreSets left gap Then ts
Behind (frame.First at left) gap Then ts = Next (Sign 44) (IsSet left gap (Next (Sign 41) Then)) ts
Behind (frame.Second at first) gap Then ts = Next (Sign 41) Then ts

-- what is still to come after a set, in each open set and after the axis
abbrev pub Fill : Which → List Frame → Type 0
Fill w [] = Tail w
Fill w (f ∷ around) = Gap f × Fill w around

abbrev pub axis_of : Bool → Set → AxisText
axis_of non_empty set = record { non_empty = non_empty; set = set }

-- the whole query, where `set` stands in the innermost open set
abbrev pub whole : (w : Which) → Bool → (around : List Frame) → Fill w around → Set → Query
whole w non_empty [] fill set = query_of w fill (axis_of non_empty set)
whole w non_empty (f ∷ around) fill set = whole w non_empty around fill.1 (around_set f fill.0 set)

-- the tokens after a set
abbrev pub After : (w : Which) → (around : List Frame) → Fill w around → Tokens
After w [] fill ts = Key keyword.On (BehindOn w fill) ts
After w (f ∷ around) fill ts = Behind f fill.0 (After w around fill.1) ts

-- an axis is still to come
pub record AnAxis (w : Which) (q : Query) (IsNext : AxisText → Tokens → Tokens) (ts : List Placed)
    : Type 0 where
  pub tail : Tail w
  pub axis : AxisText
  pub same : q ≡ query_of w tail axis
  pub goes : IsNext axis (Key keyword.On (BehindOn w tail)) ts

-- an axis after NON
abbrev pub Emptied : AxisText → Tokens → Tokens
Emptied axis Then ts = (axis.non_empty ≡ true) × Key keyword.Empty (IsSet 15 axis.set Then) ts

-- a set is still to come
pub record ASet (head : Head) (around : List Frame) (q : Query) (IsNext : Set → Tokens → Tokens)
    (ts : List Placed) : Type 0 where
  pub fill : Fill head.which around
  pub set : Set
  pub same : q ≡ whole head.which head.non_empty around fill set
  pub goes : IsNext set (After head.which around fill) ts

-- the rest of a set in braces that began at this byte
abbrev pub Opened : ℕ → ℕ → Set → Tokens → Tokens
Opened at left (Braces place sets) Then ts = (place ≡ at) × Items left sets Then ts
Opened at left set Then ts = ⊥

-- the rest of a Crossjoin whose keyword began at this byte
abbrev pub Crossed : ℕ → ℕ → Set → Tokens → Tokens
Crossed at (suc left) (Cross place first second) Then ts =
    (place ≡ at) × Next (Sign 40) (IsSet left first (Next (Sign 44) (IsSet left second
    (Next (Sign 41) Then)))) ts
Crossed at left set Then ts = ⊥

-- a set was read
pub record Done (head : Head) (around : List Frame) (set : Set) (q : Query) (ts : List Placed)
    : Type 0 where
  pub fill : Fill head.which around
  pub same : q ≡ whole head.which head.non_empty around fill set
  pub goes : After head.which around fill ts

-- what is still to come after a path, besides what is open
abbrev pub Other : PathOf → Type 0
Other (path_of.Alone head around at) = Picks × Fill head.which around
Other (path_of.InTuple head around at front) = List (List (List ℕ)) × Fill head.which around
Other (path_of.Slicer base) = Unit {0}
Other (path_of.InSlicer base front) = List (List (List ℕ))

-- the query of a slicer
abbrev pub sliced : Base → List (List (List ℕ)) → Query
sliced base slicer =
    record { columns = base.columns; rows = base.rows; cube = base.cube; slicer = slicer }

-- the query of a path
abbrev pub query_by : (of : PathOf) → Other of → List (List ℕ) → Query
query_by (path_of.Alone head around at) other path =
    whole head.which head.non_empty around other.1 (Picked at path other.0)
query_by (path_of.InTuple head around at front) other path =
    whole head.which head.non_empty around other.1 (Tuple at (front ++ path ∷ other.0))
query_by (path_of.Slicer base) other path = sliced base (path ∷ [])
query_by (path_of.InSlicer base front) other path = sliced base (front ++ path ∷ other)

-- the tokens after a path
abbrev pub BehindPath : (of : PathOf) → Other of → Tokens
BehindPath (path_of.Alone head around at) other ts =
    Suffix other.0 (After head.which around other.1) ts
BehindPath (path_of.InTuple head around at front) other ts =
    MorePaths other.0 (After head.which around other.1) ts
BehindPath (path_of.Slicer base) other ts = End ts
BehindPath (path_of.InSlicer base front) other ts = MorePaths other End ts

-- the tokens after a path and a dot, where no name comes
abbrev pub Ending : Picks → Tokens → Tokens
Ending picks.Itself Then ts = ⊥
Ending picks.Members Then ts = Key keyword.Members Then ts
Ending picks.Children Then ts = Key keyword.Children Then ts

abbrev pub BehindDot : (of : PathOf) → Other of → Tokens
BehindDot (path_of.Alone head around at) other ts =
    Ending other.0 (After head.which around other.1) ts
BehindDot _ other ts = ⊥

-- names of a path are still to come
pub record Names (of : PathOf) (front : List (List ℕ)) (q : Query) (AreNext : List
    (List ℕ) → Other of → Tokens) (ts : List Placed) : Type 0 where
  pub other : Other of
  pub names : List (List ℕ)
  pub same : q ≡ query_by of other (front ++ names)
  pub goes : AreNext names other ts

abbrev pub PathNext : (of : PathOf) → List (List ℕ) → Other of → Tokens
PathNext of names other ts = Path names (BehindPath of other) ts

abbrev pub DotsNext : (of : PathOf) → List (List ℕ) → Other of → Tokens
DotsNext of names other ts = Dots names (BehindPath of other) ts

-- after a dot
abbrev pub NameNext : (of : PathOf) → List (List ℕ) → Other of → Tokens
NameNext of [] other ts = BehindDot of other ts
NameNext of (name ∷ names) other ts = Next (Name name) (Dots names (BehindPath of other)) ts

-- after an axis and its number
pub record RowsNext (columns : AxisText) (q : Query) (ts : List Placed) : Type 0 where
  pub tail : Tail which.Columns
  pub same : q ≡ query_of which.Columns tail columns
  pub goes : AreRows tail.0 (IsFrom tail.1 tail.2) ts

pub record FromNext (columns : AxisText) (rows : Option AxisText) (q : Query)
    (IsNext : Tokens → Tokens) (ts : List Placed) : Type 0 where
  pub cube : List ℕ
  pub slicer : List (List (List ℕ))
  pub same : q ≡ record { columns = columns; rows = rows; cube = cube; slicer = slicer }
  pub goes : IsNext (IsFrom cube slicer) ts

-- a slicer is still to come
pub record SlicerNext (base : Base) (q : Query) (IsNext : List (List (List ℕ)) → Tokens)
    (ts : List Placed) : Type 0 where
  pub slicer : List (List (List ℕ))
  pub same : q ≡ sliced base slicer
  pub goes : IsNext slicer ts

abbrev pub Slicing : List (List (List ℕ)) → Tokens
Slicing [] ts = ⊥
Slicing (path ∷ paths) ts = Slices path paths ts

-- after ON
pub record OnNext (w : Which) (axis : AxisText) (q : Query) (ts : List Placed) : Type 0 where
  pub tail : Tail w
  pub same : q ≡ query_of w tail axis
  pub goes : BehindOn w tail ts

abbrev pub rest_of : Place → List Placed → Query → Type 0
rest_of place.Start ts q = IsQuery ts q
rest_of (place.AnAxis w) ts q = AnAxis w q IsAxis ts
rest_of (place.Non w) ts q = AnAxis w q Emptied ts
rest_of (place.ASet head around left) ts q = ASet head around q (IsSet left) ts
rest_of (place.AnItem head around at left) ts q = ASet head around q (Opened at left) ts
rest_of (place.Crossing head around at left) ts q = ASet head around q (Crossed at left) ts
rest_of (place.APath of) ts q = Names of [] q (PathNext of) ts
rest_of (place.AfterName of front) ts q = Names of front q (DotsNext of) ts
rest_of (place.AfterDot of front) ts q = Names of front q (NameNext of) ts
rest_of (place.AfterSet head around set) ts q = Done head around set q ts
rest_of (place.On w axis) ts q = OnNext w axis q ts
rest_of (place.AfterColumns columns) ts q = RowsNext columns q ts
rest_of (place.AfterRows columns rows) ts q = FromNext columns (Some rows) q (Key keyword.From) ts
rest_of (place.ACube columns rows) ts q = FromNext columns rows q (λ Then. Then) ts
rest_of (place.AfterCube base) ts q = SlicerNext base q IsSlicer ts
rest_of (place.ASlicer base) ts q = SlicerNext base q Slicing ts
rest_of (place.Done query) ts q = (q ≡ query) × End ts

-- after Crossjoin, a part may stand in it
abbrev pub stands : Place → Type 0
stands (place.Crossing head around at left) = 0 < left
stands _ = Unit {0}

-- a place in no set
abbrev pub IsOutsideSets : Place → Type 0
IsOutsideSets (place.ASet head around left) = ⊥
IsOutsideSets (place.AnItem head around at left) = ⊥
IsOutsideSets (place.Crossing head around at left) = ⊥
IsOutsideSets (place.AfterSet head around set) = ⊥
IsOutsideSets _ = Unit {0}

-- a place in no set and no path
abbrev pub IsAroundAxes : Place → Type 0
IsAroundAxes (place.APath of) = ⊥
IsAroundAxes (place.AfterName of front) = ⊥
IsAroundAxes (place.AfterDot of front) = ⊥
IsAroundAxes s = IsOutsideSets s
