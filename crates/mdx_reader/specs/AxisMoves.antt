-- What is taken around the axes.
use Rattle.std.proofs.Common.{◌≡◌, ◌≢◌, ◌⊎◌, ℕ, Bool, true, false, List, [], ◌∷◌, inl, inr, refl, sym, ap, subst, ◌∙◌, Option, Some, None}
use Rattle.query_meaning.specs.declared.token.Token.{Token}
use Rattle.query_meaning.specs.declared.token.Token.TheVariants.{Word, Sign, Name}
use Rattle.query_meaning.specs.Tokens.{Placed, At}
use Rattle.query_meaning.specs.Next.{Tokens}
use Rattle.text_forms.specs.Grammars.{Took}
use Rattle.query_meaning.specs.declared.query.AxisText.{AxisText}
use Rattle.query_meaning.specs.declared.query.Query.{Query}
use Rattle.query_meaning.specs.declared.keyword.Keyword.{Keyword}
use Rattle.query_meaning.specs.declared.keyword.Keyword.TheVariants as keyword
use Rattle.mdx_reader.specs.declared.place.Which.{Which}
use Rattle.mdx_reader.specs.declared.place.Which.TheVariants as which
use Rattle.mdx_reader.specs.declared.place.Head.{Head}
use Rattle.mdx_reader.specs.declared.place.Base.{Base}
use Rattle.mdx_reader.specs.declared.place.PathOf.TheVariants as path_of
use Rattle.mdx_reader.specs.declared.place.Place.{Place}
use Rattle.mdx_reader.specs.declared.place.Place.TheVariants as place
use Rattle.query_meaning.specs.Keywords.{keyword_text}
use Rattle.query_meaning.specs.Tree.{Set}
use Rattle.query_meaning.specs.Grammar.{Key, IsSet, IsAxis, NonEmpty, Either, IsSlicer, IsFrom, AreRows, IsQuery}
use Rattle.mdx_reader.specs.Places.{Tail, query_of, BehindOn, axis_of, AnAxis, Emptied, ASet, sliced, Names, PathNext, DotsNext, FromNext, SlicerNext, Slicing, rest_of}
use Rattle.text_forms.specs.Kinds.{same_keyword, sign_no_word, sign_no_name, same_name}
use Rattle.mdx_reader.specs.Tellings.{took_alike}
use Rattle.mdx_reader.specs.Begins.{BeginsSet, set_begins, no_set_word}

abbrev pub head_of : Which → Bool → Head
head_of w non_empty = record { which = w; non_empty = non_empty }

-- SELECT
pub select_taken : (at : ℕ) → Took rest_of (rest_of place.Start) (At at (Word (keyword_text keyword.Select))) (Some (place.AnAxis which.Columns))
select_taken at = λ ts q. (
  (λ h. record { tail = (q.rows, q.cube, q.slicer); axis = q.columns; same = refl; goes = h.1 }),
  (λ h. subst (λ x. IsQuery (At at (Word (keyword_text keyword.Select)) ∷ ts) x) (sym h.same) (refl, h.goes)),
)

pub start_refused : (at : ℕ) (k : Token) → k ≢ Word (keyword_text keyword.Select) → Took rest_of (rest_of place.Start) (At at k) None
start_refused at k n = λ ts q h. n h.0

-- NON EMPTY
non_is_no_set : (left : ℕ) → ¬ BeginsSet left (Word (keyword_text keyword.Non))
non_is_no_set left = no_set_word left (keyword_text keyword.Non) (λ lt e. (let k = same_keyword keyword.Non keyword.Crossjoin e in absurd cc))

non_down : (w : Which) (at : ℕ) (q : Query) (tail : Tail w) (ts : List Placed) (e : Bool) (set : Set) → q ≡ query_of w tail (axis_of e set) → NonEmpty e (IsSet 15 set (Key keyword.On (BehindOn w tail))) (At at (Word (keyword_text keyword.Non)) ∷ ts) → AnAxis w q Emptied ts
non_down w at q tail ts true set f h = record { tail = tail; axis = axis_of true set; same = f; goes = (refl, h.1) }
non_down w at q tail ts false set f h = absurd (non_is_no_set 15 (set_begins 15 set _ at (Word (keyword_text keyword.Non)) ts h))

pub non_taken : (w : Which) (at : ℕ) → Took rest_of (rest_of (place.AnAxis w)) (At at (Word (keyword_text keyword.Non))) (Some (place.Non w))
non_taken w at = λ ts q. (
  (λ h. non_down w at q h.tail ts h.axis.non_empty h.axis.set h.same h.goes),
  (λ h. record { tail = h.tail; axis = h.axis; same = h.same; goes = subst (λ e. NonEmpty e (IsSet 15 h.axis.set (Key keyword.On (BehindOn w h.tail))) (At at (Word (keyword_text keyword.Non)) ∷ ts)) (sym h.goes.0) (refl, h.goes.1) }),
)

axis_down : (w : Which) (at : ℕ) (k : Token) (q : Query) (tail : Tail w) (ts : List Placed) (e : Bool) (set : Set) → k ≢ Word (keyword_text keyword.Non) → q ≡ query_of w tail (axis_of e set) → NonEmpty e (IsSet 15 set (Key keyword.On (BehindOn w tail))) (At at k ∷ ts) → ASet (head_of w false) [] q (IsSet 15) (At at k ∷ ts)
axis_down w at k q tail ts true set n f h = absurd (n h.0)
axis_down w at k q tail ts false set n f h = record { fill = tail; set = set; same = f; goes = h }

pub axis_as_set : (w : Which) (at : ℕ) (k : Token) (o : Option Place) → k ≢ Word (keyword_text keyword.Non) → Took rest_of (rest_of (place.ASet (head_of w false) [] 15)) (At at k) o → Took rest_of (rest_of (place.AnAxis w)) (At at k) o
axis_as_set w at k o n = took_alike (rest_of (place.AnAxis w)) (rest_of (place.ASet (head_of w false) [] 15)) (At at k) o (λ ts q. (
  (λ h. axis_down w at k q h.tail ts h.axis.non_empty h.axis.set n h.same h.goes),
  (λ h. record { tail = h.fill; axis = axis_of false h.set; same = h.same; goes = h.goes }),
))

pub empty_taken : (w : Which) (at : ℕ) → Took rest_of (rest_of (place.Non w)) (At at (Word (keyword_text keyword.Empty))) (Some (place.ASet (head_of w true) [] 15))
empty_taken w at = λ ts q. (
  (λ h. record { fill = h.tail; set = h.axis.set; same = h.same ∙ ap (λ e. query_of w h.tail (axis_of e h.axis.set)) h.goes.0; goes = h.goes.1.1 }),
  (λ h. record { tail = h.fill; axis = axis_of true h.set; same = h.same; goes = (refl, (refl, h.goes)) }),
)

pub non_refused : (w : Which) (at : ℕ) (k : Token) → k ≢ Word (keyword_text keyword.Empty) → Took rest_of (rest_of (place.Non w)) (At at k) None
non_refused w at k n = λ ts q h. n h.goes.1.0

-- after ON
either : (j k : Keyword) (Then : Tokens) (at : ℕ) (t : Token) (ts : List Placed) → Either j k Then (At at t ∷ ts) → Then ts
either j k Then at t ts (inl h) = h.1
either j k Then at t ts (inr h) = h.1

abbrev pub is_first : Which → Keyword
is_first which.Columns = keyword.Columns
is_first (which.Rows columns) = keyword.Rows

abbrev pub is_second : Which → Keyword
is_second which.Columns = keyword.Zero
is_second (which.Rows columns) = keyword.One

abbrev pub after_on : Which → AxisText → Place
after_on which.Columns axis = place.AfterColumns axis
after_on (which.Rows columns) axis = place.AfterRows columns axis

pub first_on : (w : Which) (axis : AxisText) (at : ℕ) → Took rest_of (rest_of (place.On w axis)) (At at (Word (keyword_text (is_first w)))) (Some (after_on w axis))
first_on which.Columns axis at = λ ts q. (
  (λ h. record { tail = h.tail; same = h.same; goes = either keyword.Columns keyword.Zero (AreRows h.tail.0 (IsFrom h.tail.1 h.tail.2)) at _ ts h.goes }),
  (λ h. record { tail = h.tail; same = h.same; goes = inl (refl, h.goes) }),
)
first_on (which.Rows columns) axis at = λ ts q. (
  (λ h. record { cube = h.tail.0; slicer = h.tail.1; same = h.same; goes = either keyword.Rows keyword.One (Key keyword.From (IsFrom h.tail.0 h.tail.1)) at _ ts h.goes }),
  (λ h. record { tail = (h.cube, h.slicer); same = h.same; goes = inl (refl, h.goes) }),
)

pub second_on : (w : Which) (axis : AxisText) (at : ℕ) → Took rest_of (rest_of (place.On w axis)) (At at (Word (keyword_text (is_second w)))) (Some (after_on w axis))
second_on which.Columns axis at = λ ts q. (
  (λ h. record { tail = h.tail; same = h.same; goes = either keyword.Columns keyword.Zero (AreRows h.tail.0 (IsFrom h.tail.1 h.tail.2)) at _ ts h.goes }),
  (λ h. record { tail = h.tail; same = h.same; goes = inr (refl, h.goes) }),
)
second_on (which.Rows columns) axis at = λ ts q. (
  (λ h. record { cube = h.tail.0; slicer = h.tail.1; same = h.same; goes = either keyword.Rows keyword.One (Key keyword.From (IsFrom h.tail.0 h.tail.1)) at _ ts h.goes }),
  (λ h. record { tail = (h.cube, h.slicer); same = h.same; goes = inr (refl, h.goes) }),
)

on_begins : (w : Which) (tail : Tail w) (at : ℕ) (k : Token) (ts : List Placed) → BehindOn w tail (At at k ∷ ts) → (k ≡ Word (keyword_text (is_first w))) ⊎ (k ≡ Word (keyword_text (is_second w)))
on_begins which.Columns tail at k ts (inl h) = inl h.0
on_begins which.Columns tail at k ts (inr h) = inr h.0
on_begins (which.Rows columns) tail at k ts (inl h) = inl h.0
on_begins (which.Rows columns) tail at k ts (inr h) = inr h.0

pub on_refused : (w : Which) (axis : AxisText) (at : ℕ) (k : Token) → k ≢ Word (keyword_text (is_first w)) → k ≢ Word (keyword_text (is_second w)) → Took rest_of (rest_of (place.On w axis)) (At at k) None
on_refused w axis at k n m = λ ts q h. elim (on_begins w h.tail at k ts h.goes) [ inl e ↦ n e | inr e ↦ m e ]

-- after the columns
rows_down : (columns : AxisText) (at : ℕ) (q : Query) (ts : List Placed) (rows : Option AxisText) (cube : List ℕ) (slicer : List (List (List ℕ))) → q ≡ query_of which.Columns (rows, cube, slicer) columns → AreRows rows (IsFrom cube slicer) (At at (Sign 44) ∷ ts) → AnAxis (which.Rows columns) q IsAxis ts
rows_down columns at q ts None cube slicer f h = absurd (sign_no_word _ _ h.0)
rows_down columns at q ts (Some axis) cube slicer f h = record { tail = (cube, slicer); axis = axis; same = f; goes = h.1 }

pub comma_taken : (columns : AxisText) (at : ℕ) → Took rest_of (rest_of (place.AfterColumns columns)) (At at (Sign 44)) (Some (place.AnAxis (which.Rows columns)))
comma_taken columns at = λ ts q. (
  (λ h. rows_down columns at q ts h.tail.0 h.tail.1 h.tail.2 h.same h.goes),
  (λ h. record { tail = (Some h.axis, h.tail.0, h.tail.1); same = h.same; goes = (refl, h.goes) }),
)

from_down : (columns : AxisText) (at : ℕ) (q : Query) (ts : List Placed) (rows : Option AxisText) (cube : List ℕ) (slicer : List (List (List ℕ))) → q ≡ query_of which.Columns (rows, cube, slicer) columns → AreRows rows (IsFrom cube slicer) (At at (Word (keyword_text keyword.From)) ∷ ts) → FromNext columns None q (λ Then. Then) ts
from_down columns at q ts None cube slicer f h = record { cube = cube; slicer = slicer; same = f; goes = h.1 }
from_down columns at q ts (Some axis) cube slicer f h = absurd (sign_no_word _ _ (sym h.0))

pub from_taken : (columns : AxisText) (at : ℕ) → Took rest_of (rest_of (place.AfterColumns columns)) (At at (Word (keyword_text keyword.From))) (Some (place.ACube columns None))
from_taken columns at = λ ts q. (
  (λ h. from_down columns at q ts h.tail.0 h.tail.1 h.tail.2 h.same h.goes),
  (λ h. record { tail = (None, h.cube, h.slicer); same = h.same; goes = (refl, h.goes) }),
)

rows_begin : (rows : Option AxisText) (Then : Tokens) (at : ℕ) (k : Token) (ts : List Placed) → AreRows rows Then (At at k ∷ ts) → (k ≡ Sign 44) ⊎ (k ≡ Word (keyword_text keyword.From))
rows_begin None Then at k ts h = inr h.0
rows_begin (Some axis) Then at k ts h = inl h.0

pub columns_refused : (columns : AxisText) (at : ℕ) (k : Token) → k ≢ Sign 44 → k ≢ Word (keyword_text keyword.From) → Took rest_of (rest_of (place.AfterColumns columns)) (At at k) None
columns_refused columns at k n m = λ ts q h. elim (rows_begin h.tail.0 (IsFrom h.tail.1 h.tail.2) at k ts h.goes) [ inl e ↦ n e | inr e ↦ m e ]

-- after the rows
pub rows_from : (columns rows : AxisText) (at : ℕ) → Took rest_of (rest_of (place.AfterRows columns rows)) (At at (Word (keyword_text keyword.From))) (Some (place.ACube columns (Some rows)))
rows_from columns rows at = λ ts q. (
  (λ h. record { cube = h.cube; slicer = h.slicer; same = h.same; goes = h.goes.1 }),
  (λ h. record { cube = h.cube; slicer = h.slicer; same = h.same; goes = (refl, h.goes) }),
)

pub rows_refused : (columns rows : AxisText) (at : ℕ) (k : Token) → k ≢ Word (keyword_text keyword.From) → Took rest_of (rest_of (place.AfterRows columns rows)) (At at k) None
rows_refused columns rows at k n = λ ts q h. n h.goes.0

-- the cube
abbrev pub base_of : AxisText → Option AxisText → List ℕ → Base
base_of columns rows cube = record { columns = columns; rows = rows; cube = cube }

pub cube_taken : (columns : AxisText) (rows : Option AxisText) (name : List ℕ) (at : ℕ) → Took rest_of (rest_of (place.ACube columns rows)) (At at (Name name)) (Some (place.AfterCube (base_of columns rows name)))
cube_taken columns rows name at = λ ts q. (
  (λ h. record { slicer = h.slicer; same = h.same ∙ ap (λ x. sliced (base_of columns rows x) h.slicer) (sym (same_name _ _ h.goes.0)); goes = h.goes.1 }),
  (λ h. record { cube = name; slicer = h.slicer; same = h.same; goes = (refl, h.goes) }),
)

pub cube_refused : (columns : AxisText) (rows : Option AxisText) (at : ℕ) (k : Token) → ((name : List ℕ) → k ≢ Name name) → Took rest_of (rest_of (place.ACube columns rows)) (At at k) None
cube_refused columns rows at k n = λ ts q h. n h.cube h.goes.0

-- WHERE
where_down : (base : Base) (at : ℕ) (q : Query) (ts : List Placed) (slicer : List (List (List ℕ))) → q ≡ sliced base slicer → IsSlicer slicer (At at (Word (keyword_text keyword.Where)) ∷ ts) → SlicerNext base q Slicing ts
where_down base at q ts [] f h = absurd cc
where_down base at q ts (path ∷ paths) f h = record { slicer = path ∷ paths; same = f; goes = h.1 }

where_up : (base : Base) (at : ℕ) (q : Query) (ts : List Placed) (slicer : List (List (List ℕ))) → q ≡ sliced base slicer → Slicing slicer ts → SlicerNext base q IsSlicer (At at (Word (keyword_text keyword.Where)) ∷ ts)
where_up base at q ts [] f h = absurd h
where_up base at q ts (path ∷ paths) f h = record { slicer = path ∷ paths; same = f; goes = (refl, h) }

pub where_taken : (base : Base) (at : ℕ) → Took rest_of (rest_of (place.AfterCube base)) (At at (Word (keyword_text keyword.Where))) (Some (place.ASlicer base))
where_taken base at = λ ts q. (
  (λ h. where_down base at q ts h.slicer h.same h.goes),
  (λ h. where_up base at q ts h.slicer h.same h.goes),
)

where_begins : (slicer : List (List (List ℕ))) (at : ℕ) (k : Token) (ts : List Placed) → IsSlicer slicer (At at k ∷ ts) → k ≡ Word (keyword_text keyword.Where)
where_begins [] at k ts h = absurd cc
where_begins (path ∷ paths) at k ts h = h.0

pub where_refused : (base : Base) (at : ℕ) (k : Token) → k ≢ Word (keyword_text keyword.Where) → Took rest_of (rest_of (place.AfterCube base)) (At at k) None
where_refused base at k n = λ ts q h. n (where_begins h.slicer at k ts h.goes)

-- the slicer
slice_name : (base : Base) (at : ℕ) (name : List ℕ) (q : Query) (ts : List Placed) (slicer : List (List (List ℕ))) → q ≡ sliced base slicer → Slicing slicer (At at (Name name) ∷ ts) → Names (path_of.Slicer base) (name ∷ []) q (DotsNext (path_of.Slicer base)) ts
slice_name base at name q ts [] f h = absurd h
slice_name base at name q ts ([] ∷ paths) f (inl h) = absurd h.1
slice_name base at name q ts ((n ∷ path) ∷ paths) f (inl h) = record { other = tt; names = path; same = f ∙ ap (λ x. sliced base ((n ∷ path) ∷ x)) h.0 ∙ ap (λ x. sliced base ((x ∷ path) ∷ [])) (sym (same_name _ _ h.1.0)); goes = h.1.1 }
slice_name base at name q ts (path ∷ paths) f (inr h) = absurd (sign_no_name _ _ (sym h.0))

pub slice_begun : (base : Base) (name : List ℕ) (at : ℕ) → Took rest_of (rest_of (place.ASlicer base)) (At at (Name name)) (Some (place.AfterName (path_of.Slicer base) (name ∷ [])))
slice_begun base name at = λ ts q. (
  (λ h. slice_name base at name q ts h.slicer h.same h.goes),
  (λ h. record { slicer = (name ∷ h.names) ∷ []; same = h.same; goes = inl (refl, (refl, h.goes)) }),
)

slice_paren : (base : Base) (at : ℕ) (q : Query) (ts : List Placed) (slicer : List (List (List ℕ))) → q ≡ sliced base slicer → Slicing slicer (At at (Sign 40) ∷ ts) → Names (path_of.InSlicer base []) [] q (PathNext (path_of.InSlicer base [])) ts
slice_paren base at q ts [] f h = absurd h
slice_paren base at q ts ([] ∷ paths) f (inl h) = absurd h.1
slice_paren base at q ts ((n ∷ path) ∷ paths) f (inl h) = absurd (sign_no_name _ _ h.1.0)
slice_paren base at q ts (path ∷ paths) f (inr h) = record { other = paths; names = path; same = f; goes = h.1 }

pub slice_opened : (base : Base) (at : ℕ) → Took rest_of (rest_of (place.ASlicer base)) (At at (Sign 40)) (Some (place.APath (path_of.InSlicer base [])))
slice_opened base at = λ ts q. (
  (λ h. slice_paren base at q ts h.slicer h.same h.goes),
  (λ h. record { slicer = h.names ∷ h.other; same = h.same; goes = inr (refl, h.goes) }),
)

slice_begins : (slicer : List (List (List ℕ))) (at : ℕ) (k : Token) (ts : List Placed) → Slicing slicer (At at k ∷ ts) → (k ≡ Sign 40) ⊎ ((n : List ℕ) × (k ≡ Name n))
slice_begins [] at k ts h = absurd h
slice_begins ([] ∷ paths) at k ts (inl h) = absurd h.1
slice_begins ((n ∷ path) ∷ paths) at k ts (inl h) = inr (n, h.1.0)
slice_begins (path ∷ paths) at k ts (inr h) = inl h.0

pub slice_refused : (base : Base) (at : ℕ) (k : Token) → k ≢ Sign 40 → ((n : List ℕ) → k ≢ Name n) → Took rest_of (rest_of (place.ASlicer base)) (At at k) None
slice_refused base at k n m = λ ts q h. elim (slice_begins h.slicer at k ts h.goes) [ inl e ↦ n e | inr e ↦ m e.0 e.1 ]

pub done_refused : (query : Query) (at : ℕ) (k : Token) → Took rest_of (rest_of (place.Done query)) (At at k) None
done_refused query at k = λ ts q h. (let e = h.1 in absurd cc)
