-- Where a query may end, and what it then is.
use Rattle.std.proofs.Common.{◌≡◌, ◌≢◌, Result, ◌++◌, ℕ, zero, suc, Bool, true, false, List, [], ◌∷◌, inl, inr, refl, sym, ap, subst, ◌∙◌, Option, Some, None}
use Rattle.std.proofs.lemmas.List.{append-nil}
use Rattle.std.specs.Prelude.{IfOk, option_map}
use Rattle.olap_meaning.specs.declared.OutOfMemory.{OutOfMemory}
use Rattle.text_forms.specs.Forms.{Finishes}
use Rattle.query_meaning.specs.Next.{Tokens, End}
use Rattle.query_meaning.specs.declared.set_text.Picks.TheVariants as picks
use Rattle.query_meaning.specs.declared.query.AxisText.{AxisText}
use Rattle.query_meaning.specs.declared.query.Query.{Query}
use Rattle.mdx_reader.specs.declared.place.Which.{Which}
use Rattle.mdx_reader.specs.declared.place.Which.TheVariants as which
use Rattle.mdx_reader.specs.declared.place.Head.{Head}
use Rattle.mdx_reader.specs.declared.place.Frame.{Frame}
use Rattle.mdx_reader.specs.declared.place.Frame.TheVariants as frame
use Rattle.mdx_reader.specs.declared.place.Base.{Base}
use Rattle.mdx_reader.specs.declared.place.PathOf.{PathOf}
use Rattle.mdx_reader.specs.declared.place.PathOf.TheVariants as path_of
use Rattle.mdx_reader.specs.declared.place.Place.{Place}
use Rattle.mdx_reader.specs.declared.place.Place.TheVariants as place
use Rattle.query_meaning.specs.Tree.{Set, Braces, Cross, Tuple, Picked, none, more}
use Rattle.query_meaning.specs.Grammar.{Dots, Path, MorePaths, IsSet, NonEmpty, IsSlicer, AreRows}
use Rattle.mdx_reader.specs.Places.{Tail, BehindOn, Fill, After, Opened, Crossed, Other, sliced, BehindPath, BehindDot, NameNext, Slicing, rest_of}

-- something must come
set_unended : (left : ℕ) (set : Set) (Then : Tokens) → ¬ IsSet left set Then []
set_unended zero (Picked at [] picks) Then g = g
set_unended (suc left) (Picked at [] picks) Then g = g
set_unended zero (Picked at (name ∷ path) picks) Then g = g
set_unended (suc left) (Picked at (name ∷ path) picks) Then g = g
set_unended zero (Tuple at paths) Then g = g
set_unended (suc left) (Tuple at paths) Then g = g
set_unended zero (Braces at sets) Then g = g
set_unended (suc left) (Braces at sets) Then g = g
set_unended zero (Cross at first second) Then g = g
set_unended (suc left) (Cross at first second) Then g = g

axis_unended : (non_empty : Bool) (set : Set) (Then : Tokens) → ¬ NonEmpty non_empty (IsSet 15 set Then) []
axis_unended true set Then g = g
axis_unended false set Then g = set_unended 15 set Then g

item_unended : (from left : ℕ) (set : Set) (Then : Tokens) → ¬ Opened from left set Then []
item_unended from left (Picked at path picks) Then g = g
item_unended from left (Tuple at paths) Then g = g
item_unended from left (Cross at first second) Then g = g
item_unended from left (Braces at none) Then g = g.1
item_unended from zero (Braces at (more set sets)) Then g = g.1
item_unended from (suc left) (Braces at (more set sets)) Then g = set_unended left set _ g.1

crossing_unended : (from left : ℕ) (set : Set) (Then : Tokens) → ¬ Crossed from left set Then []
crossing_unended from zero (Picked at path picks) Then g = g
crossing_unended from zero (Tuple at paths) Then g = g
crossing_unended from zero (Braces at sets) Then g = g
crossing_unended from zero (Cross at first second) Then g = g
crossing_unended from (suc left) (Picked at path picks) Then g = g
crossing_unended from (suc left) (Tuple at paths) Then g = g
crossing_unended from (suc left) (Braces at sets) Then g = g
crossing_unended from (suc left) (Cross at first second) Then g = g.1

path_unended : (names : List (List ℕ)) (Then : Tokens) → ¬ Path names Then []
path_unended [] Then g = g
path_unended (name ∷ names) Then g = g

after_unended : (w : Which) (around : List Frame) (fill : Fill w around) → ¬ After w around fill []
after_unended w [] fill g = g
after_unended w (frame.Braces at left front ∷ around) (none, fill) g = g
after_unended w (frame.Braces at left front ∷ around) (more set sets, fill) g = g
after_unended w (frame.First at left ∷ around) fill g = g
after_unended w (frame.Second at first ∷ around) fill g = g

more_unended : (paths : List (List (List ℕ))) (Then : Tokens) → ¬ MorePaths paths Then []
more_unended [] Then g = g
more_unended (path ∷ paths) Then g = g

alone_unended : (head : Head) (around : List Frame) (from : ℕ) (other : Other (path_of.Alone head around from)) → ¬ BehindPath (path_of.Alone head around from) other []
alone_unended head around from (picks.Itself, fill) g = after_unended head.which around fill g
alone_unended head around from (picks.Members, fill) g = g
alone_unended head around from (picks.Children, fill) g = g

dots_unended : (of : PathOf) (other : Other of) (names : List (List ℕ)) → ¬ BehindPath of other [] → ¬ Dots names (BehindPath of other) []
dots_unended of other [] n g = n g
dots_unended of other (name ∷ names) n g = g

ending_unended : (of : PathOf) (other : Other of) → ¬ BehindDot of other []
ending_unended (path_of.Alone head around from) (picks.Itself, fill) g = g
ending_unended (path_of.Alone head around from) (picks.Members, fill) g = g
ending_unended (path_of.Alone head around from) (picks.Children, fill) g = g
ending_unended (path_of.InTuple head around from front) other g = g
ending_unended (path_of.Slicer base) other g = g
ending_unended (path_of.InSlicer base front) other g = g

name_unended : (of : PathOf) (other : Other of) (names : List (List ℕ)) → ¬ NameNext of names other []
name_unended of other [] g = ending_unended of other g
name_unended of other (name ∷ names) g = g

on_unended : (w : Which) (tail : Tail w) → ¬ BehindOn w tail []
on_unended which.Columns tail (inl g) = g
on_unended which.Columns tail (inr g) = g
on_unended (which.Rows columns) tail (inl g) = g
on_unended (which.Rows columns) tail (inr g) = g

rows_unended : (rows : Option AxisText) (Then : Tokens) → ¬ AreRows rows Then []
rows_unended None Then g = g
rows_unended (Some axis) Then g = g

slicing_unended : (slicer : List (List (List ℕ))) → ¬ Slicing slicer []
slicing_unended [] g = g
slicing_unended (path ∷ paths) (inl g) = path_unended path End g.1
slicing_unended (path ∷ paths) (inr g) = g

not_at : (s known : Place) → s ≡ known → ((q : Query) → ¬ rest_of known [] q) → Finishes (rest_of s) None
not_at s known e h q r = h q (subst (λ x. rest_of x [] q) e r)

whole_at : (s known : Place) (q whole : Query) → s ≡ known → q ≡ whole → Finishes (rest_of known) (Some whole) → Finishes (rest_of s) (Some q)
whole_at s known q whole e f h = subst (λ x. Finishes (rest_of x) (Some q)) (sym e) (subst (λ x. Finishes (rest_of known) (Some x)) (sym f) h)

-- the whole where no slicer comes
cube_alone : (base : Base) (q : Query) (slicer : List (List (List ℕ))) → q ≡ sliced base slicer → IsSlicer slicer [] → q ≡ sliced base []
cube_alone base q [] f g = f
cube_alone base q (path ∷ paths) f g = absurd g

cube_finishes : (base : Base) → Finishes (rest_of (place.AfterCube base)) (Some (sliced base []))
cube_finishes base = (record { slicer = []; same = refl; goes = refl }, (λ q h. cube_alone base q h.slicer h.same h.goes))

-- the whole after the slicer's path
path_alone : (base : Base) (path : List (List ℕ)) (q : Query) (names : List (List ℕ)) → q ≡ sliced base ((path ++ names) ∷ []) → Dots names End [] → q ≡ sliced base (path ∷ [])
path_alone base path q [] f g = f ∙ ap (λ x. sliced base (x ∷ [])) (append-nil path)
path_alone base path q (name ∷ names) f g = absurd g

path_finishes : (base : Base) (path : List (List ℕ)) → Finishes (rest_of (place.AfterName (path_of.Slicer base) path)) (Some (sliced base (path ∷ [])))
path_finishes base path = (record { other = tt; names = []; same = ap (λ x. sliced base (x ∷ [])) (sym (append-nil path)); goes = refl }, (λ q h. path_alone base path q h.names h.same h.goes))

-- a path that must go on, by whose it is
pub alone_goes_on : (of : PathOf) (path : List (List ℕ)) (head : Head) (around : List Frame) (from : ℕ) → of ≡ path_of.Alone head around from → Finishes (rest_of (place.AfterName of path)) None
alone_goes_on of path head around from e = not_at (place.AfterName of path) (place.AfterName (path_of.Alone head around from) path) (ap (λ x. place.AfterName x path) e) (λ q h. dots_unended (path_of.Alone head around from) h.other h.names (alone_unended head around from h.other) h.goes)

pub tuple_goes_on : (of : PathOf) (path : List (List ℕ)) (head : Head) (around : List Frame) (from : ℕ) (paths : List (List (List ℕ))) → of ≡ path_of.InTuple head around from paths → Finishes (rest_of (place.AfterName of path)) None
tuple_goes_on of path head around from paths e = not_at (place.AfterName of path) (place.AfterName (path_of.InTuple head around from paths) path) (ap (λ x. place.AfterName x path) e) (λ q h. dots_unended (path_of.InTuple head around from paths) h.other h.names (more_unended h.other.0 (After head.which around h.other.1)) h.goes)

pub in_slicer_goes_on : (of : PathOf) (path : List (List ℕ)) (base : Base) (paths : List (List (List ℕ))) → of ≡ path_of.InSlicer base paths → Finishes (rest_of (place.AfterName of path)) None
in_slicer_goes_on of path base paths e = not_at (place.AfterName of path) (place.AfterName (path_of.InSlicer base paths) path) (ap (λ x. place.AfterName x path) e) (λ q h. dots_unended (path_of.InSlicer base paths) h.other h.names (more_unended h.other End) h.goes)

pub slicer_ends_it : (of : PathOf) (path : List (List ℕ)) (base : Base) (slicer : List (List (List ℕ))) (q : Query) → of ≡ path_of.Slicer base → slicer ≡ path ∷ [] → q ≡ sliced base slicer → Finishes (rest_of (place.AfterName of path)) (Some q)
slicer_ends_it of path base slicer q e f g = whole_at (place.AfterName of path) (place.AfterName (path_of.Slicer base) path) q (sliced base (path ∷ [])) (ap (λ x. place.AfterName x path) e) (g ∙ ap (sliced base) f) (path_finishes base path)

pub path_finished : (s known : Place) (r : Result (Option Query) OutOfMemory) → s ≡ known → IfOk r (λ found. Finishes (rest_of known) (option_map (λ query. query) found)) → IfOk r (λ found. Finishes (rest_of s) (option_map (λ query. query) found))
path_finished s known r e h = subst (λ x. IfOk r (λ found. Finishes (rest_of x) (option_map (λ query. query) found))) (sym e) h

pub cube_ends_it : (s : Place) (base : Base) (slicer : List (List (List ℕ))) (q : Query) → s ≡ place.AfterCube base → slicer ≡ [] → q ≡ sliced base slicer → Finishes (rest_of s) (Some q)
cube_ends_it s base slicer q e f g = whole_at s (place.AfterCube base) q (sliced base []) e (g ∙ ap (sliced base) f) (cube_finishes base)

pub query_ends_it : (s : Place) (q : Query) → s ≡ place.Done q → Finishes (rest_of s) (Some q)
query_ends_it s q e = whole_at s (place.Done q) q q e refl ((refl, refl), (λ p h. h.0))

other_goes_on : (s : Place) → ((of : PathOf) (path : List (List ℕ)) → s ≢ place.AfterName of path) → ((base : Base) → s ≢ place.AfterCube base) → ((q : Query) → s ≢ place.Done q) → Finishes (rest_of s) None
other_goes_on place.Start a b d = λ q h. h
other_goes_on (place.AnAxis w) a b d = λ q h. axis_unended h.axis.non_empty h.axis.set _ h.goes
other_goes_on (place.Non w) a b d = λ q h. h.goes.1
other_goes_on (place.ASet head around left) a b d = λ q h. set_unended left h.set _ h.goes
other_goes_on (place.AnItem head around from left) a b d = λ q h. item_unended from left h.set _ h.goes
other_goes_on (place.Crossing head around from left) a b d = λ q h. crossing_unended from left h.set _ h.goes
other_goes_on (place.APath of) a b d = λ q h. path_unended h.names _ h.goes
other_goes_on (place.AfterName of path) a b d = absurd (a of path refl)
other_goes_on (place.AfterDot of path) a b d = λ q h. name_unended of h.other h.names h.goes
other_goes_on (place.AfterSet head around set) a b d = λ q h. after_unended head.which around h.fill h.goes
other_goes_on (place.On w axis) a b d = λ q h. on_unended w h.tail h.goes
other_goes_on (place.AfterColumns columns) a b d = λ q h. rows_unended h.tail.0 _ h.goes
other_goes_on (place.AfterRows columns rows) a b d = λ q h. h.goes
other_goes_on (place.ACube columns rows) a b d = λ q h. h.goes
other_goes_on (place.AfterCube base) a b d = absurd (b base refl)
other_goes_on (place.ASlicer base) a b d = λ q h. slicing_unended h.slicer h.goes
other_goes_on (place.Done q) a b d = absurd (d q refl)

-- at the other places something must come
pub others_go_on : (s : Place) (found : Option Query) → found ≡ None → ((of : PathOf) (path : List (List ℕ)) → s ≢ place.AfterName of path) → ((base : Base) → s ≢ place.AfterCube base) → ((q : Query) → s ≢ place.Done q) → Finishes (rest_of s) (option_map (λ query. query) found)
others_go_on s found e a b d = subst (λ x. Finishes (rest_of s) (option_map (λ query. query) x)) (sym e) (other_goes_on s a b d)
