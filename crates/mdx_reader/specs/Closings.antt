-- Closing tokens: from each place some tokens go on to a whole. They follow from the moves.
use Rattle.std.proofs.Common.{◌≡◌, ◌++◌, ◌<◌, ℕ, zero, suc, true, false, List, [], ◌∷◌, refl, sym, ap, subst, ◌∙◌, arith, Option, Some, None}
use Rattle.std.proofs.lemmas.List.{append-nil}
use Rattle.query_meaning.specs.declared.token.Token.{Token}
use Rattle.query_meaning.specs.declared.token.Token.TheVariants.{Word, Sign, Name}
use Rattle.query_meaning.specs.Tokens.{Placed, At}
use Rattle.text_forms.specs.Grammars.{Took}
use Rattle.query_meaning.specs.declared.set_text.Picks.TheVariants as picks
use Rattle.query_meaning.specs.declared.query.AxisText.{AxisText}
use Rattle.query_meaning.specs.declared.query.Query.{Query}
use Rattle.query_meaning.specs.declared.keyword.Keyword.{Keyword}
use Rattle.query_meaning.specs.declared.keyword.Keyword.TheVariants as keyword
use Rattle.mdx_reader.specs.declared.place.Which.{Which}
use Rattle.mdx_reader.specs.declared.place.Which.TheVariants as which
use Rattle.mdx_reader.specs.declared.place.Head.{Head}
use Rattle.mdx_reader.specs.declared.place.Frame.{Frame}
use Rattle.mdx_reader.specs.declared.place.Frame.TheVariants as frame
use Rattle.mdx_reader.specs.declared.place.Base.{Base}
use Rattle.mdx_reader.specs.declared.place.PathOf.{PathOf}
use Rattle.mdx_reader.specs.declared.place.PathOf.TheVariants as path_of
use Rattle.mdx_reader.specs.declared.place.Place.{Place}
use Rattle.mdx_reader.specs.declared.place.Place.TheVariants as place
use Rattle.query_meaning.specs.Keywords.{keyword_text}
use Rattle.query_meaning.specs.Tree.{Set, Braces, Cross, Tuple, Picked, none, pushed}
use Rattle.mdx_reader.specs.Places.{axis_of, whole, sliced, rest_of}
use Rattle.text_forms.specs.Grammars.{kinds, IsKind, Completes, IsViable}
use Rattle.text_forms.specs.Kinds.{signs, keyword_letters, x, x_kind}
use Rattle.mdx_reader.specs.Places.{stands}
use Rattle.mdx_reader.specs.SetMoves as sets
use Rattle.mdx_reader.specs.PathMoves as paths
use Rattle.mdx_reader.specs.AxisMoves as axes
use Rattle.mdx_reader.specs.AxisMoves.{head_of, is_first, is_second, after_on, base_of}

first : (j k : Token) (js ks : List Token) → j ∷ js ≡ k ∷ ks → (j ≡ k) × (js ≡ ks)
first j k js ks e = (cc, cc)

-- a token that is taken, and then what completes the state after it
pub finds_via : (R : List Placed → Query → Type 0) (k : Token) (ks : List Token) (next : ℕ → Place) → ((at : ℕ) → Took rest_of R (At at k) (Some (next at))) → ((at : ℕ) → Completes (rest_of (next at)) ks) → (ts : List Placed) → kinds ts ≡ k ∷ ks → (q : Query) × R ts q
finds_via R k ks next took h [] e = absurd cc
finds_via R k ks next took h (At at j ∷ ts) e =
    let f = first j k (kinds ts) ks e in
    let g = (h at).1 ts f.1 in
    (g.0, subst (λ y. R (At at y ∷ ts) g.0) (sym f.0) ((took at ts g.0).1 g.1))

pub via : (R : List Placed → Query → Type 0) (k : Token) (ks : List Token) (next : ℕ → Place) → IsKind k → ((at : ℕ) → Took rest_of R (At at k) (Some (next at))) → ((at : ℕ) → Completes (rest_of (next at)) ks) → Completes R (k ∷ ks)
via R k ks next kind took h = ((kind, (h 0).0), finds_via R k ks next took h)

-- the same where two places go on alike
pub like : (R S : List Placed → Query → Type 0) (ks : List Token) → ((ts : List Placed) (q : Query) → S ts q → R ts q) → Completes S ks → Completes R ks
like R S ks i h = (h.0, λ ts e. (let g = h.1 ts e in (g.0, i ts g.0 g.1)))

abbrev pub key : Keyword → Token
key k = Word (keyword_text k)

-- the end
no_more : (ts : List Placed) → kinds ts ≡ [] → ts ≡ []
no_more [] e = refl
no_more (At at k ∷ ts) e = absurd cc

pub cube_ends : (base : Base) → Completes (rest_of (place.AfterCube base)) []
cube_ends base = (tt, λ ts e. (sliced base [], record { slicer = []; same = refl; goes = no_more ts e }))

pub done_ends : (query : Query) → Completes (rest_of (place.Done query)) []
done_ends query = (tt, λ ts e. (query, (refl, no_more ts e)))

pub cube_closes : (columns : AxisText) (rows : Option AxisText) → Completes (rest_of (place.ACube columns rows)) (Name x ∷ [])
cube_closes columns rows = via (rest_of (place.ACube columns rows)) (Name x) [] (λ at. place.AfterCube (base_of columns rows x)) x_kind (axes.cube_taken columns rows x) (λ at. cube_ends (base_of columns rows x))

abbrev pub from_cube : List Token
from_cube = key keyword.From ∷ Name x ∷ []

pub columns_close : (columns : AxisText) → Completes (rest_of (place.AfterColumns columns)) from_cube
columns_close columns = via (rest_of (place.AfterColumns columns)) (key keyword.From) (Name x ∷ []) (λ at. place.ACube columns None) (keyword_letters keyword.From) (axes.from_taken columns) (λ at. cube_closes columns None)

pub rows_close : (columns rows : AxisText) → Completes (rest_of (place.AfterRows columns rows)) from_cube
rows_close columns rows = via (rest_of (place.AfterRows columns rows)) (key keyword.From) (Name x ∷ []) (λ at. place.ACube columns (Some rows)) (keyword_letters keyword.From) (axes.rows_from columns rows) (λ at. cube_closes columns (Some rows))

after_on_closes : (w : Which) (axis : AxisText) → Completes (rest_of (after_on w axis)) from_cube
after_on_closes which.Columns axis = columns_close axis
after_on_closes (which.Rows columns) axis = rows_close columns axis

pub on_first : (w : Which) (axis : AxisText) → Completes (rest_of (place.On w axis)) (key (is_first w) ∷ from_cube)
on_first w axis = via (rest_of (place.On w axis)) (key (is_first w)) from_cube (λ at. after_on w axis) (keyword_letters (is_first w)) (axes.first_on w axis) (λ at. after_on_closes w axis)

pub on_second : (w : Which) (axis : AxisText) → Completes (rest_of (place.On w axis)) (key (is_second w) ∷ from_cube)
on_second w axis = via (rest_of (place.On w axis)) (key (is_second w)) from_cube (λ at. after_on w axis) (keyword_letters (is_second w)) (axes.second_on w axis) (λ at. after_on_closes w axis)

-- after a set
abbrev pub close : Which → List Frame → List Token
close w [] = key keyword.On ∷ key (is_first w) ∷ from_cube
close w (frame.Braces from left front ∷ around) = Sign 125 ∷ close w around
close w (frame.First from left ∷ around) = Sign 44 ∷ Name x ∷ Sign 41 ∷ close w around
close w (frame.Second from first ∷ around) = Sign 41 ∷ close w around

alone_up : (head : Head) (around : List Frame) (from : ℕ) (path : List (List ℕ)) (ts : List Placed) (q : Query) → rest_of (place.AfterSet head around (Picked from path picks.Itself)) ts q → rest_of (place.AfterName (path_of.Alone head around from) path) ts q
alone_up head around from path ts q h = record { other = (picks.Itself, h.fill); names = []; same = h.same ∙ ap (λ y. whole head.which head.non_empty around h.fill (Picked from y picks.Itself)) (sym (append-nil path)); goes = h.goes }

-- a set that is one name
name_then : (head : Head) (around : List Frame) (left : ℕ) (name : List ℕ) (ks : List Token) → IsKind (Name name) → ((set : Set) → Completes (rest_of (place.AfterSet head around set)) ks) → Completes (rest_of (place.ASet head around left)) (Name name ∷ ks)
name_then head around left name ks kind h = via (rest_of (place.ASet head around left)) (Name name) ks (λ at. place.AfterName (path_of.Alone head around at) (name ∷ [])) kind (λ at. sets.name_taken head around left at name) (λ at. like (rest_of (place.AfterName (path_of.Alone head around at) (name ∷ []))) (rest_of (place.AfterSet head around (Picked at (name ∷ []) picks.Itself))) ks (alone_up head around at (name ∷ [])) (h (Picked at (name ∷ []) picks.Itself)))

pub closes : (head : Head) (around : List Frame) (set : Set) → Completes (rest_of (place.AfterSet head around set)) (close head.which around)
closes head [] set = via (rest_of (place.AfterSet head [] set)) (key keyword.On) (key (is_first head.which) ∷ from_cube) (λ at. place.On head.which (axis_of head.non_empty set)) (keyword_letters keyword.On) (sets.on_taken head set) (λ at. on_first head.which (axis_of head.non_empty set))
closes head (frame.Braces from left front ∷ around) set = via (rest_of (place.AfterSet head (frame.Braces from left front ∷ around) set)) (Sign 125) (close head.which around) (λ at. place.AfterSet head around (Braces from (pushed front set))) signs.5 (sets.last_item head around from left front set) (λ at. closes head around (Braces from (pushed front set)))
closes head (frame.First from left ∷ around) set = via (rest_of (place.AfterSet head (frame.First from left ∷ around) set)) (Sign 44) (Name x ∷ Sign 41 ∷ close head.which around) (λ at. place.ASet head (frame.Second from set ∷ around) left) signs.2 (sets.second_part head around from left set) (λ at. name_then head (frame.Second from set ∷ around) left x (Sign 41 ∷ close head.which around) x_kind (λ second. via (rest_of (place.AfterSet head (frame.Second from set ∷ around) second)) (Sign 41) (close head.which around) (λ at. place.AfterSet head around (Cross from set second)) signs.1 (sets.cross_closed head around from set second) (λ at. closes head around (Cross from set second))))
closes head (frame.Second from first ∷ around) set = via (rest_of (place.AfterSet head (frame.Second from first ∷ around) set)) (Sign 41) (close head.which around) (λ at. place.AfterSet head around (Cross from first set)) signs.1 (sets.cross_closed head around from first set) (λ at. closes head around (Cross from first set))

pub set_closes : (head : Head) (around : List Frame) (left : ℕ) → Completes (rest_of (place.ASet head around left)) (Name x ∷ close head.which around)
set_closes head around left = name_then head around left x (close head.which around) x_kind (closes head around)

pub item_closes : (head : Head) (around : List Frame) (from left : ℕ) → Completes (rest_of (place.AnItem head around from left)) (Sign 125 ∷ close head.which around)
item_closes head around from left = via (rest_of (place.AnItem head around from left)) (Sign 125) (close head.which around) (λ at. place.AfterSet head around (Braces from none)) signs.5 (sets.item_closed head around from left) (λ at. closes head around (Braces from none))

abbrev pub close_crossing : Which → List Frame → List Token
close_crossing w around = Sign 40 ∷ Name x ∷ Sign 44 ∷ Name x ∷ Sign 41 ∷ close w around

pub crossing_closes : (head : Head) (around : List Frame) (from left : ℕ) → 0 < left → Completes (rest_of (place.Crossing head around from left)) (close_crossing head.which around)
crossing_closes head around from zero lt = absurd (omega (arith, lt))
crossing_closes head around from (suc less) lt = via (rest_of (place.Crossing head around from (suc less))) (Sign 40) (Name x ∷ Sign 44 ∷ Name x ∷ Sign 41 ∷ close head.which around) (λ at. place.ASet head (frame.First from less ∷ around) less) signs.0 (sets.crossing_taken head around from less) (λ at. set_closes head (frame.First from less ∷ around) less)

pub cross_goes : (head : Head) (around : List Frame) (left : ℕ) → 0 < left → Completes (rest_of (place.ASet head around left)) (key keyword.Crossjoin ∷ close_crossing head.which around)
cross_goes head around left lt = via (rest_of (place.ASet head around left)) (key keyword.Crossjoin) (close_crossing head.which around) (λ at. place.Crossing head around at left) (keyword_letters keyword.Crossjoin) (sets.cross_taken head around left) (λ at. crossing_closes head around at left lt)

-- after a name
abbrev pub close_path : PathOf → List Token
close_path (path_of.Alone head around from) = close head.which around
close_path (path_of.InTuple head around from front) = Sign 41 ∷ close head.which around
close_path (path_of.Slicer base) = []
close_path (path_of.InSlicer base front) = Sign 41 ∷ []

pub path_closes : (of : PathOf) (path : List (List ℕ)) → Completes (rest_of (place.AfterName of path)) (close_path of)
path_closes (path_of.Alone head around from) path = like (rest_of (place.AfterName (path_of.Alone head around from) path)) (rest_of (place.AfterSet head around (Picked from path picks.Itself))) (close head.which around) (alone_up head around from path) (closes head around (Picked from path picks.Itself))
path_closes (path_of.InTuple head around from front) path = via (rest_of (place.AfterName (path_of.InTuple head around from front) path)) (Sign 41) (close head.which around) (λ at. place.AfterSet head around (Tuple from (front ++ path ∷ []))) signs.1 (paths.tuple_closed head around from front path) (λ at. closes head around (Tuple from (front ++ path ∷ [])))
path_closes (path_of.Slicer base) path = (tt, λ ts e. (sliced base (path ∷ []), record { other = tt; names = []; same = ap (λ y. sliced base (y ∷ [])) (sym (append-nil path)); goes = no_more ts e }))
path_closes (path_of.InSlicer base front) path = via (rest_of (place.AfterName (path_of.InSlicer base front) path)) (Sign 41) [] (λ at. place.Done (sliced base (front ++ path ∷ []))) signs.1 (paths.slicer_closed base front path) (λ at. done_ends (sliced base (front ++ path ∷ [])))

pub begun_closes : (of : PathOf) (name : List ℕ) → IsKind (Name name) → Completes (rest_of (place.APath of)) (Name name ∷ close_path of)
begun_closes of name kind = via (rest_of (place.APath of)) (Name name) (close_path of) (λ at. place.AfterName of (name ∷ [])) kind (paths.path_begun of name) (λ at. path_closes of (name ∷ []))

pub dot_closes : (of : PathOf) (path : List (List ℕ)) (name : List ℕ) → IsKind (Name name) → Completes (rest_of (place.AfterDot of path)) (Name name ∷ close_path of)
dot_closes of path name kind = via (rest_of (place.AfterDot of path)) (Name name) (close_path of) (λ at. place.AfterName of (path ++ name ∷ [])) kind (paths.name_follows of path name) (λ at. path_closes of (path ++ name ∷ []))

pub members_go : (head : Head) (around : List Frame) (from : ℕ) (path : List (List ℕ)) → Completes (rest_of (place.AfterDot (path_of.Alone head around from) path)) (key keyword.Members ∷ close head.which around)
members_go head around from path = via (rest_of (place.AfterDot (path_of.Alone head around from) path)) (key keyword.Members) (close head.which around) (λ at. place.AfterSet head around (Picked from path picks.Members)) (keyword_letters keyword.Members) (paths.members_taken head around from path) (λ at. closes head around (Picked from path picks.Members))

pub children_go : (head : Head) (around : List Frame) (from : ℕ) (path : List (List ℕ)) → Completes (rest_of (place.AfterDot (path_of.Alone head around from) path)) (key keyword.Children ∷ close head.which around)
children_go head around from path = via (rest_of (place.AfterDot (path_of.Alone head around from) path)) (key keyword.Children) (close head.which around) (λ at. place.AfterSet head around (Picked from path picks.Children)) (keyword_letters keyword.Children) (paths.children_taken head around from path) (λ at. closes head around (Picked from path picks.Children))

-- around the axes
pub axis_up : (w : Which) (ts : List Placed) (q : Query) → rest_of (place.ASet (head_of w false) [] 15) ts q → rest_of (place.AnAxis w) ts q
axis_up w ts q h = record { tail = h.fill; axis = axis_of false h.set; same = h.same; goes = h.goes }

pub axis_like : (w : Which) (ks : List Token) → Completes (rest_of (place.ASet (head_of w false) [] 15)) ks → Completes (rest_of (place.AnAxis w)) ks
axis_like w ks h = like (rest_of (place.AnAxis w)) (rest_of (place.ASet (head_of w false) [] 15)) ks (axis_up w) h

pub axis_closes : (w : Which) → Completes (rest_of (place.AnAxis w)) (Name x ∷ close w [])
axis_closes w = axis_like w (Name x ∷ close w []) (set_closes (head_of w false) [] 15)

pub non_closes : (w : Which) → Completes (rest_of (place.Non w)) (key keyword.Empty ∷ Name x ∷ close w [])
non_closes w = via (rest_of (place.Non w)) (key keyword.Empty) (Name x ∷ close w []) (λ at. place.ASet (head_of w true) [] 15) (keyword_letters keyword.Empty) (axes.empty_taken w) (λ at. set_closes (head_of w true) [] 15)

pub non_goes : (w : Which) → Completes (rest_of (place.AnAxis w)) (key keyword.Non ∷ key keyword.Empty ∷ Name x ∷ close w [])
non_goes w = via (rest_of (place.AnAxis w)) (key keyword.Non) (key keyword.Empty ∷ Name x ∷ close w []) (λ at. place.Non w) (keyword_letters keyword.Non) (axes.non_taken w) (λ at. non_closes w)

pub start_closes : Completes (rest_of place.Start) (key keyword.Select ∷ Name x ∷ close which.Columns [])
start_closes = via (rest_of place.Start) (key keyword.Select) (Name x ∷ close which.Columns []) (λ at. place.AnAxis which.Columns) (keyword_letters keyword.Select) axes.select_taken (λ at. axis_closes which.Columns)

pub slicer_closes : (base : Base) (name : List ℕ) → IsKind (Name name) → Completes (rest_of (place.ASlicer base)) (Name name ∷ [])
slicer_closes base name kind = via (rest_of (place.ASlicer base)) (Name name) [] (λ at. place.AfterName (path_of.Slicer base) (name ∷ [])) kind (axes.slice_begun base name) (λ at. path_closes (path_of.Slicer base) (name ∷ []))

pub where_goes : (base : Base) → Completes (rest_of (place.AfterCube base)) (key keyword.Where ∷ Name x ∷ [])
where_goes base = via (rest_of (place.AfterCube base)) (key keyword.Where) (Name x ∷ []) (λ at. place.ASlicer base) (keyword_letters keyword.Where) (axes.where_taken base) (λ at. slicer_closes base x x_kind)

pub place_closes : (state : Place) → stands state → IsViable (rest_of state)
place_closes place.Start h = (_, start_closes)
place_closes (place.AnAxis w) h = (_, axis_closes w)
place_closes (place.Non w) h = (_, non_closes w)
place_closes (place.ASet head around left) h = (_, set_closes head around left)
place_closes (place.AnItem head around from left) h = (_, item_closes head around from left)
place_closes (place.Crossing head around from left) h = (_, crossing_closes head around from left h)
place_closes (place.APath of) h = (_, begun_closes of x x_kind)
place_closes (place.AfterName of path) h = (_, path_closes of path)
place_closes (place.AfterDot of path) h = (_, dot_closes of path x x_kind)
place_closes (place.AfterSet head around set) h = (_, closes head around set)
place_closes (place.On w axis) h = (_, on_first w axis)
place_closes (place.AfterColumns columns) h = (_, columns_close columns)
place_closes (place.AfterRows columns rows) h = (_, rows_close columns rows)
place_closes (place.ACube columns rows) h = (_, cube_closes columns rows)
place_closes (place.AfterCube base) h = (_, cube_ends base)
place_closes (place.ASlicer base) h = (_, slicer_closes base x x_kind)
place_closes (place.Done query) h = (_, done_ends query)
