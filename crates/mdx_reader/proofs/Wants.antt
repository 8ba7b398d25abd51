-- Which words and names may come, and where a query may end.
use Rattle.std.proofs.Common.{◌≡◌, ◌≢◌, ◌⊎◌, ◌++◌, ◌<◌, ℕ, zero, suc, Bool, true, false, List, [], ◌∷◌, inl, inr, refl, sym, ap, subst, ◌∙◌, arith, Option, Some, None}
use Rattle.query_meaning.specs.declared.token.Token.{Token}
use Rattle.query_meaning.specs.declared.token.Token.TheVariants.{Word, Sign, Name}
use Rattle.query_meaning.specs.Tokens.{Placed, At}
use Rattle.text_forms.specs.Grammars.{Took}
use Rattle.query_meaning.specs.declared.query.AxisText.{AxisText}
use Rattle.query_meaning.specs.declared.query.Query.{Query}
use Rattle.query_meaning.specs.declared.keyword.Keyword.{Keyword}
use Rattle.query_meaning.specs.declared.keyword.Keyword.TheVariants as keyword
use Rattle.mdx_reader.specs.declared.place.Which.{Which}
use Rattle.mdx_reader.specs.declared.place.Which.TheVariants as which
use Rattle.mdx_reader.specs.declared.place.Head.{Head}
use Rattle.mdx_reader.specs.declared.place.Frame.{Frame}
use Rattle.mdx_reader.specs.declared.place.Frame.TheVariants as frame
use Rattle.mdx_reader.specs.declared.place.Base.{Base}
use Rattle.mdx_reader.specs.declared.place.PathOf.{PathOf}
use Rattle.mdx_reader.specs.declared.place.PathOf.TheVariants as path_of
use Rattle.mdx_reader.specs.declared.place.Place.{Place}
use Rattle.mdx_reader.specs.declared.place.Place.TheVariants as place
use Rattle.query_meaning.specs.Keywords.{keyword_text}
use Rattle.query_meaning.specs.Tree.{Set, Braces, none, more}
use Rattle.mdx_reader.specs.Places.{rest_of}
use Rattle.text_forms.specs.Kinds.{same_word, sign_no_word, sign_no_name, word_no_name}
use Rattle.std.proofs.Common.{MatchBool, ◌≤◌}
use Rattle.text_forms.specs.Grammars.{Completes, WantsWord, WantsName}
use Rattle.text_forms.specs.Words.{Begins}
use Rattle.mdx_reader.specs.Begins.{Follows, no_set, no_set_word}
use Rattle.mdx_reader.specs.SetMoves as sets
use Rattle.mdx_reader.specs.PathMoves as paths
use Rattle.mdx_reader.specs.AxisMoves as axes
use Rattle.mdx_reader.specs.AxisMoves.{head_of, is_first, is_second, base_of}
use Rattle.mdx_reader.specs.Closings as ends
use Rattle.mdx_reader.specs.Closings.{key, finds_via}

-- one keyword may come
pub one_word : (R : List Placed → Query → Type 0) (front : List ℕ) (k : Keyword) (r : Bool) → MatchBool r (Begins front (keyword_text k)) (¬ Begins front (keyword_text k)) → (ks : List Token) → Completes R (key k ∷ ks) → ((at : ℕ) (w : Token) → w ≢ key k → ((n : List ℕ) → w ≢ Name n) → ((c : ℕ) → w ≢ Sign c) → Took rest_of R (At at w) None) → WantsWord R front r
one_word R front k true b ks h n = (b.0, ks, subst (λ x. Completes R (Word x ∷ ks)) (sym b.1) h)
one_word R front k false b ks h n = λ rest at. n at (Word (front ++ rest)) (λ e. b (rest, same_word _ _ e)) (λ m. word_no_name _ _) (λ c e. sign_no_word _ _ (sym e))

-- one of two keywords may come
pub two_words : (R : List Placed → Query → Type 0) (front : List ℕ) (j k : Keyword) (r : Bool) → MatchBool r (Begins front (keyword_text j) ⊎ Begins front (keyword_text k)) ((¬ Begins front (keyword_text j)) × (¬ Begins front (keyword_text k))) → (js ks : List Token) → Completes R (key j ∷ js) → Completes R (key k ∷ ks) → ((at : ℕ) (w : Token) → w ≢ key j → w ≢ key k → ((n : List ℕ) → w ≢ Name n) → ((c : ℕ) → w ≢ Sign c) → Took rest_of R (At at w) None) → WantsWord R front r
two_words R front j k true (inl b) js ks g h n = (b.0, js, subst (λ x. Completes R (Word x ∷ js)) (sym b.1) g)
two_words R front j k true (inr b) js ks g h n = (b.0, ks, subst (λ x. Completes R (Word x ∷ ks)) (sym b.1) h)
two_words R front j k false b js ks g h n = λ rest at. n at (Word (front ++ rest)) (λ e. b.0 (rest, same_word _ _ e)) (λ e. b.1 (rest, same_word _ _ e)) (λ m. word_no_name _ _) (λ c e. sign_no_word _ _ (sym e))

-- no word may come
pub no_word : (R : List Placed → Query → Type 0) (front : List ℕ) → ((at : ℕ) (u : List ℕ) → Took rest_of R (At at (Word u)) None) → WantsWord R front false
no_word R front n = λ rest at. n at (front ++ rest)

pub no_name : (R : List Placed → Query → Type 0) → ((at : ℕ) (u : List ℕ) → Took rest_of R (At at (Name u)) None) → WantsName R false
no_name R n = λ name at. n at name

-- a name may come
pub names : (R : List Placed → Query → Type 0) (ks : List Token) (next : List ℕ → ℕ → Place) → ((name : List ℕ) (at : ℕ) → Took rest_of R (At at (Name name)) (Some (next name at))) → ((name : List ℕ) (at : ℕ) → Completes (rest_of (next name at)) ks) → WantsName R true
names R ks next took h name some = (ks, (h name 0).0, finds_via R (Name name) ks (next name) (took name) (h name))

pub names_like : (R S : List Placed → Query → Type 0) → ((ts : List Placed) (q : Query) → S ts q → R ts q) → WantsName S true → WantsName R true
names_like R S i h name some = (let g = h name some in (g.0, g.1, λ ts e. (let f = g.2 ts e in (f.0, i ts f.0 f.1))))

-- names by place
pub set_named : (head : Head) (around : List Frame) (left : ℕ) → WantsName (rest_of (place.ASet head around left)) true
set_named head around left = names (rest_of (place.ASet head around left)) (ends.close head.which around) (λ name at. place.AfterName (path_of.Alone head around at) (name ∷ [])) (λ name at. sets.name_taken head around left at name) (λ name at. ends.path_closes (path_of.Alone head around at) (name ∷ []))

pub axis_named : (w : Which) → WantsName (rest_of (place.AnAxis w)) true
axis_named w = names_like (rest_of (place.AnAxis w)) (rest_of (place.ASet (head_of w false) [] 15)) (ends.axis_up w) (set_named (head_of w false) [] 15)

item_up : (head : Head) (around : List Frame) (from less : ℕ) (ts : List Placed) (q : Query) → rest_of (place.ASet head (frame.Braces from less none ∷ around) less) ts q → rest_of (place.AnItem head around from (suc less)) ts q
item_up head around from less ts q h = record { fill = h.fill.1; set = Braces from (more h.set h.fill.0); same = h.same; goes = (refl, h.goes) }

pub item_named : (head : Head) (around : List Frame) (from left : ℕ) → 0 < left → WantsName (rest_of (place.AnItem head around from left)) true
item_named head around from zero lt = absurd (omega (arith, lt))
item_named head around from (suc less) lt = names_like (rest_of (place.AnItem head around from (suc less))) (rest_of (place.ASet head (frame.Braces from less none ∷ around) less)) (item_up head around from less) (set_named head (frame.Braces from less none ∷ around) less)

pub item_unnamed : (head : Head) (around : List Frame) (from : ℕ) → WantsName (rest_of (place.AnItem head around from zero)) false
item_unnamed head around from = no_name (rest_of (place.AnItem head around from zero)) (λ at u. sets.item_refused head around from at (Name u) (λ e. sign_no_name _ _ (sym e)))

pub path_named : (of : PathOf) → WantsName (rest_of (place.APath of)) true
path_named of = names (rest_of (place.APath of)) (ends.close_path of) (λ name at. place.AfterName of (name ∷ [])) (λ name at. paths.path_begun of name at) (λ name at. ends.path_closes of (name ∷ []))

pub dot_named : (of : PathOf) (path : List (List ℕ)) → WantsName (rest_of (place.AfterDot of path)) true
dot_named of path = names (rest_of (place.AfterDot of path)) (ends.close_path of) (λ name at. place.AfterName of (path ++ name ∷ [])) (λ name at. paths.name_follows of path name at) (λ name at. ends.path_closes of (path ++ name ∷ []))

pub cube_named : (columns : AxisText) (rows : Option AxisText) → WantsName (rest_of (place.ACube columns rows)) true
cube_named columns rows = names (rest_of (place.ACube columns rows)) [] (λ name at. place.AfterCube (base_of columns rows name)) (λ name at. axes.cube_taken columns rows name at) (λ name at. ends.cube_ends (base_of columns rows name))

pub slicer_named : (base : Base) → WantsName (rest_of (place.ASlicer base)) true
slicer_named base = names (rest_of (place.ASlicer base)) [] (λ name at. place.AfterName (path_of.Slicer base) (name ∷ [])) (λ name at. axes.slice_begun base name at) (λ name at. ends.path_closes (path_of.Slicer base) (name ∷ []))

-- no name follows
name_follows_not : (around : List Frame) (u : List ℕ) → ¬ Follows around (Name u)
name_follows_not [] u e = word_no_name _ _ (sym e)
name_follows_not (frame.Braces at left front ∷ around) u (inl e) = sign_no_name _ _ (sym e)
name_follows_not (frame.Braces at left front ∷ around) u (inr e) = sign_no_name _ _ (sym e)
name_follows_not (frame.First at left ∷ around) u e = sign_no_name _ _ (sym e)
name_follows_not (frame.Second at first ∷ around) u e = sign_no_name _ _ (sym e)

name_ends_not : (of : PathOf) (u : List ℕ) → ¬ paths.Ends of (Name u)
name_ends_not (path_of.Alone head around from) u e = name_follows_not around u e
name_ends_not (path_of.InTuple head around from front) u (inl e) = sign_no_name _ _ (sym e)
name_ends_not (path_of.InTuple head around from front) u (inr e) = sign_no_name _ _ (sym e)
name_ends_not (path_of.Slicer base) u e = e
name_ends_not (path_of.InSlicer base front) u (inl e) = sign_no_name _ _ (sym e)
name_ends_not (path_of.InSlicer base front) u (inr e) = sign_no_name _ _ (sym e)

pub set_unnamed : (head : Head) (around : List Frame) (set : Set) → WantsName (rest_of (place.AfterSet head around set)) false
set_unnamed head around set = no_name (rest_of (place.AfterSet head around set)) (λ at u. sets.after_refused head around set at (Name u) (name_follows_not around u))

pub path_unnamed : (of : PathOf) (path : List (List ℕ)) → WantsName (rest_of (place.AfterName of path)) false
path_unnamed of path = no_name (rest_of (place.AfterName of path)) (λ at u. paths.dots_refused of path at (Name u) (λ e. sign_no_name _ _ (sym e)) (name_ends_not of u))

pub named_at : (s known : Place) (r : Bool) → s ≡ known → WantsName (rest_of known) r → WantsName (rest_of s) r
named_at s known r e h = subst (λ x. WantsName (rest_of x) r) (sym e) h

pub wanted_at : (s known : Place) (front : List ℕ) (r : Bool) → s ≡ known → WantsWord (rest_of known) front r → WantsWord (rest_of s) front r
wanted_at s known front r e h = subst (λ x. WantsWord (rest_of x) front r) (sym e) h

pub item_unnamed_at : (head : Head) (around : List Frame) (from left : ℕ) → left ≡ 0 → WantsName (rest_of (place.AnItem head around from left)) false
item_unnamed_at head around from left e = subst (λ x. WantsName (rest_of (place.AnItem head around from x)) false) (sym e) (item_unnamed head around from)

module _ (s : Place) (front : List ℕ) (r : Bool) where
  pub start_wants : s ≡ place.Start → MatchBool r (Begins front (keyword_text keyword.Select)) (¬ Begins front (keyword_text keyword.Select)) → WantsWord (rest_of s) front r
  start_wants e b = wanted_at s place.Start front r e (one_word (rest_of place.Start) front keyword.Select r b _ ends.start_closes (λ at w n m o. axes.start_refused at w n))

  pub non_wants : (w : Which) → s ≡ place.Non w → MatchBool r (Begins front (keyword_text keyword.Empty)) (¬ Begins front (keyword_text keyword.Empty)) → WantsWord (rest_of s) front r
  non_wants w e b = wanted_at s (place.Non w) front r e (one_word (rest_of (place.Non w)) front keyword.Empty r b _ (ends.non_closes w) (λ at k n m o. axes.non_refused w at k n))

  pub columns_wants : (columns : AxisText) → s ≡ place.AfterColumns columns → MatchBool r (Begins front (keyword_text keyword.From)) (¬ Begins front (keyword_text keyword.From)) → WantsWord (rest_of s) front r
  columns_wants columns e b = wanted_at s (place.AfterColumns columns) front r e (one_word (rest_of (place.AfterColumns columns)) front keyword.From r b _ (ends.columns_close columns) (λ at k n m o. axes.columns_refused columns at k (o 44) n))

  pub rows_wants : (columns rows : AxisText) → s ≡ place.AfterRows columns rows → MatchBool r (Begins front (keyword_text keyword.From)) (¬ Begins front (keyword_text keyword.From)) → WantsWord (rest_of s) front r
  rows_wants columns rows e b = wanted_at s (place.AfterRows columns rows) front r e (one_word (rest_of (place.AfterRows columns rows)) front keyword.From r b _ (ends.rows_close columns rows) (λ at k n m o. axes.rows_refused columns rows at k n))

  pub cube_wants : (base : Base) → s ≡ place.AfterCube base → MatchBool r (Begins front (keyword_text keyword.Where)) (¬ Begins front (keyword_text keyword.Where)) → WantsWord (rest_of s) front r
  cube_wants base e b = wanted_at s (place.AfterCube base) front r e (one_word (rest_of (place.AfterCube base)) front keyword.Where r b _ (ends.where_goes base) (λ at k n m o. axes.where_refused base at k n))

-- no word follows
word_follows_not : (f : Frame) (around : List Frame) (u : List ℕ) → ¬ Follows (f ∷ around) (Word u)
word_follows_not (frame.Braces at left front) around u (inl e) = sign_no_word _ _ (sym e)
word_follows_not (frame.Braces at left front) around u (inr e) = sign_no_word _ _ (sym e)
word_follows_not (frame.First at left) around u e = sign_no_word _ _ (sym e)
word_follows_not (frame.Second at first) around u e = sign_no_word _ _ (sym e)

abbrev pub WordBegins : List ℕ → Keyword → Bool → Type 0
WordBegins front k r = MatchBool r (Begins front (keyword_text k)) (¬ Begins front (keyword_text k))

abbrev pub EitherBegins : List ℕ → Keyword → Keyword → Bool → Type 0
EitherBegins front j k r = MatchBool r (Begins front (keyword_text j) ⊎ Begins front (keyword_text k)) ((¬ Begins front (keyword_text j)) × (¬ Begins front (keyword_text k)))

-- words before a set
axis_words : (w : Which) (front : List ℕ) (r : Bool) → EitherBegins front keyword.Non keyword.Crossjoin r → WantsWord (rest_of (place.AnAxis w)) front r
axis_words w front r b = two_words (rest_of (place.AnAxis w)) front keyword.Non keyword.Crossjoin r b _ _ (ends.non_goes w) (ends.axis_like w _ (ends.cross_goes (head_of w false) [] 15 (omega arith))) (λ at k n m o i. axes.axis_as_set w at k None n (sets.set_refused (head_of w false) [] 15 at k (no_set 15 k (i 123) (i 40) (λ lt. m) o)))

set_words : (head : Head) (around : List Frame) (left : ℕ) (front : List ℕ) (r : Bool) → 0 < left → WordBegins front keyword.Crossjoin r → WantsWord (rest_of (place.ASet head around left)) front r
set_words head around left front r lt b = one_word (rest_of (place.ASet head around left)) front keyword.Crossjoin r b _ (ends.cross_goes head around left lt) (λ at k n m o. sets.set_refused head around left at k (no_set left k (o 123) (o 40) (λ l. n) m))

set_no_word : (head : Head) (around : List Frame) (left : ℕ) (front : List ℕ) → left ≡ 0 → WantsWord (rest_of (place.ASet head around left)) front false
set_no_word head around left front e = no_word (rest_of (place.ASet head around left)) front (λ at u. sets.set_refused head around left at (Word u) (no_set_word left u (λ lt. absurd (omega (arith, e, lt)))))

item_words : (head : Head) (around : List Frame) (from left : ℕ) (front : List ℕ) (r : Bool) → 2 ≤ left → WordBegins front keyword.Crossjoin r → WantsWord (rest_of (place.AnItem head around from left)) front r
item_words head around from zero front r lt b = absurd (omega (arith, lt))
item_words head around from (suc less) front r lt b = one_word (rest_of (place.AnItem head around from (suc less))) front keyword.Crossjoin r b _ (ends.like (rest_of (place.AnItem head around from (suc less))) (rest_of (place.ASet head (frame.Braces from less none ∷ around) less)) _ (item_up head around from less) (ends.cross_goes head (frame.Braces from less none ∷ around) less (omega (arith, lt)))) (λ at k n m o. sets.item_as_set head around from less at k None (o 125) (sets.set_refused head (frame.Braces from less none ∷ around) less at k (no_set less k (o 123) (o 40) (λ l. n) m)))

item_no_word : (head : Head) (around : List Frame) (from left : ℕ) (front : List ℕ) → left < 2 → WantsWord (rest_of (place.AnItem head around from left)) front false
item_no_word head around from zero front lt = no_word (rest_of (place.AnItem head around from zero)) front (λ at u. sets.item_refused head around from at (Word u) (λ e. sign_no_word _ _ (sym e)))
item_no_word head around from (suc less) front lt = no_word (rest_of (place.AnItem head around from (suc less))) front (λ at u. sets.item_as_set head around from less at (Word u) None (λ e. sign_no_word _ _ (sym e)) (sets.set_refused head (frame.Braces from less none ∷ around) less at (Word u) (no_set_word less u (λ l. absurd (omega (arith, lt, l))))))

-- words after a set, and after a path that may be one
after_words : (head : Head) (around : List Frame) (set : Set) (front : List ℕ) (r : Bool) → around ≡ [] → WordBegins front keyword.On r → WantsWord (rest_of (place.AfterSet head around set)) front r
after_words head [] set front r e b = one_word (rest_of (place.AfterSet head [] set)) front keyword.On r b _ (ends.closes head [] set) (λ at k n m o. sets.after_refused head [] set at k n)
after_words head (f ∷ around) set front r e b = absurd cc

after_no_word : (head : Head) (around : List Frame) (set : Set) (front : List ℕ) → around ≢ [] → WantsWord (rest_of (place.AfterSet head around set)) front false
after_no_word head [] set front n = absurd (n refl)
after_no_word head (f ∷ around) set front n = no_word (rest_of (place.AfterSet head (f ∷ around) set)) front (λ at u. sets.after_refused head (f ∷ around) set at (Word u) (word_follows_not f around u))

alone_words : (head : Head) (around : List Frame) (from : ℕ) (path : List (List ℕ)) (front : List ℕ) (r : Bool) → around ≡ [] → WordBegins front keyword.On r → WantsWord (rest_of (place.AfterName (path_of.Alone head around from) path)) front r
alone_words head [] from path front r e b = one_word (rest_of (place.AfterName (path_of.Alone head [] from) path)) front keyword.On r b _ (ends.path_closes (path_of.Alone head [] from) path) (λ at k n m o. paths.dots_refused (path_of.Alone head [] from) path at k (o 46) n)
alone_words head (f ∷ around) from path front r e b = absurd cc

-- no word stands after a name
names_no_word : (of : PathOf) (path : List (List ℕ)) (front : List ℕ) → ((u : List ℕ) → ¬ paths.Ends of (Word u)) → WantsWord (rest_of (place.AfterName of path)) front false
names_no_word of path front n = no_word (rest_of (place.AfterName of path)) front (λ at u. paths.dots_refused of path at (Word u) (λ e. sign_no_word _ _ (sym e)) (n u))

alone_no_word : (head : Head) (around : List Frame) (from : ℕ) (path : List (List ℕ)) (front : List ℕ) → around ≢ [] → WantsWord (rest_of (place.AfterName (path_of.Alone head around from) path)) front false
alone_no_word head [] from path front n = absurd (n refl)
alone_no_word head (f ∷ around) from path front n = names_no_word (path_of.Alone head (f ∷ around) from) path front (word_follows_not f around)

two_signs : (c d : ℕ) (u : List ℕ) → ¬ ((Word u ≡ Sign c) ⊎ (Word u ≡ Sign d))
two_signs c d u (inl e) = sign_no_word _ _ (sym e)
two_signs c d u (inr e) = sign_no_word _ _ (sym e)

-- words after a dot
no_end : (of : PathOf) (k : Token) → k ≢ key keyword.Members → k ≢ key keyword.Children → ((n : List ℕ) → k ≢ Name n) → ¬ paths.BeginsEnd of k
no_end of k n m o (paths.a_name x e) = o x e
no_end of k n m o (paths.a_word head around from w e (inl f) g) = n (g ∙ ap (λ x. Word (keyword_text x)) f)
no_end of k n m o (paths.a_word head around from w e (inr f) g) = m (g ∙ ap (λ x. Word (keyword_text x)) f)

dot_words : (head : Head) (around : List Frame) (from : ℕ) (path : List (List ℕ)) (front : List ℕ) (r : Bool) → EitherBegins front keyword.Members keyword.Children r → WantsWord (rest_of (place.AfterDot (path_of.Alone head around from) path)) front r
dot_words head around from path front r b = two_words (rest_of (place.AfterDot (path_of.Alone head around from) path)) front keyword.Members keyword.Children r b _ _ (ends.members_go head around from path) (ends.children_go head around from path) (λ at k n m o i. paths.end_refused (path_of.Alone head around from) path at k (no_end (path_of.Alone head around from) k n m o))

-- words after ON
on_words : (w : Which) (axis : AxisText) (front : List ℕ) (r : Bool) → EitherBegins front (is_first w) (is_second w) r → WantsWord (rest_of (place.On w axis)) front r
on_words w axis front r b = two_words (rest_of (place.On w axis)) front (is_first w) (is_second w) r b _ _ (ends.on_first w axis) (ends.on_second w axis) (λ at k n m o i. axes.on_refused w axis at k n m)

module _ (s : Place) (front : List ℕ) (r : Bool) where
  pub axis_wants : (w : Which) → s ≡ place.AnAxis w → EitherBegins front keyword.Non keyword.Crossjoin r → WantsWord (rest_of s) front r
  axis_wants w e b = wanted_at s (place.AnAxis w) front r e (axis_words w front r b)

  pub set_wants : (head : Head) (around : List Frame) (left : ℕ) → s ≡ place.ASet head around left → left ≢ 0 → WordBegins front keyword.Crossjoin r → WantsWord (rest_of s) front r
  set_wants head around left e n b = wanted_at s (place.ASet head around left) front r e (set_words head around left front r (omega (arith, n)) b)

  pub item_wants : (head : Head) (around : List Frame) (from left : ℕ) → s ≡ place.AnItem head around from left → 2 ≤ left → WordBegins front keyword.Crossjoin r → WantsWord (rest_of s) front r
  item_wants head around from left e lt b = wanted_at s (place.AnItem head around from left) front r e (item_words head around from left front r lt b)

  pub after_wants : (head : Head) (around : List Frame) (set : Set) → s ≡ place.AfterSet head around set → around ≡ [] → WordBegins front keyword.On r → WantsWord (rest_of s) front r
  after_wants head around set e f b = wanted_at s (place.AfterSet head around set) front r e (after_words head around set front r f b)

  pub alone_wants : (of : PathOf) (path : List (List ℕ)) (head : Head) (around : List Frame) (from : ℕ) → s ≡ place.AfterName of path → of ≡ path_of.Alone head around from → around ≡ [] → WordBegins front keyword.On r → WantsWord (rest_of s) front r
  alone_wants of path head around from e g f b = wanted_at s (place.AfterName (path_of.Alone head around from) path) front r (e ∙ ap (λ x. place.AfterName x path) g) (alone_words head around from path front r f b)

  pub dot_wants : (of : PathOf) (path : List (List ℕ)) (head : Head) (around : List Frame) (from : ℕ) → s ≡ place.AfterDot of path → of ≡ path_of.Alone head around from → EitherBegins front keyword.Members keyword.Children r → WantsWord (rest_of s) front r
  dot_wants of path head around from e g b = wanted_at s (place.AfterDot (path_of.Alone head around from) path) front r (e ∙ ap (λ x. place.AfterDot x path) g) (dot_words head around from path front r b)

  pub on_columns_wants : (w : Which) (axis : AxisText) → s ≡ place.On w axis → w ≡ which.Columns → EitherBegins front keyword.Columns keyword.Zero r → WantsWord (rest_of s) front r
  on_columns_wants w axis e g b = wanted_at s (place.On which.Columns axis) front r (e ∙ ap (λ x. place.On x axis) g) (on_words which.Columns axis front r b)

  pub on_rows_wants : (w : Which) (axis columns : AxisText) → s ≡ place.On w axis → w ≡ which.Rows columns → EitherBegins front keyword.Rows keyword.One r → WantsWord (rest_of s) front r
  on_rows_wants w axis columns e g b = wanted_at s (place.On (which.Rows columns) axis) front r (e ∙ ap (λ x. place.On x axis) g) (on_words (which.Rows columns) axis front r b)

module _ (s : Place) (front : List ℕ) where
  pub set_wants_none : (head : Head) (around : List Frame) (left : ℕ) → s ≡ place.ASet head around left → left ≡ 0 → WantsWord (rest_of s) front false
  set_wants_none head around left e f = wanted_at s (place.ASet head around left) front false e (set_no_word head around left front f)

  pub item_wants_none : (head : Head) (around : List Frame) (from left : ℕ) → s ≡ place.AnItem head around from left → left < 2 → WantsWord (rest_of s) front false
  item_wants_none head around from left e lt = wanted_at s (place.AnItem head around from left) front false e (item_no_word head around from left front lt)

  pub after_wants_none : (head : Head) (around : List Frame) (set : Set) → s ≡ place.AfterSet head around set → around ≢ [] → WantsWord (rest_of s) front false
  after_wants_none head around set e n = wanted_at s (place.AfterSet head around set) front false e (after_no_word head around set front n)

  pub alone_wants_none : (of : PathOf) (path : List (List ℕ)) (head : Head) (around : List Frame) (from : ℕ) → s ≡ place.AfterName of path → of ≡ path_of.Alone head around from → around ≢ [] → WantsWord (rest_of s) front false
  alone_wants_none of path head around from e g n = wanted_at s (place.AfterName (path_of.Alone head around from) path) front false (e ∙ ap (λ x. place.AfterName x path) g) (alone_no_word head around from path front n)

  pub tuple_wants_none : (of : PathOf) (path : List (List ℕ)) (head : Head) (around : List Frame) (from : ℕ) (paths : List (List (List ℕ))) → s ≡ place.AfterName of path → of ≡ path_of.InTuple head around from paths → WantsWord (rest_of s) front false
  tuple_wants_none of path head around from paths e g = wanted_at s (place.AfterName (path_of.InTuple head around from paths) path) front false (e ∙ ap (λ x. place.AfterName x path) g) (names_no_word (path_of.InTuple head around from paths) path front (two_signs 44 41))

  pub slicer_wants_none : (of : PathOf) (path : List (List ℕ)) (base : Base) → s ≡ place.AfterName of path → of ≡ path_of.Slicer base → WantsWord (rest_of s) front false
  slicer_wants_none of path base e g = wanted_at s (place.AfterName (path_of.Slicer base) path) front false (e ∙ ap (λ x. place.AfterName x path) g) (names_no_word (path_of.Slicer base) path front (λ u h. h))

  pub in_slicer_wants_none : (of : PathOf) (path : List (List ℕ)) (base : Base) (paths : List (List (List ℕ))) → s ≡ place.AfterName of path → of ≡ path_of.InSlicer base paths → WantsWord (rest_of s) front false
  in_slicer_wants_none of path base paths e g = wanted_at s (place.AfterName (path_of.InSlicer base paths) path) front false (e ∙ ap (λ x. place.AfterName x path) g) (names_no_word (path_of.InSlicer base paths) path front (two_signs 44 41))

pub if_true : (P Q : Type 0) (b : Bool) → b ≡ true → MatchBool b P Q → P
if_true P Q b e h = subst (λ x. MatchBool x P Q) e h

pub if_false : (P Q : Type 0) (b : Bool) → b ≡ false → MatchBool b P Q → Q
if_false P Q b e h = subst (λ x. MatchBool x P Q) e h
