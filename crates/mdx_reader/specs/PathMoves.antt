-- What is taken in paths: of a set, of a tuple and of the slicer.
use Rattle.std.proofs.Common.{◌≡◌, ◌≢◌, ◌⊎◌, ◌++◌, ℕ, List, [], ◌∷◌, inl, inr, refl, sym, ap, ◌∙◌, arith, append_assoc, Option, Some, None}
use Rattle.std.proofs.lemmas.List.{append-nil}
use Rattle.query_meaning.specs.declared.token.Token.{Token}
use Rattle.query_meaning.specs.declared.token.Token.TheVariants.{Word, Sign, Name}
use Rattle.query_meaning.specs.Tokens.{Placed, At}
use Rattle.query_meaning.specs.Next.{Tokens, End}
use Rattle.text_forms.specs.Grammars.{Took}
use Rattle.query_meaning.specs.declared.set_text.Picks.{Picks}
use Rattle.query_meaning.specs.declared.set_text.Picks.TheVariants as picks
use Rattle.query_meaning.specs.declared.query.Query.{Query}
use Rattle.query_meaning.specs.declared.keyword.Keyword.{Keyword}
use Rattle.query_meaning.specs.declared.keyword.Keyword.TheVariants as keyword
use Rattle.mdx_reader.specs.declared.place.Head.{Head}
use Rattle.mdx_reader.specs.declared.place.Frame.{Frame}
use Rattle.mdx_reader.specs.declared.place.Base.{Base}
use Rattle.mdx_reader.specs.declared.place.PathOf.{PathOf}
use Rattle.mdx_reader.specs.declared.place.PathOf.TheVariants as path_of
use Rattle.mdx_reader.specs.declared.place.Place.{Place}
use Rattle.mdx_reader.specs.declared.place.Place.TheVariants as place
use Rattle.query_meaning.specs.Keywords.{keyword_text}
use Rattle.query_meaning.specs.Tree.{Tuple, Picked}
use Rattle.query_meaning.specs.Grammar.{Dots, Path, MorePaths, Suffix}
use Rattle.mdx_reader.specs.Places.{Fill, whole, After, Done, Other, sliced, query_by, BehindPath, BehindDot, Names, DotsNext, NameNext, rest_of}
use Rattle.text_forms.specs.Kinds.{keywords, same_sign, word_no_name, same_name}
use Rattle.mdx_reader.specs.Tellings.{took_alike}
use Rattle.mdx_reader.specs.Begins.{Follows, after_begins, no_dot}

-- a name
name_down : (of : PathOf) (name : List ℕ) (at : ℕ) (q : Query) (other : Other of) (ts : List Placed) (names : List (List ℕ)) → q ≡ query_by of other names → Path names (BehindPath of other) (At at (Name name) ∷ ts) → Names of (name ∷ []) q (DotsNext of) ts
name_down of name at q other ts [] f h = absurd h
name_down of name at q other ts (n ∷ names) f h = record { other = other; names = names; same = f ∙ ap (λ x. query_by of other (x ∷ names)) (sym (same_name _ _ h.0)); goes = h.1 }

pub path_begun : (of : PathOf) (name : List ℕ) (at : ℕ) → Took rest_of (rest_of (place.APath of)) (At at (Name name)) (Some (place.AfterName of (name ∷ [])))
path_begun of name at = λ ts q. (
  (λ h. name_down of name at q h.other ts h.names h.same h.goes),
  (λ h. record { other = h.other; names = name ∷ h.names; same = h.same; goes = (refl, h.goes) }),
)

path_begins : (names : List (List ℕ)) (Then : Tokens) (at : ℕ) (k : Token) (ts : List Placed) → Path names Then (At at k ∷ ts) → (name : List ℕ) × (k ≡ Name name)
path_begins [] Then at k ts h = absurd h
path_begins (name ∷ names) Then at k ts h = (name, h.0)

pub path_refused : (of : PathOf) (at : ℕ) (k : Token) → ((name : List ℕ) → k ≢ Name name) → Took rest_of (rest_of (place.APath of)) (At at k) None
path_refused of at k n = λ ts q h. (let b = path_begins h.names (BehindPath of h.other) at k ts h.goes in n b.0 b.1)

-- a dot
dot_ends : (of : PathOf) (at : ℕ) (other : Other of) (ts : List Placed) → BehindPath of other (At at (Sign 46) ∷ ts) → BehindDot of other ts
dot_ends (path_of.Alone head around from) at (picks.Itself, fill) ts h = absurd (no_dot around (after_begins head.which around fill at (Sign 46) ts h))
dot_ends (path_of.Alone head around from) at (picks.Members, fill) ts h = h.1
dot_ends (path_of.Alone head around from) at (picks.Children, fill) ts h = h.1
dot_ends (path_of.InTuple head around from front) at ([], fill) ts h = absurd (let n = same_sign _ _ h.0 in omega arith)
dot_ends (path_of.InTuple head around from front) at (path ∷ paths, fill) ts h = absurd (let n = same_sign _ _ h.0 in omega arith)
dot_ends (path_of.Slicer base) at other ts h = absurd cc
dot_ends (path_of.InSlicer base front) at [] ts h = absurd (let n = same_sign _ _ h.0 in omega arith)
dot_ends (path_of.InSlicer base front) at (path ∷ paths) ts h = absurd (let n = same_sign _ _ h.0 in omega arith)

ends_dot : (of : PathOf) (at : ℕ) (other : Other of) (ts : List Placed) → BehindDot of other ts → BehindPath of other (At at (Sign 46) ∷ ts)
ends_dot (path_of.Alone head around from) at (picks.Itself, fill) ts h = absurd h
ends_dot (path_of.Alone head around from) at (picks.Members, fill) ts h = (refl, h)
ends_dot (path_of.Alone head around from) at (picks.Children, fill) ts h = (refl, h)
ends_dot (path_of.InTuple head around from front) at other ts h = absurd h
ends_dot (path_of.Slicer base) at other ts h = absurd h
ends_dot (path_of.InSlicer base front) at other ts h = absurd h

dot_down : (of : PathOf) (front : List (List ℕ)) (at : ℕ) (q : Query) (other : Other of) (ts : List Placed) (names : List (List ℕ)) → q ≡ query_by of other (front ++ names) → Dots names (BehindPath of other) (At at (Sign 46) ∷ ts) → Names of front q (NameNext of) ts
dot_down of front at q other ts [] f h = record { other = other; names = []; same = f; goes = dot_ends of at other ts h }
dot_down of front at q other ts (name ∷ names) f h = record { other = other; names = name ∷ names; same = f; goes = h.1 }

dot_up : (of : PathOf) (front : List (List ℕ)) (at : ℕ) (q : Query) (other : Other of) (ts : List Placed) (names : List (List ℕ)) → q ≡ query_by of other (front ++ names) → NameNext of names other ts → Names of front q (DotsNext of) (At at (Sign 46) ∷ ts)
dot_up of front at q other ts [] f h = record { other = other; names = []; same = f; goes = ends_dot of at other ts h }
dot_up of front at q other ts (name ∷ names) f h = record { other = other; names = name ∷ names; same = f; goes = (refl, h) }

pub dot_taken : (of : PathOf) (front : List (List ℕ)) (at : ℕ) → Took rest_of (rest_of (place.AfterName of front)) (At at (Sign 46)) (Some (place.AfterDot of front))
dot_taken of front at = λ ts q. (
  (λ h. dot_down of front at q h.other ts h.names h.same h.goes),
  (λ h. dot_up of front at q h.other ts h.names h.same h.goes),
)

-- a name after a dot
no_name_ends : (of : PathOf) (other : Other of) (at : ℕ) (name : List ℕ) (ts : List Placed) → ¬ BehindDot of other (At at (Name name) ∷ ts)
no_name_ends (path_of.Alone head around from) (picks.Itself, fill) at name ts h = h
no_name_ends (path_of.Alone head around from) (picks.Members, fill) at name ts h = word_no_name _ _ (sym h.0)
no_name_ends (path_of.Alone head around from) (picks.Children, fill) at name ts h = word_no_name _ _ (sym h.0)
no_name_ends (path_of.InTuple head around from front) other at name ts h = h
no_name_ends (path_of.Slicer base) other at name ts h = h
no_name_ends (path_of.InSlicer base front) other at name ts h = h

more_down : (of : PathOf) (front : List (List ℕ)) (name : List ℕ) (at : ℕ) (q : Query) (other : Other of) (ts : List Placed) (names : List (List ℕ)) → q ≡ query_by of other (front ++ names) → NameNext of names other (At at (Name name) ∷ ts) → Names of (front ++ name ∷ []) q (DotsNext of) ts
more_down of front name at q other ts [] f h = absurd (no_name_ends of other at name ts h)
more_down of front name at q other ts (n ∷ names) f h = record { other = other; names = names; same = f ∙ ap (λ x. query_by of other (front ++ x ∷ names)) (sym (same_name _ _ h.0)) ∙ ap (query_by of other) (sym (append_assoc front (name ∷ []) names)); goes = h.1 }

pub name_follows : (of : PathOf) (front : List (List ℕ)) (name : List ℕ) (at : ℕ) → Took rest_of (rest_of (place.AfterDot of front)) (At at (Name name)) (Some (place.AfterName of (front ++ name ∷ [])))
name_follows of front name at = λ ts q. (
  (λ h. more_down of front name at q h.other ts h.names h.same h.goes),
  (λ h. record { other = h.other; names = name ∷ h.names; same = h.same ∙ ap (query_by of h.other) (append_assoc front (name ∷ []) h.names); goes = (refl, h.goes) }),
)

-- MEMBERS and CHILDREN
members_down : (head : Head) (around : List Frame) (from : ℕ) (path : List (List ℕ)) (at : ℕ) (q : Query) (p : Picks) (fill : Fill head.which around) (ts : List Placed) (names : List (List ℕ)) → q ≡ whole head.which head.non_empty around fill (Picked from (path ++ names) p) → NameNext (path_of.Alone head around from) names (p, fill) (At at (Word (keyword_text keyword.Members)) ∷ ts) → Done head around (Picked from path picks.Members) q ts
members_down head around from path at q picks.Itself fill ts [] f h = absurd h
members_down head around from path at q picks.Members fill ts [] f h = record { fill = fill; same = f ∙ ap (λ x. whole head.which head.non_empty around fill (Picked from x picks.Members)) (append-nil path); goes = h.1 }
members_down head around from path at q picks.Children fill ts [] f h = (let k = keywords keyword.Members keyword.Children h.0 in absurd cc)
members_down head around from path at q p fill ts (name ∷ names) f h = absurd (word_no_name _ _ h.0)

pub members_taken : (head : Head) (around : List Frame) (from : ℕ) (path : List (List ℕ)) (at : ℕ) → Took rest_of (rest_of (place.AfterDot (path_of.Alone head around from) path)) (At at (Word (keyword_text keyword.Members))) (Some (place.AfterSet head around (Picked from path picks.Members)))
members_taken head around from path at = λ ts q. (
  (λ h. members_down head around from path at q h.other.0 h.other.1 ts h.names h.same h.goes),
  (λ h. record { other = (picks.Members, h.fill); names = []; same = h.same ∙ ap (λ x. whole head.which head.non_empty around h.fill (Picked from x picks.Members)) (sym (append-nil path)); goes = (refl, h.goes) }),
)

children_down : (head : Head) (around : List Frame) (from : ℕ) (path : List (List ℕ)) (at : ℕ) (q : Query) (p : Picks) (fill : Fill head.which around) (ts : List Placed) (names : List (List ℕ)) → q ≡ whole head.which head.non_empty around fill (Picked from (path ++ names) p) → NameNext (path_of.Alone head around from) names (p, fill) (At at (Word (keyword_text keyword.Children)) ∷ ts) → Done head around (Picked from path picks.Children) q ts
children_down head around from path at q picks.Itself fill ts [] f h = absurd h
children_down head around from path at q picks.Children fill ts [] f h = record { fill = fill; same = f ∙ ap (λ x. whole head.which head.non_empty around fill (Picked from x picks.Children)) (append-nil path); goes = h.1 }
children_down head around from path at q picks.Members fill ts [] f h = (let k = keywords keyword.Children keyword.Members h.0 in absurd cc)
children_down head around from path at q p fill ts (name ∷ names) f h = absurd (word_no_name _ _ h.0)

pub children_taken : (head : Head) (around : List Frame) (from : ℕ) (path : List (List ℕ)) (at : ℕ) → Took rest_of (rest_of (place.AfterDot (path_of.Alone head around from) path)) (At at (Word (keyword_text keyword.Children))) (Some (place.AfterSet head around (Picked from path picks.Children)))
children_taken head around from path at = λ ts q. (
  (λ h. children_down head around from path at q h.other.0 h.other.1 ts h.names h.same h.goes),
  (λ h. record { other = (picks.Children, h.fill); names = []; same = h.same ∙ ap (λ x. whole head.which head.non_empty around h.fill (Picked from x picks.Children)) (sym (append-nil path)); goes = (refl, h.goes) }),
)

-- what may stand after a dot
pub data BeginsEnd (of : PathOf) (k : Token) : Type 0 where
  a_name : (n : List ℕ) → k ≡ Name n → BeginsEnd of k
  a_word : (head : Head) (around : List Frame) (from : ℕ) (w : Keyword) → of ≡ path_of.Alone head around from → (w ≡ keyword.Members) ⊎ (w ≡ keyword.Children) → k ≡ Word (keyword_text w) → BeginsEnd of k

ending_begins : (of : PathOf) (other : Other of) (at : ℕ) (k : Token) (ts : List Placed) → BehindDot of other (At at k ∷ ts) → BeginsEnd of k
ending_begins (path_of.Alone head around from) (picks.Itself, fill) at k ts h = absurd h
ending_begins (path_of.Alone head around from) (picks.Members, fill) at k ts h = a_word head around from keyword.Members refl (inl refl) h.0
ending_begins (path_of.Alone head around from) (picks.Children, fill) at k ts h = a_word head around from keyword.Children refl (inr refl) h.0
ending_begins (path_of.InTuple head around from front) other at k ts h = absurd h
ending_begins (path_of.Slicer base) other at k ts h = absurd h
ending_begins (path_of.InSlicer base front) other at k ts h = absurd h

end_begins : (of : PathOf) (other : Other of) (at : ℕ) (k : Token) (ts : List Placed) (names : List (List ℕ)) → NameNext of names other (At at k ∷ ts) → BeginsEnd of k
end_begins of other at k ts [] h = ending_begins of other at k ts h
end_begins of other at k ts (n ∷ names) h = a_name n h.0

pub end_refused : (of : PathOf) (path : List (List ℕ)) (at : ℕ) (k : Token) → ¬ BeginsEnd of k → Took rest_of (rest_of (place.AfterDot of path)) (At at k) None
end_refused of path at k n = λ ts q h. n (end_begins of h.other at k ts h.names h.goes)

-- a path that is a set
alone_down : (head : Head) (around : List Frame) (from : ℕ) (path : List (List ℕ)) (at : ℕ) (k : Token) (q : Query) (p : Picks) (fill : Fill head.which around) (ts : List Placed) (names : List (List ℕ)) → k ≢ Sign 46 → q ≡ whole head.which head.non_empty around fill (Picked from (path ++ names) p) → Dots names (Suffix p (After head.which around fill)) (At at k ∷ ts) → Done head around (Picked from path picks.Itself) q (At at k ∷ ts)
alone_down head around from path at k q picks.Itself fill ts [] n f h = record { fill = fill; same = f ∙ ap (λ x. whole head.which head.non_empty around fill (Picked from x picks.Itself)) (append-nil path); goes = h }
alone_down head around from path at k q picks.Members fill ts [] n f h = absurd (n h.0)
alone_down head around from path at k q picks.Children fill ts [] n f h = absurd (n h.0)
alone_down head around from path at k q p fill ts (name ∷ names) n f h = absurd (n h.0)

pub alone_ends : (head : Head) (around : List Frame) (from : ℕ) (path : List (List ℕ)) (at : ℕ) (k : Token) (o : Option Place) → k ≢ Sign 46 → Took rest_of (rest_of (place.AfterSet head around (Picked from path picks.Itself))) (At at k) o → Took rest_of (rest_of (place.AfterName (path_of.Alone head around from) path)) (At at k) o
alone_ends head around from path at k o n = took_alike (rest_of (place.AfterName (path_of.Alone head around from) path)) (rest_of (place.AfterSet head around (Picked from path picks.Itself))) (At at k) o (λ ts q. (
  (λ h. alone_down head around from path at k q h.other.0 h.other.1 ts h.names n h.same h.goes),
  (λ h. record { other = (picks.Itself, h.fill); names = []; same = h.same ∙ ap (λ x. whole head.which head.non_empty around h.fill (Picked from x picks.Itself)) (sym (append-nil path)); goes = h.goes }),
))

-- the path has ended
path_ended : (of : PathOf) (path : List (List ℕ)) (at : ℕ) (k : Token) (q : Query) (other : Other of) (ts : List Placed) (names : List (List ℕ)) → k ≢ Sign 46 → q ≡ query_by of other (path ++ names) → Dots names (BehindPath of other) (At at k ∷ ts) → (q ≡ query_by of other path) × BehindPath of other (At at k ∷ ts)
path_ended of path at k q other ts [] n f h = (f ∙ ap (query_by of other) (append-nil path), h)
path_ended of path at k q other ts (name ∷ names) n f h = absurd (n h.0)

-- a path of a tuple
close_down : (Then : Tokens) (at : ℕ) (ts : List Placed) (paths : List (List (List ℕ))) → MorePaths paths Then (At at (Sign 41) ∷ ts) → (paths ≡ []) × Then ts
close_down Then at ts [] h = (refl, h.1)
close_down Then at ts (path ∷ paths) h = absurd (let n = same_sign _ _ h.0 in omega arith)

comma_down : (Then : Tokens) (at : ℕ) (ts : List Placed) (paths : List (List (List ℕ))) → MorePaths paths Then (At at (Sign 44) ∷ ts) → (p : List (List ℕ)) × (ps : List (List (List ℕ))) × (paths ≡ p ∷ ps) × Path p (MorePaths ps Then) ts
comma_down Then at ts [] h = absurd (let n = same_sign _ _ h.0 in omega arith)
comma_down Then at ts (path ∷ paths) h = (path, paths, refl, h.1)

close_no_dot : Sign 41 ≢ Sign 46
close_no_dot e = (let n = same_sign _ _ e in absurd (omega arith))

comma_no_dot : Sign 44 ≢ Sign 46
comma_no_dot e = (let n = same_sign _ _ e in absurd (omega arith))

pub tuple_closed : (head : Head) (around : List Frame) (from : ℕ) (front : List (List (List ℕ))) (path : List (List ℕ)) (at : ℕ) → Took rest_of (rest_of (place.AfterName (path_of.InTuple head around from front) path)) (At at (Sign 41)) (Some (place.AfterSet head around (Tuple from (front ++ path ∷ []))))
tuple_closed head around from front path at = λ ts q. (
  (λ h.
      let e = path_ended (path_of.InTuple head around from front) path at (Sign 41) q h.other ts h.names close_no_dot h.same h.goes in
      let c = close_down (After head.which around h.other.1) at ts h.other.0 e.1 in
      record { fill = h.other.1; same = e.0 ∙ ap (λ x. whole head.which head.non_empty around h.other.1 (Tuple from (front ++ path ∷ x))) c.0; goes = c.1 }),
  (λ h. record { other = ([], h.fill); names = []; same = h.same ∙ ap (λ x. whole head.which head.non_empty around h.fill (Tuple from (front ++ x ∷ []))) (sym (append-nil path)); goes = (refl, h.goes) }),
)

pub tuple_follows : (head : Head) (around : List Frame) (from : ℕ) (front : List (List (List ℕ))) (path : List (List ℕ)) (at : ℕ) → Took rest_of (rest_of (place.AfterName (path_of.InTuple head around from front) path)) (At at (Sign 44)) (Some (place.APath (path_of.InTuple head around from (front ++ path ∷ []))))
tuple_follows head around from front path at = λ ts q. (
  (λ h.
      let e = path_ended (path_of.InTuple head around from front) path at (Sign 44) q h.other ts h.names comma_no_dot h.same h.goes in
      let c = comma_down (After head.which around h.other.1) at ts h.other.0 e.1 in
      record { other = (c.1, h.other.1); names = c.0; same = e.0 ∙ ap (λ x. whole head.which head.non_empty around h.other.1 (Tuple from (front ++ path ∷ x))) c.2 ∙ ap (λ x. whole head.which head.non_empty around h.other.1 (Tuple from x)) (sym (append_assoc front (path ∷ []) (c.0 ∷ c.1))); goes = c.3 }),
  (λ h. record { other = (h.names ∷ h.other.0, h.other.1); names = []; same = h.same ∙ ap (λ x. whole head.which head.non_empty around h.other.1 (Tuple from x)) (append_assoc front (path ∷ []) (h.names ∷ h.other.0)) ∙ ap (λ x. whole head.which head.non_empty around h.other.1 (Tuple from (front ++ x ∷ h.names ∷ h.other.0))) (sym (append-nil path)); goes = (refl, h.goes) }),
)

pub slicer_closed : (base : Base) (front : List (List (List ℕ))) (path : List (List ℕ)) (at : ℕ) → Took rest_of (rest_of (place.AfterName (path_of.InSlicer base front) path)) (At at (Sign 41)) (Some (place.Done (sliced base (front ++ path ∷ []))))
slicer_closed base front path at = λ ts q. (
  (λ h.
      let e = path_ended (path_of.InSlicer base front) path at (Sign 41) q h.other ts h.names close_no_dot h.same h.goes in
      let c = close_down End at ts h.other e.1 in
      (e.0 ∙ ap (λ x. sliced base (front ++ path ∷ x)) c.0, c.1)),
  (λ h. record { other = []; names = []; same = h.0 ∙ ap (λ x. sliced base (front ++ x ∷ [])) (sym (append-nil path)); goes = (refl, h.1) }),
)

pub slicer_follows : (base : Base) (front : List (List (List ℕ))) (path : List (List ℕ)) (at : ℕ) → Took rest_of (rest_of (place.AfterName (path_of.InSlicer base front) path)) (At at (Sign 44)) (Some (place.APath (path_of.InSlicer base (front ++ path ∷ []))))
slicer_follows base front path at = λ ts q. (
  (λ h.
      let e = path_ended (path_of.InSlicer base front) path at (Sign 44) q h.other ts h.names comma_no_dot h.same h.goes in
      let c = comma_down End at ts h.other e.1 in
      record { other = c.1; names = c.0; same = e.0 ∙ ap (λ x. sliced base (front ++ path ∷ x)) c.2 ∙ ap (λ x. sliced base x) (sym (append_assoc front (path ∷ []) (c.0 ∷ c.1))); goes = c.3 }),
  (λ h. record { other = h.names ∷ h.other; names = []; same = h.same ∙ ap (λ x. sliced base x) (append_assoc front (path ∷ []) (h.names ∷ h.other)) ∙ ap (λ x. sliced base (front ++ x ∷ h.names ∷ h.other)) (sym (append-nil path)); goes = (refl, h.goes) }),
)

-- what may stand after a name, besides a dot
abbrev pub Ends : PathOf → Token → Type 0
Ends (path_of.Alone head around from) k = Follows around k
Ends (path_of.InTuple head around from front) k = (k ≡ Sign 44) ⊎ (k ≡ Sign 41)
Ends (path_of.Slicer base) k = ⊥
Ends (path_of.InSlicer base front) k = (k ≡ Sign 44) ⊎ (k ≡ Sign 41)

behind_begins : (of : PathOf) (other : Other of) (at : ℕ) (k : Token) (ts : List Placed) → BehindPath of other (At at k ∷ ts) → (k ≡ Sign 46) ⊎ Ends of k
behind_begins (path_of.Alone head around from) (picks.Itself, fill) at k ts h = inr (after_begins head.which around fill at k ts h)
behind_begins (path_of.Alone head around from) (picks.Members, fill) at k ts h = inl h.0
behind_begins (path_of.Alone head around from) (picks.Children, fill) at k ts h = inl h.0
behind_begins (path_of.InTuple head around from front) ([], fill) at k ts h = inr (inr h.0)
behind_begins (path_of.InTuple head around from front) (path ∷ paths, fill) at k ts h = inr (inl h.0)
behind_begins (path_of.Slicer base) other at k ts h = absurd cc
behind_begins (path_of.InSlicer base front) [] at k ts h = inr (inr h.0)
behind_begins (path_of.InSlicer base front) (path ∷ paths) at k ts h = inr (inl h.0)

dots_begin : (of : PathOf) (other : Other of) (at : ℕ) (k : Token) (ts : List Placed) (names : List (List ℕ)) → Dots names (BehindPath of other) (At at k ∷ ts) → (k ≡ Sign 46) ⊎ Ends of k
dots_begin of other at k ts [] h = behind_begins of other at k ts h
dots_begin of other at k ts (name ∷ names) h = inl h.0

pub dots_refused : (of : PathOf) (path : List (List ℕ)) (at : ℕ) (k : Token) → k ≢ Sign 46 → ¬ Ends of k → Took rest_of (rest_of (place.AfterName of path)) (At at k) None
dots_refused of path at k n m = λ ts q h. elim (dots_begin of h.other at k ts h.names h.goes) [ inl e ↦ n e | inr e ↦ m e ]
