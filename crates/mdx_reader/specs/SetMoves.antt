-- What is taken before, in and after a set.
use Rattle.std.proofs.Common.{◌≡◌, ◌≢◌, ℕ, zero, suc, List, [], ◌∷◌, refl, sym, ap, ◌∙◌, arith, Option, Some, None}
use Rattle.query_meaning.specs.declared.token.Token.{Token}
use Rattle.query_meaning.specs.declared.token.Token.TheVariants.{Word, Sign, Name}
use Rattle.query_meaning.specs.Tokens.{Placed, At}
use Rattle.query_meaning.specs.Next.{Tokens}
use Rattle.text_forms.specs.Grammars.{Took}
use Rattle.query_meaning.specs.declared.query.Query.{Query}
use Rattle.query_meaning.specs.declared.keyword.Keyword.TheVariants as keyword
use Rattle.mdx_reader.specs.declared.place.Head.{Head}
use Rattle.mdx_reader.specs.declared.place.Frame.{Frame}
use Rattle.mdx_reader.specs.declared.place.Frame.TheVariants as frame
use Rattle.mdx_reader.specs.declared.place.PathOf.TheVariants as path_of
use Rattle.mdx_reader.specs.declared.place.Place.{Place}
use Rattle.mdx_reader.specs.declared.place.Place.TheVariants as place
use Rattle.query_meaning.specs.Keywords.{keyword_text}
use Rattle.query_meaning.specs.Tree.{Set, Sets, Braces, Cross, Tuple, Picked, none, more, before, pushed}
use Rattle.query_meaning.specs.Codes.{before_assoc}
use Rattle.query_meaning.specs.Grammar.{IsSet, MoreSets}
use Rattle.mdx_reader.specs.Places.{Fill, axis_of, whole, After, ASet, Opened, Crossed, Done, Names, PathNext, DotsNext, rest_of}
use Rattle.text_forms.specs.Kinds.{same_sign, sign_no_word, sign_no_name, word_no_name, same_name}
use Rattle.mdx_reader.specs.Tellings.{took_alike}
use Rattle.mdx_reader.specs.Begins.{BeginsSet, set_begins, no_set_sign, Follows, after_begins}

module _ (head : Head) (around : List Frame) (at : ℕ) (q : Query) (fill : Fill head.which around) (ts : List Placed) where
  -- "{"
  brace_down : (left : ℕ) (set : Set) → q ≡ whole head.which head.non_empty around fill set → IsSet left set (After head.which around fill) (At at (Sign 123) ∷ ts) → ASet head around q (Opened at left) ts
  brace_down left (Picked place [] picks) f h = absurd h
  brace_down left (Picked place (n ∷ path) picks) f h = absurd (sign_no_name _ _ h.1)
  brace_down left (Tuple place paths) f h = absurd (let n = same_sign _ _ h.1 in omega arith)
  brace_down left (Braces place sets) f h = record { fill = fill; set = Braces place sets; same = f; goes = (sym h.0, h.2) }
  brace_down zero (Cross place first second) f h = absurd h
  brace_down (suc left) (Cross place first second) f h = absurd (sign_no_word _ _ h.1)

  brace_up : (left : ℕ) (set : Set) → q ≡ whole head.which head.non_empty around fill set → Opened at left set (After head.which around fill) ts → ASet head around q (IsSet left) (At at (Sign 123) ∷ ts)
  brace_up left (Picked place path picks) f h = absurd h
  brace_up left (Tuple place paths) f h = absurd h
  brace_up left (Braces place sets) f h = record { fill = fill; set = Braces place sets; same = f; goes = (sym h.0, refl, h.1) }
  brace_up left (Cross place first second) f h = absurd h

  -- "("
  paren_down : (left : ℕ) (set : Set) → q ≡ whole head.which head.non_empty around fill set → IsSet left set (After head.which around fill) (At at (Sign 40) ∷ ts) → Names (path_of.InTuple head around at []) [] q (PathNext (path_of.InTuple head around at [])) ts
  paren_down left (Picked place [] picks) f h = absurd h
  paren_down left (Picked place (n ∷ path) picks) f h = absurd (sign_no_name _ _ h.1)
  paren_down left (Tuple place []) f h = absurd h.2
  paren_down left (Tuple place (path ∷ paths)) f h = record { other = (paths, fill); names = path; same = f ∙ ap (λ x. whole head.which head.non_empty around fill (Tuple x (path ∷ paths))) (sym h.0); goes = h.2 }
  paren_down left (Braces place sets) f h = absurd (let n = same_sign _ _ h.1 in omega arith)
  paren_down zero (Cross place first second) f h = absurd h
  paren_down (suc left) (Cross place first second) f h = absurd (sign_no_word _ _ h.1)

  -- CROSSJOIN
  cross_down : (left : ℕ) (set : Set) → q ≡ whole head.which head.non_empty around fill set → IsSet left set (After head.which around fill) (At at (Word (keyword_text keyword.Crossjoin)) ∷ ts) → ASet head around q (Crossed at left) ts
  cross_down left (Picked place [] picks) f h = absurd h
  cross_down left (Picked place (n ∷ path) picks) f h = absurd (word_no_name _ _ h.1)
  cross_down left (Tuple place paths) f h = absurd (sign_no_word _ _ (sym h.1))
  cross_down left (Braces place sets) f h = absurd (sign_no_word _ _ (sym h.1))
  cross_down zero (Cross place first second) f h = absurd h
  cross_down (suc left) (Cross place first second) f h = record { fill = fill; set = Cross place first second; same = f; goes = (sym h.0, h.2) }

  cross_up : (left : ℕ) (set : Set) → q ≡ whole head.which head.non_empty around fill set → Crossed at left set (After head.which around fill) ts → ASet head around q (IsSet left) (At at (Word (keyword_text keyword.Crossjoin)) ∷ ts)
  cross_up zero (Picked place path picks) f h = absurd h
  cross_up zero (Tuple place paths) f h = absurd h
  cross_up zero (Braces place sets) f h = absurd h
  cross_up zero (Cross place first second) f h = absurd h
  cross_up (suc left) (Picked place path picks) f h = absurd h
  cross_up (suc left) (Tuple place paths) f h = absurd h
  cross_up (suc left) (Braces place sets) f h = absurd h
  cross_up (suc left) (Cross place first second) f h = record { fill = fill; set = Cross place first second; same = f; goes = (sym h.0, refl, h.1) }

  -- a name
  name_down : (left : ℕ) (name : List ℕ) (set : Set) → q ≡ whole head.which head.non_empty around fill set → IsSet left set (After head.which around fill) (At at (Name name) ∷ ts) → Names (path_of.Alone head around at) (name ∷ []) q (DotsNext (path_of.Alone head around at)) ts
  name_down left name (Picked place [] picks) f h = absurd h
  name_down left name (Picked place (n ∷ path) picks) f h = record { other = (picks, fill); names = path; same = f ∙ ap (λ x. whole head.which head.non_empty around fill (Picked x (n ∷ path) picks)) (sym h.0) ∙ ap (λ x. whole head.which head.non_empty around fill (Picked at (x ∷ path) picks)) (sym (same_name _ _ h.1)); goes = h.2 }
  name_down left name (Tuple place paths) f h = absurd (sign_no_name _ _ (sym h.1))
  name_down left name (Braces place sets) f h = absurd (sign_no_name _ _ (sym h.1))
  name_down zero name (Cross place first second) f h = absurd h
  name_down (suc left) name (Cross place first second) f h = absurd (word_no_name _ _ (sym h.1))

-- before a set
module _ (head : Head) (around : List Frame) (left at : ℕ) where
  pub brace_taken : Took rest_of (rest_of (place.ASet head around left)) (At at (Sign 123)) (Some (place.AnItem head around at left))
  brace_taken = λ ts q. (
    (λ h. brace_down head around at q h.fill ts left h.set h.same h.goes),
    (λ h. brace_up head around at q h.fill ts left h.set h.same h.goes),
  )

  pub paren_taken : Took rest_of (rest_of (place.ASet head around left)) (At at (Sign 40)) (Some (place.APath (path_of.InTuple head around at [])))
  paren_taken = λ ts q. (
    (λ h. paren_down head around at q h.fill ts left h.set h.same h.goes),
    (λ h. record { fill = h.other.1; set = Tuple at (h.names ∷ h.other.0); same = h.same; goes = (refl, refl, h.goes) }),
  )

  pub cross_taken : Took rest_of (rest_of (place.ASet head around left)) (At at (Word (keyword_text keyword.Crossjoin))) (Some (place.Crossing head around at left))
  cross_taken = λ ts q. (
    (λ h. cross_down head around at q h.fill ts left h.set h.same h.goes),
    (λ h. cross_up head around at q h.fill ts left h.set h.same h.goes),
  )

  pub name_taken : (name : List ℕ) → Took rest_of (rest_of (place.ASet head around left)) (At at (Name name)) (Some (place.AfterName (path_of.Alone head around at) (name ∷ [])))
  name_taken name = λ ts q. (
    (λ h. name_down head around at q h.fill ts left name h.set h.same h.goes),
    (λ h. record { fill = h.other.1; set = Picked at (name ∷ h.names) h.other.0; same = h.same; goes = (refl, refl, h.goes) }),
  )

  pub set_refused : (k : Token) → ¬ BeginsSet left k → Took rest_of (rest_of (place.ASet head around left)) (At at k) None
  set_refused k n = λ ts q h. n (set_begins left h.set (After head.which around h.fill) at k ts h.goes)

-- "}" at once
closed_down : (head : Head) (around : List Frame) (from at : ℕ) (q : Query) (fill : Fill head.which around) (ts : List Placed) (left : ℕ) (set : Set) → q ≡ whole head.which head.non_empty around fill set → Opened from left set (After head.which around fill) (At at (Sign 125) ∷ ts) → Done head around (Braces from none) q ts
closed_down head around from at q fill ts left (Picked place path picks) f h = absurd h
closed_down head around from at q fill ts left (Tuple place paths) f h = absurd h
closed_down head around from at q fill ts left (Cross place first second) f h = absurd h
closed_down head around from at q fill ts left (Braces place none) f h = record { fill = fill; same = f ∙ ap (λ x. whole head.which head.non_empty around fill (Braces x none)) h.0; goes = h.1.1 }
closed_down head around from at q fill ts zero (Braces place (more set sets)) f h = absurd h.1
closed_down head around from at q fill ts (suc left) (Braces place (more set sets)) f h = absurd (no_set_sign left 125 (λ e. absurd (omega arith)) (λ e. absurd (omega arith)) (set_begins left set _ at (Sign 125) ts h.1))

-- after "{"
pub item_closed : (head : Head) (around : List Frame) (from left at : ℕ) → Took rest_of (rest_of (place.AnItem head around from left)) (At at (Sign 125)) (Some (place.AfterSet head around (Braces from none)))
item_closed head around from left at = λ ts q. (
  (λ h. closed_down head around from at q h.fill ts left h.set h.same h.goes),
  (λ h. record { fill = h.fill; set = Braces from none; same = h.same; goes = (refl, (refl, h.goes)) }),
)

item_down : (head : Head) (around : List Frame) (from less at : ℕ) (k : Token) (set : Set) (q : Query) (fill : Fill head.which around) (ts : List Placed) → k ≢ Sign 125 → q ≡ whole head.which head.non_empty around fill set → Opened from (suc less) set (After head.which around fill) (At at k ∷ ts) → ASet head (frame.Braces from less none ∷ around) q (IsSet less) (At at k ∷ ts)
item_down head around from less at k (Picked place path picks) q fill ts n f h = absurd h
item_down head around from less at k (Tuple place paths) q fill ts n f h = absurd h
item_down head around from less at k (Cross place first second) q fill ts n f h = absurd h
item_down head around from less at k (Braces place none) q fill ts n f h = absurd (n h.1.0)
item_down head around from less at k (Braces place (more set sets)) q fill ts n f h = record { fill = (sets, fill); set = set; same = f ∙ ap (λ x. whole head.which head.non_empty around fill (Braces x (more set sets))) h.0; goes = h.1 }

pub item_as_set : (head : Head) (around : List Frame) (from less at : ℕ) (k : Token) (o : Option Place) → k ≢ Sign 125 → Took rest_of (rest_of (place.ASet head (frame.Braces from less none ∷ around) less)) (At at k) o → Took rest_of (rest_of (place.AnItem head around from (suc less))) (At at k) o
item_as_set head around from less at k o n = took_alike (rest_of (place.AnItem head around from (suc less))) (rest_of (place.ASet head (frame.Braces from less none ∷ around) less)) (At at k) o (λ ts q. (
  (λ h. item_down head around from less at k h.set q h.fill ts n h.same h.goes),
  (λ h. record { fill = h.fill.1; set = Braces from (more h.set h.fill.0); same = h.same; goes = (refl, h.goes) }),
))

item_too_deep : (from at : ℕ) (k : Token) (set : Set) (Then : Tokens) (ts : List Placed) → k ≢ Sign 125 → ¬ Opened from zero set Then (At at k ∷ ts)
item_too_deep from at k (Picked place path picks) Then ts n h = h
item_too_deep from at k (Tuple place paths) Then ts n h = h
item_too_deep from at k (Cross place first second) Then ts n h = h
item_too_deep from at k (Braces place none) Then ts n h = n h.1.0
item_too_deep from at k (Braces place (more set sets)) Then ts n h = h.1

pub item_refused : (head : Head) (around : List Frame) (from at : ℕ) (k : Token) → k ≢ Sign 125 → Took rest_of (rest_of (place.AnItem head around from zero)) (At at k) None
item_refused head around from at k n = λ ts q h. item_too_deep from at k h.set (After head.which around h.fill) ts n h.goes

-- after Crossjoin
crossing_down : (head : Head) (around : List Frame) (from less at : ℕ) (set : Set) (q : Query) (fill : Fill head.which around) (ts : List Placed) → q ≡ whole head.which head.non_empty around fill set → Crossed from (suc less) set (After head.which around fill) (At at (Sign 40) ∷ ts) → ASet head (frame.First from less ∷ around) q (IsSet less) ts
crossing_down head around from less at (Picked place path picks) q fill ts f h = absurd h
crossing_down head around from less at (Tuple place paths) q fill ts f h = absurd h
crossing_down head around from less at (Braces place sets) q fill ts f h = absurd h
crossing_down head around from less at (Cross place first second) q fill ts f h = record { fill = (second, fill); set = first; same = f ∙ ap (λ x. whole head.which head.non_empty around fill (Cross x first second)) h.0; goes = h.1.1 }

pub crossing_taken : (head : Head) (around : List Frame) (from less at : ℕ) → Took rest_of (rest_of (place.Crossing head around from (suc less))) (At at (Sign 40)) (Some (place.ASet head (frame.First from less ∷ around) less))
crossing_taken head around from less at = λ ts q. (
  (λ h. crossing_down head around from less at h.set q h.fill ts h.same h.goes),
  (λ h. record { fill = h.fill.1; set = Cross from h.set h.fill.0; same = h.same; goes = (refl, (refl, h.goes)) }),
)

crossing_begins : (from left at : ℕ) (k : Token) (set : Set) (Then : Tokens) (ts : List Placed) → Crossed from left set Then (At at k ∷ ts) → k ≡ Sign 40
crossing_begins from zero at k (Picked place path picks) Then ts h = absurd h
crossing_begins from zero at k (Tuple place paths) Then ts h = absurd h
crossing_begins from zero at k (Braces place sets) Then ts h = absurd h
crossing_begins from zero at k (Cross place first second) Then ts h = absurd h
crossing_begins from (suc left) at k (Picked place path picks) Then ts h = absurd h
crossing_begins from (suc left) at k (Tuple place paths) Then ts h = absurd h
crossing_begins from (suc left) at k (Braces place sets) Then ts h = absurd h
crossing_begins from (suc left) at k (Cross place first second) Then ts h = h.1.0

pub crossing_refused : (head : Head) (around : List Frame) (from left at : ℕ) (k : Token) → k ≢ Sign 40 → Took rest_of (rest_of (place.Crossing head around from left)) (At at k) None
crossing_refused head around from left at k n = λ ts q h. n (crossing_begins from left at k h.set (After head.which around h.fill) ts h.goes)

-- after a set
pub after_refused : (head : Head) (around : List Frame) (set : Set) (at : ℕ) (k : Token) → ¬ Follows around k → Took rest_of (rest_of (place.AfterSet head around set)) (At at k) None
after_refused head around set at k n = λ ts q h. n (after_begins head.which around h.fill at k ts h.goes)

pub on_taken : (head : Head) (set : Set) (at : ℕ) → Took rest_of (rest_of (place.AfterSet head [] set)) (At at (Word (keyword_text keyword.On))) (Some (place.On head.which (axis_of head.non_empty set)))
on_taken head set at = λ ts q. (
  (λ h. record { tail = h.fill; same = h.same; goes = h.goes.1 }),
  (λ h. record { fill = h.tail; same = h.same; goes = (refl, h.goes) }),
)

module _ (head : Head) (around : List Frame) (from left : ℕ) (front : Sets) (set : Set) (at : ℕ) (q : Query) (fill : Fill head.which around) (ts : List Placed) where
  last_down : (sets : Sets) → q ≡ whole head.which head.non_empty around fill (Braces from (before front (more set sets))) → MoreSets left sets (After head.which around fill) (At at (Sign 125) ∷ ts) → Done head around (Braces from (pushed front set)) q ts
  last_down none f h = record { fill = fill; same = f; goes = h.1 }
  last_down (more next sets) f h = absurd (let n = same_sign _ _ h.0 in omega arith)

  next_down : (sets : Sets) → q ≡ whole head.which head.non_empty around fill (Braces from (before front (more set sets))) → MoreSets left sets (After head.which around fill) (At at (Sign 44) ∷ ts) → ASet head (frame.Braces from left (pushed front set) ∷ around) q (IsSet left) ts
  next_down none f h = absurd (let n = same_sign _ _ h.0 in omega arith)
  next_down (more next sets) f h = record { fill = (sets, fill); set = next; same = f ∙ ap (λ x. whole head.which head.non_empty around fill (Braces from x)) (sym (before_assoc front (more set none) (more next sets))); goes = h.1 }

pub last_item : (head : Head) (around : List Frame) (from left : ℕ) (front : Sets) (set : Set) (at : ℕ) → Took rest_of (rest_of (place.AfterSet head (frame.Braces from left front ∷ around) set)) (At at (Sign 125)) (Some (place.AfterSet head around (Braces from (pushed front set))))
last_item head around from left front set at = λ ts q. (
  (λ h. last_down head around from left front set at q h.fill.1 ts h.fill.0 h.same h.goes),
  (λ h. record { fill = (none, h.fill); same = h.same; goes = (refl, h.goes) }),
)

pub next_item : (head : Head) (around : List Frame) (from left : ℕ) (front : Sets) (set : Set) (at : ℕ) → Took rest_of (rest_of (place.AfterSet head (frame.Braces from left front ∷ around) set)) (At at (Sign 44)) (Some (place.ASet head (frame.Braces from left (pushed front set) ∷ around) left))
next_item head around from left front set at = λ ts q. (
  (λ h. next_down head around from left front set at q h.fill.1 ts h.fill.0 h.same h.goes),
  (λ h. record { fill = (more h.set h.fill.0, h.fill.1); same = h.same ∙ ap (λ x. whole head.which head.non_empty around h.fill.1 (Braces from x)) (before_assoc front (more set none) (more h.set h.fill.0)); goes = (refl, h.goes) }),
)

pub second_part : (head : Head) (around : List Frame) (from left : ℕ) (set : Set) (at : ℕ) → Took rest_of (rest_of (place.AfterSet head (frame.First from left ∷ around) set)) (At at (Sign 44)) (Some (place.ASet head (frame.Second from set ∷ around) left))
second_part head around from left set at = λ ts q. (
  (λ h. record { fill = (tt, h.fill.1); set = h.fill.0; same = h.same; goes = h.goes.1 }),
  (λ h. record { fill = (h.set, h.fill.1); same = h.same; goes = (refl, h.goes) }),
)

pub cross_closed : (head : Head) (around : List Frame) (from : ℕ) (first set : Set) (at : ℕ) → Took rest_of (rest_of (place.AfterSet head (frame.Second from first ∷ around) set)) (At at (Sign 41)) (Some (place.AfterSet head around (Cross from first set)))
cross_closed head around from first set at = λ ts q. (
  (λ h. record { fill = h.fill.1; same = h.same; goes = h.goes.1 }),
  (λ h. record { fill = (tt, h.fill); same = h.same; goes = (refl, h.goes) }),
)
