-- What each place takes and refuses.
use Rattle.std.proofs.Common.{◌≡◌, ◌≢◌, ◌⊎◌, ◌++◌, ◌<◌, ◌-◌, ℕ, zero, suc, List, [], ◌∷◌, inl, inr, refl, sym, ap, subst, ◌∙◌, arith, append_assoc, Option, Some, None}
use Rattle.std.proofs.lemmas.List.{append-nil}
use Rattle.query_meaning.specs.declared.token.Token.{Token}
use Rattle.query_meaning.specs.declared.token.Token.TheVariants.{Word, Sign, Name}
use Rattle.query_meaning.specs.Tokens.{Placed, At}
use Rattle.query_meaning.specs.Next.{Tokens, Next, End}
use Rattle.text_forms.specs.Grammars.{Took}
use Rattle.text_forms.specs.Kinds.{same_sign, sign_no_word, word_no_name, same_name, keywords}
use Rattle.query_meaning.specs.declared.region_text.Joins.{Joins}
use Rattle.query_meaning.specs.declared.region_text.Joins.TheVariants as joins
use Rattle.query_meaning.specs.declared.region_text.RegionText.{RegionText}
use Rattle.query_meaning.specs.declared.keyword.Keyword.{Keyword}
use Rattle.query_meaning.specs.declared.keyword.Keyword.TheVariants as keyword
use Rattle.query_meaning.specs.Keywords.{keyword_text}
use Rattle.query_meaning.specs.RegionTree.{RegionTree, RegionTrees, Member, Range, Measures, Parts, none, more, before, pushed}
use Rattle.query_meaning.specs.RegionCodes.{before_assoc}
use Rattle.query_meaning.specs.Grammar.{Dots, Path}
use Rattle.query_meaning.specs.FlushGrammar.{joins_key, IsRegion, MoreParts}
use Rattle.region_reader.specs.declared.place.Frame.{Frame}
use Rattle.region_reader.specs.declared.place.Opens.{Opens}
use Rattle.region_reader.specs.declared.place.Opens.TheVariants as opens
use Rattle.region_reader.specs.declared.place.PathOf.{PathOf}
use Rattle.region_reader.specs.declared.place.PathOf.TheVariants as path_of
use Rattle.region_reader.specs.declared.place.Place.{Place}
use Rattle.region_reader.specs.declared.place.Place.TheVariants as place
use Rattle.region_reader.specs.Words.{BeginsRegion}
use Rattle.region_reader.specs.Places.{Fill, whole, After, Other, region_by, Behind, Coming, Opened, Names, Done, rest_of}
use Rattle.region_reader.proofs.Begins.{region_begins, opened_begins, path_begins, end_of, dots_begin, after_begins}

-- refusals
pub cube_refused : (at : ℕ) (k : Token) → ((name : List ℕ) → k ≢ Name name) → Took rest_of (rest_of place.ACube) (At at k) None
cube_refused at k n = λ ts q h. n q.cube h.0

pub region_refused : (cube : List ℕ) (around : List Frame) (left at : ℕ) (k : Token) → ((w : Keyword) → BeginsRegion left w → k ≢ Word (keyword_text w)) → Took rest_of (rest_of (place.ARegion cube around left)) (At at k) None
region_refused cube around left at k n = λ ts q h. (let b = region_begins left h.part (After around h.fill) at k ts h.goes in n b.0 b.2 b.1)

pub opening_refused : (cube : List ℕ) (around : List Frame) (of : Opens) (at : ℕ) (k : Token) → k ≢ Sign 40 → Took rest_of (rest_of (place.Opening cube around of)) (At at k) None
opening_refused cube around of at k n = λ ts q h. n (opened_begins of h.part (After around h.fill) at k ts h.goes)

pub name_refused : (cube : List ℕ) (around : List Frame) (of : PathOf) (front : List (List ℕ)) (at : ℕ) (k : Token) → ((name : List ℕ) → k ≢ Name name) → Took rest_of (rest_of (place.AName cube around of front)) (At at k) None
name_refused cube around of front at k n = λ ts q h. (let b = path_begins h.names (Behind of h.other (After around h.fill)) at k ts h.goes in n b.0 b.1)

pub path_refused : (cube : List ℕ) (around : List Frame) (of : PathOf) (front : List (List ℕ)) (at : ℕ) (k : Token) → k ≢ Sign 46 → k ≢ Sign (end_of of) → Took rest_of (rest_of (place.AfterName cube around of front)) (At at k) None
path_refused cube around of front at k n m = λ ts q h. elim (dots_begin h.names of h.other (After around h.fill) at k ts h.goes) [ inl e ↦ n e | inr e ↦ m e ]

pub end_refused : (cube : List ℕ) (around : List Frame) (part : RegionTree) (at : ℕ) (k : Token) → k ≢ Sign 41 → k ≢ Sign 44 → Took rest_of (rest_of (place.AfterRegion cube around part)) (At at k) None
end_refused cube around part at k n m = λ ts q h. elim (after_begins around h.fill at k ts h.goes) [ inl e ↦ n e | inr e ↦ m e ]

pub whole_refused : (cube : List ℕ) (part : RegionTree) (t : Placed) → Took rest_of (rest_of (place.AfterRegion cube [] part)) t None
whole_refused cube part t = λ ts q h. (let e = h.goes in cc)

-- no keyword of a region: none of those that begin it anywhere, nor of those that join parts, where a part may stand
pub no_region : (left : ℕ) (k : Token) → k ≢ Word (keyword_text keyword.Member) → k ≢ Word (keyword_text keyword.Range) → k ≢ Word (keyword_text keyword.Measures) → (0 < left → k ≢ Word (keyword_text keyword.Crossjoin)) → (0 < left → k ≢ Word (keyword_text keyword.Union)) → (w : Keyword) → BeginsRegion left w → k ≢ Word (keyword_text w)
no_region left k a b c d e keyword.Member may = a
no_region left k a b c d e keyword.Range may = b
no_region left k a b c d e keyword.Measures may = c
no_region left k a b c d e keyword.Crossjoin may = d may
no_region left k a b c d e keyword.Union may = e may
no_region left k a b c d e other may = absurd may

-- the cube's name
pub cube_taken : (name : List ℕ) (at : ℕ) → Took rest_of (rest_of place.ACube) (At at (Name name)) (Some (place.ARegion name [] 15))
cube_taken name at = λ ts q. (
  (λ h. record { fill = tt; part = q.region; same_cube = sym (same_name _ _ h.0); same = refl; goes = h.1 }),
  (λ h. (ap Name (sym h.same_cube), subst (λ x. IsRegion 15 x End ts) (sym h.same) h.goes)),
)

-- keywords apart
no_joins : (joined : Joins) → (joins_key joined ≢ keyword.Member) × (joins_key joined ≢ keyword.Range) × (joins_key joined ≢ keyword.Measures)
no_joins joins.Crossjoin = ((λ e. cc), (λ e. cc), (λ e. cc))
no_joins joins.Union = ((λ e. cc), (λ e. cc), (λ e. cc))

same_joins : (i j : Joins) → joins_key i ≡ joins_key j → i ≡ j
same_joins joins.Crossjoin joins.Crossjoin e = refl
same_joins joins.Crossjoin joins.Union e = absurd cc
same_joins joins.Union joins.Crossjoin e = absurd cc
same_joins joins.Union joins.Union e = refl

-- keywords
member_begun : (left at : ℕ) (part : RegionTree) (Then : Tokens) (ts : List Placed) → IsRegion left part Then (At at (Word (keyword_text keyword.Member)) ∷ ts) → Opened opens.Member part Then ts
member_begun left at (Member path) Then ts h = h.1
member_begun left at (Range first last) Then ts h = (let k = keywords keyword.Member keyword.Range h.0 in absurd cc)
member_begun left at Measures Then ts h = (let k = keywords keyword.Member keyword.Measures h.0 in absurd cc)
member_begun zero at (Parts joined parts) Then ts h = absurd h
member_begun (suc left) at (Parts joined parts) Then ts h = absurd ((no_joins joined).0 (sym (keywords keyword.Member (joins_key joined) h.0)))

range_begun : (left at : ℕ) (part : RegionTree) (Then : Tokens) (ts : List Placed) → IsRegion left part Then (At at (Word (keyword_text keyword.Range)) ∷ ts) → Opened opens.Range part Then ts
range_begun left at (Member path) Then ts h = (let k = keywords keyword.Range keyword.Member h.0 in absurd cc)
range_begun left at (Range first last) Then ts h = h.1
range_begun left at Measures Then ts h = (let k = keywords keyword.Range keyword.Measures h.0 in absurd cc)
range_begun zero at (Parts joined parts) Then ts h = absurd h
range_begun (suc left) at (Parts joined parts) Then ts h = absurd ((no_joins joined).1 (sym (keywords keyword.Range (joins_key joined) h.0)))

parts_begun : (left at : ℕ) (joined : Joins) (part : RegionTree) (Then : Tokens) (ts : List Placed) → IsRegion (suc left) part Then (At at (Word (keyword_text (joins_key joined))) ∷ ts) → Opened (opens.Parts joined left) part Then ts
parts_begun left at joined (Member path) Then ts h = absurd ((no_joins joined).0 (keywords (joins_key joined) keyword.Member h.0))
parts_begun left at joined (Range first last) Then ts h = absurd ((no_joins joined).1 (keywords (joins_key joined) keyword.Range h.0))
parts_begun left at joined Measures Then ts h = absurd ((no_joins joined).2 (keywords (joins_key joined) keyword.Measures h.0))
parts_begun left at joined (Parts other parts) Then ts h = (same_joins other joined (keywords (joins_key other) (joins_key joined) (sym h.0)), h.1)

-- what may stand after a keyword, and the keyword before it
member_ahead : (left at : ℕ) (part : RegionTree) (Then : Tokens) (ts : List Placed) → Opened opens.Member part Then ts → IsRegion left part Then (At at (Word (keyword_text keyword.Member)) ∷ ts)
member_ahead left at (Member path) Then ts h = (refl, h)
member_ahead left at (Range first last) Then ts h = absurd h
member_ahead left at Measures Then ts h = absurd h
member_ahead left at (Parts joined parts) Then ts h = absurd h

range_ahead : (left at : ℕ) (part : RegionTree) (Then : Tokens) (ts : List Placed) → Opened opens.Range part Then ts → IsRegion left part Then (At at (Word (keyword_text keyword.Range)) ∷ ts)
range_ahead left at (Member path) Then ts h = absurd h
range_ahead left at (Range first last) Then ts h = (refl, h)
range_ahead left at Measures Then ts h = absurd h
range_ahead left at (Parts joined parts) Then ts h = absurd h

parts_ahead : (left at : ℕ) (joined : Joins) (part : RegionTree) (Then : Tokens) (ts : List Placed) → Opened (opens.Parts joined left) part Then ts → IsRegion (suc left) part Then (At at (Word (keyword_text (joins_key joined))) ∷ ts)
parts_ahead left at joined (Member path) Then ts h = absurd h
parts_ahead left at joined (Range first last) Then ts h = absurd h
parts_ahead left at joined Measures Then ts h = absurd h
parts_ahead left at joined (Parts other parts) Then ts h = (ap (λ x. Word (keyword_text (joins_key x))) (sym h.0), h.1)

-- a region that is still to come, by what comes next
coming : (cube : List ℕ) (around : List Frame) (q : RegionText) (R S : RegionTree → Tokens → Tokens) (ts us : List Placed) → ((part : RegionTree) (Then : Tokens) → R part Then ts → S part Then us) → Coming cube around q R ts → Coming cube around q S us
coming cube around q R S ts us f h = record { fill = h.fill; part = h.part; same_cube = h.same_cube; same = h.same; goes = f h.part (After around h.fill) h.goes }

module _ (cube : List ℕ) (around : List Frame) (left : ℕ) (at : ℕ) where
  pub member_taken : Took rest_of (rest_of (place.ARegion cube around left)) (At at (Word (keyword_text keyword.Member))) (Some (place.Opening cube around opens.Member))
  member_taken = λ ts q. (
    (λ h. coming cube around q (IsRegion left) (Opened opens.Member) _ ts (λ part Then. member_begun left at part Then ts) h),
    (λ h. coming cube around q (Opened opens.Member) (IsRegion left) ts _ (λ part Then. member_ahead left at part Then ts) h),
  )

  pub range_taken : Took rest_of (rest_of (place.ARegion cube around left)) (At at (Word (keyword_text keyword.Range))) (Some (place.Opening cube around opens.Range))
  range_taken = λ ts q. (
    (λ h. coming cube around q (IsRegion left) (Opened opens.Range) _ ts (λ part Then. range_begun left at part Then ts) h),
    (λ h. coming cube around q (Opened opens.Range) (IsRegion left) ts _ (λ part Then. range_ahead left at part Then ts) h),
  )

  below_taken : (joined : Joins) → Took rest_of (rest_of (place.ARegion cube around (suc left))) (At at (Word (keyword_text (joins_key joined)))) (Some (place.Opening cube around (opens.Parts joined left)))
  below_taken joined = λ ts q. (
    (λ h. coming cube around q (IsRegion (suc left)) (Opened (opens.Parts joined left)) _ ts (λ part Then. parts_begun left at joined part Then ts) h),
    (λ h. coming cube around q (Opened (opens.Parts joined left)) (IsRegion (suc left)) ts _ (λ part Then. parts_ahead left at joined part Then ts) h),
  )

pub parts_taken : (cube : List ℕ) (around : List Frame) (left at : ℕ) (joined : Joins) → left ≢ 0 → Took rest_of (rest_of (place.ARegion cube around left)) (At at (Word (keyword_text (joins_key joined)))) (Some (place.Opening cube around (opens.Parts joined (left - 1))))
parts_taken cube around left at joined n =
    let same : left ≡ suc (left - 1) = omega (arith, n) in
    subst (λ x. Took rest_of (rest_of (place.ARegion cube around x)) (At at (Word (keyword_text (joins_key joined)))) (Some (place.Opening cube around (opens.Parts joined (left - 1))))) (sym same) (below_taken cube around (left - 1) at joined)

measures_down : (cube : List ℕ) (around : List Frame) (left at : ℕ) (part : RegionTree) (q : RegionText) (fill : Fill around) (ts : List Placed) → q.cube ≡ cube → q.region ≡ whole around fill part → IsRegion left part (After around fill) (At at (Word (keyword_text keyword.Measures)) ∷ ts) → Done cube around Measures q ts
measures_down cube around left at (Member path) q fill ts e f h = (let k = keywords keyword.Measures keyword.Member h.0 in absurd cc)
measures_down cube around left at (Range first last) q fill ts e f h = (let k = keywords keyword.Measures keyword.Range h.0 in absurd cc)
measures_down cube around left at Measures q fill ts e f h = record { fill = fill; same_cube = e; same = f; goes = h.1 }
measures_down cube around zero at (Parts joined parts) q fill ts e f h = absurd h
measures_down cube around (suc left) at (Parts joined parts) q fill ts e f h = absurd ((no_joins joined).2 (sym (keywords keyword.Measures (joins_key joined) h.0)))

pub measures_taken : (cube : List ℕ) (around : List Frame) (left at : ℕ) → Took rest_of (rest_of (place.ARegion cube around left)) (At at (Word (keyword_text keyword.Measures))) (Some (place.AfterRegion cube around Measures))
measures_taken cube around left at = λ ts q. (
  (λ h. measures_down cube around left at h.part q h.fill ts h.same_cube h.same h.goes),
  (λ h. record { fill = h.fill; part = Measures; same_cube = h.same_cube; same = h.same; goes = (refl, h.goes) }),
)

-- "(" after a keyword
member_down : (cube : List ℕ) (around : List Frame) (at : ℕ) (part : RegionTree) (q : RegionText) (fill : Fill around) (ts : List Placed) → q.cube ≡ cube → q.region ≡ whole around fill part → Opened opens.Member part (After around fill) (At at (Sign 40) ∷ ts) → Names cube around path_of.Member [] q Path ts
member_down cube around at (Member path) q fill ts e f h = record { fill = fill; other = tt; names = path; same_cube = e; same = f; goes = h.1 }
member_down cube around at (Range first last) q fill ts e f h = absurd h
member_down cube around at Measures q fill ts e f h = absurd h
member_down cube around at (Parts joined parts) q fill ts e f h = absurd h

range_down : (cube : List ℕ) (around : List Frame) (at : ℕ) (part : RegionTree) (q : RegionText) (fill : Fill around) (ts : List Placed) → q.cube ≡ cube → q.region ≡ whole around fill part → Opened opens.Range part (After around fill) (At at (Sign 40) ∷ ts) → Names cube around path_of.First [] q Path ts
range_down cube around at (Member path) q fill ts e f h = absurd h
range_down cube around at (Range first last) q fill ts e f h = record { fill = fill; other = last; names = first; same_cube = e; same = f; goes = h.1 }
range_down cube around at Measures q fill ts e f h = absurd h
range_down cube around at (Parts joined parts) q fill ts e f h = absurd h

-- parts that have just been opened, or some of which were read
abbrev pub frame_of : Joins → ℕ → RegionTrees → Frame
frame_of joined left front = record { joins = joined; left = left; front = front }

parts_down : (cube : List ℕ) (around : List Frame) (left at : ℕ) (joined : Joins) (part : RegionTree) (q : RegionText) (fill : Fill around) (ts : List Placed) → q.cube ≡ cube → q.region ≡ whole around fill part → Opened (opens.Parts joined left) part (After around fill) (At at (Sign 40) ∷ ts) → Coming cube (frame_of joined left none ∷ around) q (IsRegion left) ts
parts_down cube around left at joined (Member path) q fill ts e f h = absurd h
parts_down cube around left at joined (Range first last) q fill ts e f h = absurd h
parts_down cube around left at joined Measures q fill ts e f h = absurd h
parts_down cube around left at joined (Parts other none) q fill ts e f h = absurd h.1.1
parts_down cube around left at joined (Parts other (more part parts)) q fill ts e f h = record { fill = (parts, fill); part = part; same_cube = e; same = f ∙ ap (λ j. whole around fill (Parts j (more part parts))) h.0; goes = h.1.1 }

module _ (cube : List ℕ) (around : List Frame) (at : ℕ) where
  pub member_opened : Took rest_of (rest_of (place.Opening cube around opens.Member)) (At at (Sign 40)) (Some (place.AName cube around path_of.Member []))
  member_opened = λ ts q. (
    (λ h. member_down cube around at h.part q h.fill ts h.same_cube h.same h.goes),
    (λ h. record { fill = h.fill; part = Member h.names; same_cube = h.same_cube; same = h.same; goes = (refl, h.goes) }),
  )

  pub range_opened : Took rest_of (rest_of (place.Opening cube around opens.Range)) (At at (Sign 40)) (Some (place.AName cube around path_of.First []))
  range_opened = λ ts q. (
    (λ h. range_down cube around at h.part q h.fill ts h.same_cube h.same h.goes),
    (λ h. record { fill = h.fill; part = Range h.names h.other; same_cube = h.same_cube; same = h.same; goes = (refl, h.goes) }),
  )

  pub parts_opened : (joined : Joins) (left : ℕ) → Took rest_of (rest_of (place.Opening cube around (opens.Parts joined left))) (At at (Sign 40)) (Some (place.ARegion cube (frame_of joined left none ∷ around) left))
  parts_opened joined left = λ ts q. (
    (λ h. parts_down cube around left at joined h.part q h.fill ts h.same_cube h.same h.goes),
    (λ h. record { fill = h.fill.1; part = Parts joined (more h.part h.fill.0); same_cube = h.same_cube; same = h.same; goes = (refl, (refl, h.goes)) }),
  )

-- a name of a path
name_down : (cube : List ℕ) (around : List Frame) (of : PathOf) (front : List (List ℕ)) (name : List ℕ) (at : ℕ) (names : List (List ℕ)) (q : RegionText) (fill : Fill around) (other : Other of) (ts : List Placed) → q.cube ≡ cube → q.region ≡ whole around fill (region_by of other (front ++ names)) → Path names (Behind of other (After around fill)) (At at (Name name) ∷ ts) → Names cube around of (front ++ name ∷ []) q Dots ts
name_down cube around of front name at [] q fill other ts e f h = absurd h
name_down cube around of front name at (n ∷ names) q fill other ts e f h = record { fill = fill; other = other; names = names; same_cube = e; same = f ∙ ap (λ x. whole around fill (region_by of other (front ++ x ∷ names))) (sym (same_name _ _ h.0)) ∙ ap (λ x. whole around fill (region_by of other x)) (sym (append_assoc front (name ∷ []) names)); goes = h.1 }

pub name_taken : (cube : List ℕ) (around : List Frame) (of : PathOf) (front : List (List ℕ)) (name : List ℕ) (at : ℕ) → Took rest_of (rest_of (place.AName cube around of front)) (At at (Name name)) (Some (place.AfterName cube around of (front ++ name ∷ [])))
name_taken cube around of front name at = λ ts q. (
  (λ h. name_down cube around of front name at h.names q h.fill h.other ts h.same_cube h.same h.goes),
  (λ h. record { fill = h.fill; other = h.other; names = name ∷ h.names; same_cube = h.same_cube; same = h.same ∙ ap (λ x. whole around h.fill (region_by of h.other x)) (append_assoc front (name ∷ []) h.names); goes = (refl, h.goes) }),
)

-- a dot after a name of a path
dot_down : (cube : List ℕ) (around : List Frame) (of : PathOf) (path : List (List ℕ)) (at : ℕ) (names : List (List ℕ)) (q : RegionText) (fill : Fill around) (other : Other of) (ts : List Placed) → q.cube ≡ cube → q.region ≡ whole around fill (region_by of other (path ++ names)) → Dots names (Behind of other (After around fill)) (At at (Sign 46) ∷ ts) → Names cube around of path q Path ts
dot_down cube around path_of.Member path at [] q fill other ts e f h = absurd (let n = same_sign _ _ h.0 in omega arith)
dot_down cube around path_of.First path at [] q fill other ts e f h = absurd (let n = same_sign _ _ h.0 in omega arith)
dot_down cube around (path_of.Last first) path at [] q fill other ts e f h = absurd (let n = same_sign _ _ h.0 in omega arith)
dot_down cube around of path at (name ∷ names) q fill other ts e f h = record { fill = fill; other = other; names = name ∷ names; same_cube = e; same = f; goes = h.1 }

dot_up : (cube : List ℕ) (around : List Frame) (of : PathOf) (path : List (List ℕ)) (at : ℕ) (names : List (List ℕ)) (q : RegionText) (fill : Fill around) (other : Other of) (ts : List Placed) → q.cube ≡ cube → q.region ≡ whole around fill (region_by of other (path ++ names)) → Path names (Behind of other (After around fill)) ts → Names cube around of path q Dots (At at (Sign 46) ∷ ts)
dot_up cube around of path at [] q fill other ts e f h = absurd h
dot_up cube around of path at (name ∷ names) q fill other ts e f h = record { fill = fill; other = other; names = name ∷ names; same_cube = e; same = f; goes = (refl, h) }

pub dot_taken : (cube : List ℕ) (around : List Frame) (of : PathOf) (path : List (List ℕ)) (at : ℕ) → Took rest_of (rest_of (place.AfterName cube around of path)) (At at (Sign 46)) (Some (place.AName cube around of path))
dot_taken cube around of path at = λ ts q. (
  (λ h. dot_down cube around of path at h.names q h.fill h.other ts h.same_cube h.same h.goes),
  (λ h. dot_up cube around of path at h.names q h.fill h.other ts h.same_cube h.same h.goes),
)

-- the path has ended
ended : (around : List Frame) (of : PathOf) (path names : List (List ℕ)) (at sign : ℕ) (q : RegionText) (fill : Fill around) (other : Other of) (ts : List Placed) → sign ≢ 46 → q.region ≡ whole around fill (region_by of other (path ++ names)) → Dots names (Behind of other (After around fill)) (At at (Sign sign) ∷ ts) → (q.region ≡ whole around fill (region_by of other path)) × Behind of other (After around fill) (At at (Sign sign) ∷ ts)
ended around of path [] at sign q fill other ts n f h = (f ∙ ap (λ x. whole around fill (region_by of other x)) (append-nil path), h)
ended around of path (name ∷ names) at sign q fill other ts n f h = absurd (n (same_sign _ _ h.0))

module _ (cube : List ℕ) (around : List Frame) (path : List (List ℕ)) (at : ℕ) where
  pub member_ended : Took rest_of (rest_of (place.AfterName cube around path_of.Member path)) (At at (Sign 41)) (Some (place.AfterRegion cube around (Member path)))
  member_ended = λ ts q. (
    (λ h. (let k = ended around path_of.Member path h.names at 41 q h.fill h.other ts (λ z. absurd (omega arith)) h.same h.goes in record { fill = h.fill; same_cube = h.same_cube; same = k.0; goes = k.1.1 })),
    (λ h. record { fill = h.fill; other = tt; names = []; same_cube = h.same_cube; same = h.same ∙ ap (λ x. whole around h.fill (Member x)) (sym (append-nil path)); goes = (refl, h.goes) }),
  )

  pub first_ended : Took rest_of (rest_of (place.AfterName cube around path_of.First path)) (At at (Sign 44)) (Some (place.AName cube around (path_of.Last path) []))
  first_ended = λ ts q. (
    (λ h. (let k = ended around path_of.First path h.names at 44 q h.fill h.other ts (λ z. absurd (omega arith)) h.same h.goes in record { fill = h.fill; other = tt; names = h.other; same_cube = h.same_cube; same = k.0; goes = k.1.1 })),
    (λ h. record { fill = h.fill; other = h.names; names = []; same_cube = h.same_cube; same = h.same ∙ ap (λ x. whole around h.fill (Range x h.names)) (sym (append-nil path)); goes = (refl, h.goes) }),
  )

  pub last_ended : (first : List (List ℕ)) → Took rest_of (rest_of (place.AfterName cube around (path_of.Last first) path)) (At at (Sign 41)) (Some (place.AfterRegion cube around (Range first path)))
  last_ended first = λ ts q. (
    (λ h. (let k = ended around (path_of.Last first) path h.names at 41 q h.fill h.other ts (λ z. absurd (omega arith)) h.same h.goes in record { fill = h.fill; same_cube = h.same_cube; same = k.0; goes = k.1.1 })),
    (λ h. record { fill = h.fill; other = tt; names = []; same_cube = h.same_cube; same = h.same ∙ ap (λ x. whole around h.fill (Range first x)) (sym (append-nil path)); goes = (refl, h.goes) }),
  )

-- a sign after a part
part_closes : (cube : List ℕ) (joined : Joins) (left : ℕ) (front : RegionTrees) (around : List Frame) (part : RegionTree) (at : ℕ) (parts : RegionTrees) (q : RegionText) (fill : Fill around) (ts : List Placed) → q.cube ≡ cube → q.region ≡ whole around fill (Parts joined (before front (more part parts))) → MoreParts left parts (Next (Sign 41) (After around fill)) (At at (Sign 41) ∷ ts) → Done cube around (Parts joined (pushed front part)) q ts
part_closes cube joined left front around part at none q fill ts e f h = record { fill = fill; same_cube = e; same = f; goes = h.1 }
part_closes cube joined left front around part at (more next parts) q fill ts e f h = absurd (let n = same_sign _ _ h.0 in omega arith)

part_follows : (cube : List ℕ) (joined : Joins) (left : ℕ) (front : RegionTrees) (around : List Frame) (part : RegionTree) (at : ℕ) (parts : RegionTrees) (q : RegionText) (fill : Fill around) (ts : List Placed) → q.cube ≡ cube → q.region ≡ whole around fill (Parts joined (before front (more part parts))) → MoreParts left parts (Next (Sign 41) (After around fill)) (At at (Sign 44) ∷ ts) → Coming cube (frame_of joined left (pushed front part) ∷ around) q (IsRegion left) ts
part_follows cube joined left front around part at none q fill ts e f h = absurd (let n = same_sign _ _ h.0 in omega arith)
part_follows cube joined left front around part at (more next parts) q fill ts e f h = record { fill = (parts, fill); part = next; same_cube = e; same = f ∙ ap (λ x. whole around fill (Parts joined x)) (sym (before_assoc front (more part none) (more next parts))); goes = h.1 }

module _ (cube : List ℕ) (around : List Frame) (joined : Joins) (left : ℕ) (front : RegionTrees) (part : RegionTree) (at : ℕ) where
  pub parts_closed : Took rest_of (rest_of (place.AfterRegion cube (frame_of joined left front ∷ around) part)) (At at (Sign 41)) (Some (place.AfterRegion cube around (Parts joined (pushed front part))))
  parts_closed = λ ts q. (
    (λ h. part_closes cube joined left front around part at h.fill.0 q h.fill.1 ts h.same_cube h.same h.goes),
    (λ h. record { fill = (none, h.fill); same_cube = h.same_cube; same = h.same; goes = (refl, h.goes) }),
  )

  pub part_followed : Took rest_of (rest_of (place.AfterRegion cube (frame_of joined left front ∷ around) part)) (At at (Sign 44)) (Some (place.ARegion cube (frame_of joined left (pushed front part) ∷ around) left))
  part_followed = λ ts q. (
    (λ h. part_follows cube joined left front around part at h.fill.0 q h.fill.1 ts h.same_cube h.same h.goes),
    (λ h. record { fill = (more h.part h.fill.0, h.fill.1); same_cube = h.same_cube; same = h.same ∙ ap (λ x. whole around h.fill.1 (Parts joined x)) (before_assoc front (more part none) (more h.part h.fill.0)); goes = (refl, h.goes) }),
  )
