-- Which words and names may come.
use Rattle.std.proofs.Common.{◌≡◌, ◌⊎◌, ◌++◌, ◌<◌, ℕ, Bool, true, false, List, ◌∷◌, inl, inr, sym, subst, MatchBool}
use Rattle.query_meaning.specs.declared.token.Token.TheVariants.{Word, Name}
use Rattle.query_meaning.specs.declared.keyword.Keyword.{Keyword}
use Rattle.query_meaning.specs.declared.keyword.Keyword.TheVariants as keyword
use Rattle.query_meaning.specs.Keywords.{keyword_text}
use Rattle.query_meaning.specs.RegionTree.{RegionTree}
use Rattle.text_forms.specs.Grammars.{Completes, WantsWord, WantsName}
use Rattle.text_forms.specs.Kinds.{same_word, sign_no_word, sign_no_name, word_no_name}
use Rattle.text_forms.specs.Words.{Begins}
use Rattle.region_reader.specs.declared.place.Frame.{Frame}
use Rattle.region_reader.specs.declared.place.PathOf.{PathOf}
use Rattle.region_reader.specs.declared.place.Place.{Place}
use Rattle.region_reader.specs.declared.place.Place.TheVariants as place
use Rattle.region_reader.specs.Words.{BeginsRegion, MayBegin, MayNotBegin}
use Rattle.region_reader.specs.Places.{After, rest_of}
use Rattle.region_reader.specs.Closings.{cube_wanted, name_wanted, region_goes}
use Rattle.region_reader.proofs.Begins.{region_begins}
use Rattle.region_reader.proofs.Moves.{region_refused, path_refused, end_refused}

-- a keyword before a region
pub word_wanted : (cube : List ℕ) (around : List Frame) (left : ℕ) (front : List ℕ) (r : Bool) → MatchBool r (MayBegin left front) (MayNotBegin left front) → WantsWord (rest_of (place.ARegion cube around left)) front r
word_wanted cube around left front true h =
    let k = h.0 in
    let g = region_goes cube around left k h.1 in
    (h.2.0, g.0, subst (λ x. Completes (rest_of (place.ARegion cube around left)) (Word x ∷ g.0)) (sym h.2.1) g.1)
word_wanted cube around left front false h = λ rest at ts q r.
    let b = region_begins left r.part (After around r.fill) at (Word (front ++ rest)) ts r.goes in
    h b.0 b.2 (rest, same_word _ _ b.1)

pub wanted_at : (s known : Place) (front : List ℕ) (r : Bool) → s ≡ known → WantsWord (rest_of known) front r → WantsWord (rest_of s) front r
wanted_at s known front r e h = subst (λ x. WantsWord (rest_of x) front r) (sym e) h

pub named_at : (s known : Place) (r : Bool) → s ≡ known → WantsName (rest_of known) r → WantsName (rest_of s) r
named_at s known r e h = subst (λ x. WantsName (rest_of x) r) (sym e) h

pub no_word_in_path : (s : Place) (cube : List ℕ) (around : List Frame) (of : PathOf) (path : List (List ℕ)) (front : List ℕ) → s ≡ place.AfterName cube around of path → WantsWord (rest_of s) front false
no_word_in_path s cube around of path front e = wanted_at s (place.AfterName cube around of path) front false e (λ rest at. path_refused cube around of path at (Word (front ++ rest)) (λ z. sign_no_word _ _ (sym z)) (λ z. sign_no_word _ _ (sym z)))

pub no_word_behind : (s : Place) (cube : List ℕ) (around : List Frame) (part : RegionTree) (front : List ℕ) → s ≡ place.AfterRegion cube around part → WantsWord (rest_of s) front false
no_word_behind s cube around part front e = wanted_at s (place.AfterRegion cube around part) front false e (λ rest at. end_refused cube around part at (Word (front ++ rest)) (λ z. sign_no_word _ _ (sym z)) (λ z. sign_no_word _ _ (sym z)))

pub no_name_in_path : (s : Place) (cube : List ℕ) (around : List Frame) (of : PathOf) (path : List (List ℕ)) → s ≡ place.AfterName cube around of path → WantsName (rest_of s) false
no_name_in_path s cube around of path e = named_at s (place.AfterName cube around of path) false e (λ name at. path_refused cube around of path at (Name name) (λ z. sign_no_name _ _ (sym z)) (λ z. sign_no_name _ _ (sym z)))

pub no_name_behind : (s : Place) (cube : List ℕ) (around : List Frame) (part : RegionTree) → s ≡ place.AfterRegion cube around part → WantsName (rest_of s) false
no_name_behind s cube around part e = named_at s (place.AfterRegion cube around part) false e (λ name at. end_refused cube around part at (Name name) (λ z. sign_no_name _ _ (sym z)) (λ z. sign_no_name _ _ (sym z)))

pub no_name_before : (s : Place) (cube : List ℕ) (around : List Frame) (left : ℕ) → s ≡ place.ARegion cube around left → WantsName (rest_of s) false
no_name_before s cube around left e = named_at s (place.ARegion cube around left) false e (λ name at. region_refused cube around left at (Name name) (λ w may z. word_no_name _ _ (sym z)))

pub cube_named : (s : Place) → s ≡ place.ACube → WantsName (rest_of s) true
cube_named s e = named_at s place.ACube true e cube_wanted

pub path_named : (s : Place) (cube : List ℕ) (around : List Frame) (of : PathOf) (front : List (List ℕ)) → s ≡ place.AName cube around of front → WantsName (rest_of s) true
path_named s cube around of front e = named_at s (place.AName cube around of front) true e (name_wanted cube around of front)

-- no keyword of a region begins so, if none of each kind does
pub none_begins : (left : ℕ) (front : List ℕ) → ¬ Begins front (keyword_text keyword.Member) → ¬ Begins front (keyword_text keyword.Range) → ¬ Begins front (keyword_text keyword.Measures) → (0 < left → ¬ Begins front (keyword_text keyword.Crossjoin)) → (0 < left → ¬ Begins front (keyword_text keyword.Union)) → MayNotBegin left front
none_begins left front a b c d e keyword.Member may = a
none_begins left front a b c d e keyword.Range may = b
none_begins left front a b c d e keyword.Measures may = c
none_begins left front a b c d e keyword.Crossjoin may = d may
none_begins left front a b c d e keyword.Union may = e may
none_begins left front a b c d e other may = absurd may

-- the keywords that begin any region
pub plain_begins : (left : ℕ) (front : List ℕ) → Begins front (keyword_text keyword.Member) ⊎ Begins front (keyword_text keyword.Range) → MayBegin left front
plain_begins left front (inl b) = (keyword.Member, tt, b)
plain_begins left front (inr b) = (keyword.Range, tt, b)

-- the keywords that join parts
pub last_begins : (left : ℕ) (front : List ℕ) (r : Bool) → 0 < left → MatchBool r (Begins front (keyword_text keyword.Crossjoin) ⊎ Begins front (keyword_text keyword.Union)) ((¬ Begins front (keyword_text keyword.Crossjoin)) × (¬ Begins front (keyword_text keyword.Union))) → ¬ Begins front (keyword_text keyword.Member) → ¬ Begins front (keyword_text keyword.Range) → ¬ Begins front (keyword_text keyword.Measures) → MatchBool r (MayBegin left front) (MayNotBegin left front)
last_begins left front true lt (inl b) m n o = (keyword.Crossjoin, lt, b)
last_begins left front true lt (inr b) m n o = (keyword.Union, lt, b)
last_begins left front false lt h m n o = none_begins left front m n o (λ z. h.0) (λ z. h.1)
