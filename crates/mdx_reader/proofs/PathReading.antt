-- Paths, from the front.
use Rattle.std.proofs.Common.{◌≡◌, ℕ, ◌<◌, ◌≤◌, List, [], ◌∷◌, ◌++◌, sym, ap, subst, arith, length, drop}
use Rattle.std.specs.Str.{IsCharBoundary}
use Rattle.std.proofs.lemmas.List.{length-append}
use Rattle.query_meaning.specs.Tokens.{bracketed}
use Rattle.mdx_reader.specs.PathTexts.{BeginsName, BeginsDot, BeginsPath, one, more, IsPathAt, PathStops}
use Rattle.mdx_reader.specs.PathSteps.{BeginsNoWhite, IsBehindDot, IsNameAt, NameStops, IsNextAt, BeginsNoNext}
use Rattle.mdx_reader.proofs.Whites.{dot_same, open_no_white}
use Rattle.mdx_reader.proofs.NameTexts.{opened, rest_same}

-- a path from the byte `from` to the byte `place`
pub record IsPathTo (text : List ℕ) (from : ℕ) (path : List (List ℕ)) (place : ℕ) : Type 0 where
  pub forward : from < place
  pub boundary : IsCharBoundary text place
  pub begins : BeginsPath path (drop from text) (drop place text)

-- the first name of a path
first : {path : List (List ℕ)} {text rest : List ℕ} → BeginsPath path text rest → (name : List ℕ) × (behind : List ℕ) × BeginsName name text behind
first (one {name} {text} {rest} n) = (name, rest, n)
first (more {name} behind next n d h) = (name, behind, n)

-- a path is shorter than its text
name_shorter : {name text rest : List ℕ} → BeginsName name text rest → length rest ≤ length text
name_shorter {name} {text} {rest} n = omega (arith, ap length n.parts, length-append (bracketed name) rest)

dot_shorter : {text rest : List ℕ} → BeginsDot text rest → length rest ≤ length text
dot_shorter {text} {rest} d = omega (arith, ap length d.parts, length-append (d.before ++ 46 ∷ d.behind) rest)

path_shorter : {path : List (List ℕ)} {text rest : List ℕ} → BeginsPath path text rest → length rest ≤ length text
path_shorter (one n) = name_shorter n
path_shorter (more behind next n d h) = omega (arith, name_shorter n, dot_shorter d, path_shorter h)

-- the text after a dot with which a name begins is one
next_same : (text next other name rest : List ℕ) → BeginsDot text next → BeginsDot text other → BeginsNoWhite next → BeginsName name other rest → next ≡ other
next_same text next other name rest d e w n = dot_same text next other w (open_no_white other _ (opened n)) d e

name_no_white : {name text rest : List ℕ} → BeginsName name text rest → BeginsNoWhite text
name_no_white {text} n = open_no_white text _ (opened n)

-- a path that no dot and name follow is the longest
longest : {p q : List (List ℕ)} {text r s : List ℕ} → BeginsNoNext r → BeginsPath p text r → BeginsPath q text s → length r ≤ length s
longest last (one {name = n} {text} {rest = r} h) (one {name = m} {rest = s} k) = omega (arith, ap length (rest_same n m text r s h k))
longest last (one {name = n} {text} {rest = r} h) (more {name = m} behind next k d p) =
    let f = first p in
    absurd (last next f.0 f.1 (subst (λ x. BeginsDot x next) (rest_same m n text behind r k h) d) f.2)
longest last (more {name = n} {text} {rest = r} behind next h d p) (one {name = m} {rest = s} k) =
    omega (arith, path_shorter p, dot_shorter d, ap length (rest_same n m text behind s h k))
longest last (more {name = n} {text} {rest = r} behind next h d p) (more {name = m} {rest = s} {names} behind' next' k e q) =
    let f = first p in
    let g = first q in
    let same = next_same behind next next' g.0 g.1 d (subst (λ x. BeginsDot x next') (rest_same m n text behind' behind k h) e) (name_no_white f.2) g.2 in
    longest last p (subst (λ x. BeginsPath names x s) (sym same) q)

-- no dot and name follow
pub no_next : (text : List ℕ) (from place byte : ℕ) → IsBehindDot text from place → NameStops text place byte → BeginsNoNext (drop from text)
no_next text from place byte h stops next name rest d n =
    stops.none name rest (subst (λ x. BeginsName name x rest) (sym (next_same (drop from text) (drop place text) next name rest h.begins d h.ends n)) n)

-- one name more
ends_more : {path : List (List ℕ)} {text rest : List ℕ} (next name end : List ℕ) → BeginsPath path text rest → BeginsDot rest next → BeginsName name next end → BeginsPath (path ++ name ∷ []) text end
ends_more next name end (one {rest} n) d m = more rest next n d (one m)
ends_more next name end (more behind between n e h) d m = more behind between n e (ends_more next name end h d m)

pub path_one : (text : List ℕ) (from place : ℕ) (name : List ℕ) (path : List (List ℕ)) → IsNameAt text from name place → path ≡ name ∷ [] → IsPathTo text from path place
path_one text from place name path h e = record {
  forward = h.forward;
  boundary = h.boundary;
  begins = subst (λ x. BeginsPath x (drop from text) (drop place text)) (sym e) (one h.begins);
}

pub path_more : (text : List ℕ) (from place end : ℕ) (name : List ℕ) (path new : List (List ℕ)) → IsPathTo text from path place → IsNextAt text place name end → new ≡ path ++ name ∷ [] → IsPathTo text from new end
path_more text from place end name path new h k e = record {
  forward = omega (arith, h.forward, k.forward);
  boundary = k.boundary;
  begins = subst (λ x. BeginsPath x (drop from text) (drop end text)) (sym e) (ends_more k.next name (drop end text) h.begins k.dot k.begins);
}

pub path_ends : (text : List ℕ) (from place : ℕ) (path : List (List ℕ)) → IsPathTo text from path place → BeginsNoNext (drop place text) → IsPathAt text from path place
path_ends text from place path h last = record {
  forward = h.forward;
  boundary = h.boundary;
  begins = h.begins;
  longest = λ other rest k. longest last h.begins k;
}

-- a path stops where its first name stops
pub path_stops : (text : List ℕ) (from byte : ℕ) → NameStops text from byte → PathStops text from byte
path_stops text from byte h = record {
  forward = h.forward;
  within = h.within;
  none = λ path rest k. (let f = first k in h.none f.0 f.1 f.2);
  goes_on = (let g = h.goes_on in (g.0, g.1 ∷ [], (g.2.0, one g.2.1)));
  no_further = λ lt more path rest k. (let f = first k in h.no_further lt more f.0 f.1 f.2);
}
