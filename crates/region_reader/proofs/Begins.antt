-- With which token what may come begins.
use Rattle.std.proofs.Common.{◌≡◌, ◌≢◌, ◌⊎◌, ◌<◌, ℕ, zero, suc, List, [], ◌∷◌, inl, inr, sym, ◌∙◌, arith}
use Rattle.query_meaning.specs.declared.token.Token.{Token}
use Rattle.query_meaning.specs.declared.token.Token.TheVariants.{Word, Sign, Name}
use Rattle.query_meaning.specs.Tokens.{Placed, At}
use Rattle.query_meaning.specs.Next.{Tokens}
use Rattle.query_meaning.specs.declared.region_text.Joins.TheVariants as joins
use Rattle.query_meaning.specs.declared.keyword.Keyword.{Keyword}
use Rattle.query_meaning.specs.declared.keyword.Keyword.TheVariants as keyword
use Rattle.query_meaning.specs.Keywords.{keyword_text}
use Rattle.query_meaning.specs.RegionTree.{RegionTree, Member, Range, Measures, Parts, none, more}
use Rattle.query_meaning.specs.Grammar.{Dots, Path}
use Rattle.query_meaning.specs.FlushGrammar.{IsRegion}
use Rattle.region_reader.specs.declared.place.Frame.{Frame}
use Rattle.region_reader.specs.declared.place.Opens.{Opens}
use Rattle.region_reader.specs.declared.place.Opens.TheVariants as opens
use Rattle.region_reader.specs.declared.place.PathOf.{PathOf}
use Rattle.region_reader.specs.declared.place.PathOf.TheVariants as path_of
use Rattle.region_reader.specs.Words.{BeginsRegion}
use Rattle.region_reader.specs.Places.{Fill, After, Other, Behind, Opened}

-- a region begins with one of its keywords
pub region_begins : (left : ℕ) (part : RegionTree) (Then : Tokens) (at : ℕ) (k : Token) (ts : List Placed) → IsRegion left part Then (At at k ∷ ts) → (w : Keyword) × (k ≡ Word (keyword_text w)) × BeginsRegion left w
region_begins zero (Member path) Then at k ts h = (keyword.Member, h.0, tt)
region_begins (suc left) (Member path) Then at k ts h = (keyword.Member, h.0, tt)
region_begins zero (Range low high) Then at k ts h = (keyword.Range, h.0, tt)
region_begins (suc left) (Range low high) Then at k ts h = (keyword.Range, h.0, tt)
region_begins zero Measures Then at k ts h = (keyword.Measures, h.0, tt)
region_begins (suc left) Measures Then at k ts h = (keyword.Measures, h.0, tt)
region_begins zero (Parts joined parts) Then at k ts h = absurd h
region_begins (suc left) (Parts joins.Crossjoin parts) Then at k ts h = (keyword.Crossjoin, h.0, omega arith)
region_begins (suc left) (Parts joins.Union parts) Then at k ts h = (keyword.Union, h.0, omega arith)

-- "(" stands after a keyword
pub opened_begins : (of : Opens) (part : RegionTree) (Then : Tokens) (at : ℕ) (k : Token) (ts : List Placed) → Opened of part Then (At at k ∷ ts) → k ≡ Sign 40
opened_begins opens.Member (Member path) Then at k ts h = h.0
opened_begins opens.Range (Range low high) Then at k ts h = h.0
opened_begins (opens.Parts joined left) (Parts other parts) Then at k ts h = h.1.0
opened_begins opens.Member (Range low high) Then at k ts h = absurd h
opened_begins opens.Member Measures Then at k ts h = absurd h
opened_begins opens.Member (Parts other parts) Then at k ts h = absurd h
opened_begins opens.Range (Member path) Then at k ts h = absurd h
opened_begins opens.Range Measures Then at k ts h = absurd h
opened_begins opens.Range (Parts other parts) Then at k ts h = absurd h
opened_begins (opens.Parts joined left) (Member path) Then at k ts h = absurd h
opened_begins (opens.Parts joined left) (Range low high) Then at k ts h = absurd h
opened_begins (opens.Parts joined left) Measures Then at k ts h = absurd h

-- a path begins with a name
pub path_begins : (names : List (List ℕ)) (Then : Tokens) (at : ℕ) (k : Token) (ts : List Placed) → Path names Then (At at k ∷ ts) → (name : List ℕ) × (k ≡ Name name)
path_begins [] Then at k ts h = absurd h
path_begins (name ∷ names) Then at k ts h = (name, h.0)

-- the sign after a path
abbrev pub end_of : PathOf → ℕ
end_of path_of.Member = 41
end_of path_of.First = 44
end_of (path_of.Last first) = 41

-- a dot or that sign stands after a name of a path
pub dots_begin : (names : List (List ℕ)) (of : PathOf) (other : Other of) (Then : Tokens) (at : ℕ) (k : Token) (ts : List Placed) → Dots names (Behind of other Then) (At at k ∷ ts) → (k ≡ Sign 46) ⊎ (k ≡ Sign (end_of of))
dots_begin [] path_of.Member other Then at k ts h = inr h.0
dots_begin [] path_of.First other Then at k ts h = inr h.0
dots_begin [] (path_of.Last first) other Then at k ts h = inr h.0
dots_begin (name ∷ names) of other Then at k ts h = inl h.0

-- a comma or ")" stands after a part, and nothing after the outermost region
pub after_begins : (around : List Frame) (fill : Fill around) (at : ℕ) (k : Token) (ts : List Placed) → After around fill (At at k ∷ ts) → (k ≡ Sign 41) ⊎ (k ≡ Sign 44)
after_begins [] fill at k ts h = absurd cc
after_begins (frame ∷ around) (none, fill) at k ts h = inl h.0
after_begins (frame ∷ around) (more part parts, fill) at k ts h = inr h.0
