-- Where a flush may not end.
use Rattle.std.proofs.Common.{◌≡◌, ℕ, zero, suc, List, [], ◌∷◌, subst, ◌∙◌, ap}
use Rattle.query_meaning.specs.Next.{Tokens}
use Rattle.query_meaning.specs.declared.region_text.RegionText.{RegionText}
use Rattle.query_meaning.specs.RegionTree.{RegionTree, Member, Range, Measures, Parts, none, more}
use Rattle.query_meaning.specs.Grammar.{Dots}
use Rattle.query_meaning.specs.FlushGrammar.{IsRegion}
use Rattle.region_reader.specs.declared.place.Frame.{Frame}
use Rattle.region_reader.specs.declared.place.PathOf.{PathOf}
use Rattle.region_reader.specs.declared.place.PathOf.TheVariants as path_of
use Rattle.region_reader.specs.declared.place.Place.{Place}
use Rattle.region_reader.specs.declared.place.Place.TheVariants as place
use Rattle.region_reader.specs.Places.{Fill, After, Other, Behind, rest_of}

dots_unended : (names : List (List ℕ)) (of : PathOf) (other : Other of) (Then : Tokens) → ¬ Dots names (Behind of other Then) []
dots_unended [] path_of.Member other Then g = g
dots_unended [] path_of.First other Then g = g
dots_unended [] (path_of.Last first) other Then g = g
dots_unended (name ∷ names) of other Then g = g

region_unended : (left : ℕ) (part : RegionTree) (Then : Tokens) → ¬ IsRegion left part Then []
region_unended zero (Member path) Then g = g
region_unended (suc left) (Member path) Then g = g
region_unended zero (Range first last) Then g = g
region_unended (suc left) (Range first last) Then g = g
region_unended zero Measures Then g = g
region_unended (suc left) Measures Then g = g
region_unended zero (Parts joined parts) Then g = g
region_unended (suc left) (Parts joined parts) Then g = g

after_unended : (frame : Frame) (around : List Frame) (fill : Fill (frame ∷ around)) → ¬ After (frame ∷ around) fill []
after_unended frame around (none, fill) g = g
after_unended frame around (more part parts, fill) g = g

not_at : (s known : Place) (q : RegionText) → s ≡ known → ¬ rest_of known [] q → ¬ rest_of s [] q
not_at s known q e h r = h (subst (λ x. rest_of x [] q) e r)

pub name_unended : (s : Place) (cube : List ℕ) (around : List Frame) (of : PathOf) (path : List (List ℕ)) (q : RegionText) → s ≡ place.AfterName cube around of path → ¬ rest_of s [] q
name_unended s cube around of path q e = not_at s (place.AfterName cube around of path) q e (λ h. dots_unended h.names of h.other (After around h.fill) h.goes)

pub region_comes : (s : Place) (cube : List ℕ) (around : List Frame) (left : ℕ) (q : RegionText) → s ≡ place.ARegion cube around left → ¬ rest_of s [] q
region_comes s cube around left q e = not_at s (place.ARegion cube around left) q e (λ h. region_unended left h.part (After around h.fill) h.goes)

pub parts_unended : (s : Place) (cube : List ℕ) (old around : List Frame) (frame : Frame) (part : RegionTree) (q : RegionText) → s ≡ place.AfterRegion cube old part → old ≡ frame ∷ around → ¬ rest_of s [] q
parts_unended s cube old around frame part q e f = not_at s (place.AfterRegion cube (frame ∷ around) part) q (e ∙ ap (λ x. place.AfterRegion cube x part) f) (λ h. after_unended frame around h.fill h.goes)
