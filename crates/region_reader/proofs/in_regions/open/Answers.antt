-- That `open` ensures what it says.
use Rattle.std.proofs.Common.{[], ◌∷◌, ◌∙◌, ap}
use Rattle.query_meaning.specs.declared.token.Token.TheVariants.{Sign}
use Rattle.query_meaning.specs.RegionTree.{none}
use Rattle.text_forms.specs.Carried.{taken}
use Rattle.region_reader.specs.declared.place.Opens.TheVariants as opens
use Rattle.region_reader.specs.declared.place.PathOf.TheVariants as path_of
use Rattle.region_reader.specs.declared.place.Place.TheVariants.{ARegion, Opening, AName}
use Rattle.region_reader.specs.Places.{rest_of}
use Rattle.region_reader.proofs.Moves.{member_opened, range_opened, parts_opened, frame_of}
use Rattle.region_reader.proofs.in_regions.open.Goals as goal

pub returns-in-Member : goal.returns-in-Member
returns-in-Member c = λ at. let a = c.args in
    taken rest_of (Opening a.cube a.around a.opens) (Opening a.cube a.around opens.Member) at a.token (Sign 40) (AName a.cube a.around path_of.Member c.new.result) (AName a.cube a.around path_of.Member [])
    (ap (λ x. Opening a.cube a.around x) c.in-Member.is) c.if-not-is_sign.ensures (ap (λ x. AName a.cube a.around path_of.Member x) c.new.ensures)
    (member_opened a.cube a.around at)

pub returns-in-Range : goal.returns-in-Range
returns-in-Range c = λ at. let a = c.args in
    taken rest_of (Opening a.cube a.around a.opens) (Opening a.cube a.around opens.Range) at a.token (Sign 40) (AName a.cube a.around path_of.First c.new-in-Range.result) (AName a.cube a.around path_of.First [])
    (ap (λ x. Opening a.cube a.around x) c.in-Range.is) c.if-not-is_sign.ensures (ap (λ x. AName a.cube a.around path_of.First x) c.new-in-Range.ensures)
    (range_opened a.cube a.around at)

pub returns : goal.returns
returns c = λ at. let a = c.args in let p = c.in-Parts in
    taken rest_of (Opening a.cube a.around a.opens) (Opening a.cube a.around (opens.Parts p.joins p.left)) at a.token (Sign 40) (ARegion a.cube c.push.new.self p.left) (ARegion a.cube (frame_of p.joins p.left none ∷ a.around) p.left)
    (ap (λ x. Opening a.cube a.around x) p.is) c.if-not-is_sign.ensures (ap (λ x. ARegion a.cube x p.left) (c.in_ok-push-in-Parts.ensures ∙ ap (λ x. frame_of p.joins p.left x ∷ a.around) c.new-front.ensures))
    (parts_opened a.cube a.around at p.joins p.left)
