-- That `end_region` ensures what it says.
use Rattle.std.proofs.Common.{◌∷◌, ◌∙◌, ap}
use Rattle.query_meaning.specs.declared.token.Token.TheVariants.{Sign}
use Rattle.query_meaning.specs.RegionTree.{Parts, pushed}
use Rattle.text_forms.specs.Carried.{taken}
use Rattle.region_reader.specs.declared.place.Place.TheVariants.{ARegion, AfterRegion}
use Rattle.region_reader.specs.Places.{rest_of}
use Rattle.region_reader.proofs.Moves.{parts_closed, part_followed, end_refused, frame_of}
use Rattle.region_reader.proofs.in_regions.end_region.Goals as goal

pub returns-then-is_sign : goal.returns-then-is_sign
returns-then-is_sign c = λ at. let a = c.args in let f = c.in-Some.frame in
    taken rest_of (AfterRegion a.cube a.around a.region) (AfterRegion a.cube (f ∷ c.pop.new.self) a.region) at a.token (Sign 41) (AfterRegion a.cube c.pop.new.self c.parts.result) (AfterRegion a.cube c.pop.new.self (Parts f.joins (pushed f.front a.region)))
    (ap (λ x. AfterRegion a.cube x a.region) c.in-Some.ensures) c.if-is_sign.ensures (ap (λ x. AfterRegion a.cube c.pop.new.self x) (c.parts.ensures ∙ ap (Parts f.joins) c.in_ok-push.ensures.ok))
    (parts_closed a.cube c.pop.new.self f.joins f.left f.front a.region at)

pub returns-then-not-is_sign : goal.returns-then-not-is_sign
returns-then-not-is_sign c = λ at. let a = c.args in
    end_refused a.cube a.around a.region at a.token c.if-is_sign.ensures c.if-not-is_sign.ensures

pub returns : goal.returns
returns c = λ at. let a = c.args in let f = c.in-Some.frame in
    taken rest_of (AfterRegion a.cube a.around a.region) (AfterRegion a.cube (f ∷ c.pop.new.self) a.region) at a.token (Sign 44) (ARegion a.cube c.push-3.new.self f.left) (ARegion a.cube (frame_of f.joins f.left (pushed f.front a.region) ∷ c.pop.new.self) f.left)
    (ap (λ x. AfterRegion a.cube x a.region) c.in-Some.ensures) c.if-not-is_sign.ensures (ap (λ x. ARegion a.cube x f.left) (c.in_ok-push-3.ensures ∙ ap (λ x. frame_of f.joins f.left x ∷ c.pop.new.self) c.in_ok-push-2.ensures.ok))
    (part_followed a.cube c.pop.new.self f.joins f.left f.front a.region at)
