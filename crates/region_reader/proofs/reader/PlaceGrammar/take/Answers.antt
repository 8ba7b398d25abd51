-- That `take` ensures what it says.
use Rattle.std.proofs.Common.{refl}
use Rattle.text_forms.specs.Carried.{at_both}
use Rattle.region_reader.specs.declared.place.Place.TheVariants.{ACube, ARegion, AfterName}
use Rattle.region_reader.specs.Places.{rest_of}
use Rattle.region_reader.proofs.reader.PlaceGrammar.take.Goals as goal

pub returns-in-ACube-clause-takes : goal.returns-in-ACube-clause-takes
returns-in-ACube-clause-takes c = let a = c.args in
    at_both rest_of a.self ACube a._at a.token a.token c.begin_cube.result c.in-ACube.is refl (c.begin_cube.ensures a._at)

pub returns-in-ARegion-clause-takes : goal.returns-in-ARegion-clause-takes
returns-in-ARegion-clause-takes c = let a = c.args in let p = c.in-ARegion in
    at_both rest_of a.self (ARegion p.cube p.around p.left) a._at a.token a.token c.begin_region.result p.is refl (c.begin_region.ensures a._at)

pub returns-in-AfterName-clause-takes : goal.returns-in-AfterName-clause-takes
returns-in-AfterName-clause-takes c = let a = c.args in let p = c.in-AfterName in
    at_both rest_of a.self (AfterName p.cube p.around p.of p.path) a._at a.token a.token c.end_name.result p.is refl (c.end_name.ensures a._at)
