-- That `begin_cube` ensures what it says.
use Rattle.std.proofs.Common.{[], refl, ap}
use Rattle.query_meaning.specs.declared.token.Token.TheVariants.{Name}
use Rattle.text_forms.specs.Carried.{taken}
use Rattle.region_reader.specs.declared.place.Place.TheVariants.{ACube, ARegion}
use Rattle.region_reader.specs.Places.{rest_of}
use Rattle.region_reader.proofs.Moves.{cube_taken}
use Rattle.region_reader.proofs.in_regions.begin_cube.Goals as goal

pub returns : goal.returns
returns c = λ at. let n = c.in-Some in
    taken rest_of ACube ACube at c.args.token (Name n.cube) (ARegion n.cube c.new.result 15) (ARegion n.cube [] 15)
    refl n.ensures (ap (λ x. ARegion n.cube x 15) c.new.ensures) (cube_taken n.cube at)
