-- That `finish` ensures what it says.
use Rattle.region_reader.proofs.Finishes.{parts_unended, region_comes, name_unended}
use Rattle.region_reader.proofs.reader.PlaceGrammar.finish.Goals as goal

pub returns-in-AfterRegion : goal.returns-in-AfterRegion
returns-in-AfterRegion c = λ q. let p = c.in-AfterRegion in parts_unended c.args.self p.cube p.around c.pop.new.self c.in-Some.field-0 p.region q p.is c.in-Some.ensures

pub returns-in-ARegion : goal.returns-in-ARegion
returns-in-ARegion c = λ q. let p = c.in-ARegion in region_comes c.args.self p.field-0 p.field-1 p.field-2 q p.is

pub returns : goal.returns
returns c = λ q. let p = c.in-AfterName in name_unended c.args.self p.field-0 p.field-1 p.field-2 p.field-3 q p.is
