-- That `wants_name` ensures what it says.
use Rattle.region_reader.proofs.Wants.{cube_named, path_named, no_name_before, no_name_in_path, no_name_behind}
use Rattle.region_reader.proofs.reader.PlaceGrammar.wants_name.Goals as goal

pub returns-in-ACube : goal.returns-in-ACube
returns-in-ACube c = cube_named c.args.self.now c.in-ACube.is

pub returns-in-AName : goal.returns-in-AName
returns-in-AName c = let p = c.in-AName in path_named c.args.self.now p.field-0 p.field-1 p.field-2 p.field-3 p.is

pub returns-in-ARegion : goal.returns-in-ARegion
returns-in-ARegion c = let p = c.in-ARegion in no_name_before c.args.self.now p.field-0 p.field-1 p.field-2 p.is

pub returns-in-AfterName : goal.returns-in-AfterName
returns-in-AfterName c = let p = c.in-AfterName in no_name_in_path c.args.self.now p.field-0 p.field-1 p.field-2 p.field-3 p.is

pub returns-in-AfterRegion : goal.returns-in-AfterRegion
returns-in-AfterRegion c = let p = c.in-AfterRegion in no_name_behind c.args.self.now p.field-0 p.field-1 p.field-2 p.is
