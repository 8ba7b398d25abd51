-- That `wants_word` ensures what it says.
use Rattle.region_reader.specs.declared.place.Place.TheVariants.{ARegion}
use Rattle.region_reader.proofs.Wants.{word_wanted, wanted_at, no_word_in_path, no_word_behind}
use Rattle.region_reader.proofs.reader.PlaceGrammar.wants_word.Goals as goal

pub returns-in-ARegion : goal.returns-in-ARegion
returns-in-ARegion c = let p = c.in-ARegion in wanted_at c.args.self.now (ARegion p.field-0 p.field-1 p.left) c.args.front.now c.begins_region.result p.is (word_wanted p.field-0 p.field-1 p.left c.args.front.now c.begins_region.result c.begins_region.ensures)

pub returns-in-AfterName : goal.returns-in-AfterName
returns-in-AfterName c = let p = c.in-AfterName in no_word_in_path c.args.self.now p.field-0 p.field-1 p.field-2 p.field-3 c.args.front.now p.is

pub returns-in-AfterRegion : goal.returns-in-AfterRegion
returns-in-AfterRegion c = let p = c.in-AfterRegion in no_word_behind c.args.self.now p.field-0 p.field-1 p.field-2 c.args.front.now p.is
