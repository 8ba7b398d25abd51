-- That `take_around_axes` ensures what it says.
use Rattle.std.proofs.Common.{refl}
use Rattle.mdx_reader.specs.declared.place.Place.TheVariants as place
use Rattle.text_forms.specs.Carried.{at_both}
use Rattle.mdx_reader.specs.Places.{rest_of}
use Rattle.mdx_reader.proofs.query_reader.take_around_axes.Goals as goal

pub returns-in-Start-clause-takes : goal.returns-in-Start-clause-takes
returns-in-Start-clause-takes c = let p = c.in-Start in at_both rest_of c.args.place (place.Start) c.args.at c.args.token c.args.token c.begin.result p.is refl (c.begin.ensures.takes c.args.at)

pub returns-in-Non-clause-takes : goal.returns-in-Non-clause-takes
returns-in-Non-clause-takes c = let p = c.in-Non in at_both rest_of c.args.place (place.Non p.which) c.args.at c.args.token c.args.token c.begin_empty.result p.is refl (c.begin_empty.ensures.takes c.args.at)

pub returns-in-On-clause-takes : goal.returns-in-On-clause-takes
returns-in-On-clause-takes c = let p = c.in-On in at_both rest_of c.args.place (place.On p.which p.axis) c.args.at c.args.token c.args.token c.end_axis.result p.is refl (c.end_axis.ensures.takes c.args.at)

pub returns-in-AfterColumns-clause-takes : goal.returns-in-AfterColumns-clause-takes
returns-in-AfterColumns-clause-takes c = let p = c.in-AfterColumns in at_both rest_of c.args.place (place.AfterColumns p.columns) c.args.at c.args.token c.args.token c.end_columns.result p.is refl (c.end_columns.ensures.takes c.args.at)

pub returns-in-AfterRows-clause-takes : goal.returns-in-AfterRows-clause-takes
returns-in-AfterRows-clause-takes c = let p = c.in-AfterRows in at_both rest_of c.args.place (place.AfterRows p.columns p.rows) c.args.at c.args.token c.args.token c.end_rows.result p.is refl (c.end_rows.ensures.takes c.args.at)

pub returns-in-ACube-clause-takes : goal.returns-in-ACube-clause-takes
returns-in-ACube-clause-takes c = let p = c.in-ACube in at_both rest_of c.args.place (place.ACube p.columns p.rows) c.args.at c.args.token c.args.token c.begin_cube.result p.is refl (c.begin_cube.ensures.takes c.args.at)

pub returns-in-AfterCube-clause-takes : goal.returns-in-AfterCube-clause-takes
returns-in-AfterCube-clause-takes c = let p = c.in-AfterCube in at_both rest_of c.args.place (place.AfterCube p.base) c.args.at c.args.token c.args.token c.end_cube.result p.is refl (c.end_cube.ensures.takes c.args.at)
