-- That `finish` ensures what it says.
use Rattle.mdx_reader.specs.declared.place.Place.TheVariants.{AfterName, Done}
use Rattle.std.proofs.Common.{◌∙◌, ap, sym, None, refl}
use Rattle.mdx_reader.proofs.Finishes.{others_go_on, path_finished, cube_ends_it, query_ends_it}
use Rattle.mdx_reader.proofs.query_reader.PlaceGrammar.finish.Goals as goal

pub returns-in-AfterName : goal.returns-in-AfterName
returns-in-AfterName c = let p = c.in-AfterName in path_finished c.args.self (AfterName p.of p.path) c.finish_path.result p.is c.finish_path.ensures

pub returns-in-AfterCube : goal.returns-in-AfterCube
returns-in-AfterCube c = let p = c.in-AfterCube in cube_ends_it c.args.self p.base c.new.result c.query_by.result p.is c.new.ensures c.query_by.ensures

pub returns-in-Done : goal.returns-in-Done
returns-in-Done c = let p = c.in-Done in query_ends_it c.args.self c.into_inner.result (p.is ∙ ap Done (sym c.into_inner.ensures))

pub returns-in_default : goal.returns-in_default
returns-in_default c = let d = c.in_default in others_go_on c.args.self None refl d.not-AfterName d.not-AfterCube d.not-Done
