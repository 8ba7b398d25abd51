-- That `begin_slicer` ensures what it says.
use Rattle.std.proofs.Common.{[], ◌∷◌, refl, ap}
use Rattle.query_meaning.specs.declared.token.Token.TheVariants.{Sign, Name}
use Rattle.mdx_reader.specs.declared.place.PathOf.TheVariants as path_of
use Rattle.mdx_reader.specs.declared.place.Place.TheVariants as place
use Rattle.mdx_reader.specs.AxisMoves as axes
use Rattle.mdx_reader.specs.AxisMoves.{head_of}
use Rattle.text_forms.specs.Carried.{taken}
use Rattle.mdx_reader.specs.Places.{rest_of}
use Rattle.mdx_reader.proofs.in_axes.begin_slicer.Goals as goal

pub returns-then-is_sign-clause-takes : goal.returns-then-is_sign-clause-takes
returns-then-is_sign-clause-takes c = λ at. let b = c.args.base in taken rest_of (place.ASlicer b) (place.ASlicer b) at c.args.token (Sign 40) (place.APath (path_of.InSlicer b c.new.result)) (place.APath (path_of.InSlicer b [])) refl c.if-is_sign.ensures (ap (λ x. place.APath (path_of.InSlicer b x)) c.new.ensures) (axes.slice_opened b at)

pub returns-clause-takes : goal.returns-clause-takes
returns-clause-takes c = λ at. let b = c.args.base in taken rest_of (place.ASlicer b) (place.ASlicer b) at c.args.token (Name c.in-Some.name) (place.AfterName (path_of.Slicer b) c.in_ok-path.path) (place.AfterName (path_of.Slicer b) (c.in-Some.name ∷ [])) refl c.in-Some.ensures (ap (λ x. place.AfterName (path_of.Slicer b) x) c.in_ok-path.ensures) (axes.slice_begun b c.in-Some.name at)
