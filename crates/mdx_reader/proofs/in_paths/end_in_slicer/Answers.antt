-- That `end_in_slicer` ensures what it says.
use Rattle.std.proofs.Common.{◌∙◌, ◌++◌, [], ◌∷◌, refl, ap, inl, inr}
use Rattle.query_meaning.specs.declared.token.Token.TheVariants.{Sign}
use Rattle.query_meaning.specs.Tokens.{At}
use Rattle.mdx_reader.specs.declared.place.PathOf.TheVariants as path_of
use Rattle.mdx_reader.specs.declared.place.Place.TheVariants as place
use Rattle.mdx_reader.specs.Places.{rest_of, sliced}
use Rattle.mdx_reader.specs.PathMoves as paths
use Rattle.text_forms.specs.Carried.{taken, refused}
use Rattle.mdx_reader.proofs.in_paths.end_in_slicer.Goals as goal

pub returns-then-is_sign-clause-takes : goal.returns-then-is_sign-clause-takes
returns-then-is_sign-clause-takes c = λ at. let a = c.args in let s = place.AfterName (path_of.InSlicer a.base a.front) a.path in
    taken rest_of s s at a.token.now (Sign 44) (place.APath (path_of.InSlicer a.base c.push.new.self)) (place.APath (path_of.InSlicer a.base (a.front ++ a.path ∷ [])))
    refl c.if-is_sign.ensures (ap (λ x. place.APath (path_of.InSlicer a.base x)) c.in_ok-push.ensures.ok)
    (paths.slicer_follows a.base a.front a.path at)

pub returns-then-is_sign-2-clause-takes : goal.returns-then-is_sign-2-clause-takes
returns-then-is_sign-2-clause-takes c = λ at. let a = c.args in let s = place.AfterName (path_of.InSlicer a.base a.front) a.path in
    taken rest_of s s at a.token.now (Sign 41) (place.Done c.in_ok-query.query) (place.Done (sliced a.base (a.front ++ a.path ∷ [])))
    refl c.if-is_sign-2.ensures (ap place.Done (c.in_ok-query.ensures ∙ c.query_by.ensures ∙ ap (sliced a.base) c.in_ok-push-2.ensures.ok))
    (paths.slicer_closed a.base a.front a.path at)

pub returns-clause-takes : goal.returns-clause-takes
returns-clause-takes c = λ at. let a = c.args in let s = place.AfterName (path_of.InSlicer a.base a.front) a.path in
    refused rest_of s s (At at a.token.now) refl (paths.dots_refused (path_of.InSlicer a.base a.front) a.path at a.token.now c.requires (λ f. elim f [ inl e ↦ c.if-is_sign.ensures e | inr e ↦ c.if-is_sign-2.ensures e ]))
