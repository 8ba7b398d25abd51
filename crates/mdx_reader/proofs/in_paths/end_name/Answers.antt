-- That `end_name` ensures what it says.
use Rattle.std.proofs.Common.{refl, sym, ap, subst, Some}
use Rattle.query_meaning.specs.declared.token.Token.TheVariants.{Sign}
use Rattle.query_meaning.specs.Tokens.{At}
use Rattle.text_forms.specs.Grammars.{Took}
use Rattle.mdx_reader.specs.declared.place.PathOf.{PathOf}
use Rattle.mdx_reader.specs.declared.place.PathOf.TheVariants as path_of
use Rattle.mdx_reader.specs.declared.place.Place.TheVariants as place
use Rattle.mdx_reader.specs.Places.{rest_of}
use Rattle.mdx_reader.specs.PathMoves as paths
use Rattle.text_forms.specs.Carried.{at_both, refused}
use Rattle.text_forms.proofs.Turns.{on_ok}
use Rattle.mdx_reader.proofs.in_paths.end_name.Goals as goal

pub returns-then-is_sign-clause-takes : goal.returns-then-is_sign-clause-takes
returns-then-is_sign-clause-takes c = λ at. let a = c.args in at_both rest_of (place.AfterName a.of a.path) (place.AfterName a.of a.path) at a.token.now (Sign 46) (Some (place.AfterDot a.of a.path)) refl c.if-is_sign.ensures (paths.dot_taken a.of a.path at)

pub returns-in-Alone-clause-takes : goal.returns-in-Alone-clause-takes
returns-in-Alone-clause-takes c = let a = c.args in let p = c.in-Alone in
    on_ok _ _ c.end_set.result (λ o h at. subst (λ x. Took rest_of (rest_of (place.AfterName x a.path)) (At at a.token.now) o) (sym p.is) (paths.alone_ends p.head p.around p.from a.path at a.token.now o c.if-is_sign.ensures (subst (λ s. Took rest_of (rest_of (place.AfterSet p.head p.around s)) (At at a.token.now) o) c.picked-set.ensures (h at)))) c.end_set.ensures.takes

pub returns-in-InTuple-clause-takes : goal.returns-in-InTuple-clause-takes
returns-in-InTuple-clause-takes c = let a = c.args in let p = c.in-InTuple in
    on_ok _ _ c.end_in_tuple.result (λ o h at. subst (λ (x : PathOf). Took rest_of (rest_of (place.AfterName x a.path)) (At at a.token.now) o) (sym p.is) (h at)) c.end_in_tuple.ensures.takes

pub returns-in-Slicer-clause-takes : goal.returns-in-Slicer-clause-takes
returns-in-Slicer-clause-takes c = λ at. let a = c.args in let p = c.in-Slicer in
    refused rest_of (place.AfterName a.of a.path) (place.AfterName (path_of.Slicer p.field-0) a.path) (At at a.token.now)
    (ap (λ x. place.AfterName x a.path) p.is) (paths.dots_refused (path_of.Slicer p.field-0) a.path at a.token.now c.if-is_sign.ensures (λ f. f))

pub returns-clause-takes : goal.returns-clause-takes
returns-clause-takes c = let a = c.args in let p = c.in-InSlicer in
    on_ok _ _ c.end_in_slicer.result (λ o h at. subst (λ (x : PathOf). Took rest_of (rest_of (place.AfterName x a.path)) (At at a.token.now) o) (sym p.is) (h at)) c.end_in_slicer.ensures.takes
