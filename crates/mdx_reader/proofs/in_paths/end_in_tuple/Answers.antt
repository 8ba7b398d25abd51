-- That `end_in_tuple` ensures what it says.
use Rattle.std.proofs.Common.{◌∙◌, ◌++◌, [], ◌∷◌, refl, ap, inl, inr}
use Rattle.query_meaning.specs.declared.token.Token.TheVariants.{Sign}
use Rattle.query_meaning.specs.Tokens.{At}
use Rattle.mdx_reader.specs.declared.place.PathOf.TheVariants as path_of
use Rattle.mdx_reader.specs.declared.place.Place.TheVariants as place
use Rattle.query_meaning.specs.Tree.{Tuple}
use Rattle.mdx_reader.specs.Places.{rest_of}
use Rattle.mdx_reader.specs.PathMoves as paths
use Rattle.text_forms.specs.Carried.{taken, refused}
use Rattle.mdx_reader.proofs.in_paths.end_in_tuple.Goals as goal

pub returns-then-is_sign-clause-takes : goal.returns-then-is_sign-clause-takes
returns-then-is_sign-clause-takes c = λ at. let a = c.args in let s = place.AfterName (path_of.InTuple a.head a.around a.from a.front) a.path in
    taken rest_of s s at a.token.now (Sign 44) (place.APath (path_of.InTuple a.head a.around a.from c.push.new.self)) (place.APath (path_of.InTuple a.head a.around a.from (a.front ++ a.path ∷ [])))
    refl c.if-is_sign.ensures (ap (λ x. place.APath (path_of.InTuple a.head a.around a.from x)) c.in_ok-push.ensures.ok)
    (paths.tuple_follows a.head a.around a.from a.front a.path at)

pub returns-then-is_sign-2-clause-takes : goal.returns-then-is_sign-2-clause-takes
returns-then-is_sign-2-clause-takes c = λ at. let a = c.args in let s = place.AfterName (path_of.InTuple a.head a.around a.from a.front) a.path in
    taken rest_of s s at a.token.now (Sign 41) (place.AfterSet a.head a.around c.tuple.result) (place.AfterSet a.head a.around (Tuple a.from (a.front ++ a.path ∷ [])))
    refl c.if-is_sign-2.ensures (ap (λ x. place.AfterSet a.head a.around x) (c.tuple.ensures ∙ ap (Tuple a.from) c.in_ok-push-2.ensures.ok))
    (paths.tuple_closed a.head a.around a.from a.front a.path at)

pub returns-clause-takes : goal.returns-clause-takes
returns-clause-takes c = λ at. let a = c.args in let s = place.AfterName (path_of.InTuple a.head a.around a.from a.front) a.path in
    refused rest_of s s (At at a.token.now) refl (paths.dots_refused (path_of.InTuple a.head a.around a.from a.front) a.path at a.token.now c.requires (λ f. elim f [ inl e ↦ c.if-is_sign.ensures e | inr e ↦ c.if-is_sign-2.ensures e ]))
