-- That `begin_set` ensures what it says.
use Rattle.std.proofs.Common.{◌∙◌, [], ◌∷◌, refl, sym, ap, arith}
use Rattle.query_meaning.specs.declared.token.Token.TheVariants.{Sign, Name}
use Rattle.mdx_reader.specs.declared.place.PathOf.TheVariants as path_of
use Rattle.mdx_reader.specs.declared.place.Place.TheVariants as place
use Rattle.mdx_reader.specs.Begins.{no_set}
use Rattle.text_forms.specs.Kinds.{word_no_name}
use Rattle.mdx_reader.specs.SetMoves as sets
use Rattle.text_forms.specs.Carried.{taken}
use Rattle.mdx_reader.specs.Places.{rest_of}
use Rattle.mdx_reader.proofs.in_sets.begin_set.Goals as goal

pub returns-then-is_sign-2-clause-takes : goal.returns-then-is_sign-2-clause-takes
returns-then-is_sign-2-clause-takes c = let a = c.args in taken rest_of (place.ASet a.head a.around a.left) (place.ASet a.head a.around a.left) a.at a.token (Sign 40) (place.APath (path_of.InTuple a.head a.around a.at c.new.result)) (place.APath (path_of.InTuple a.head a.around a.at [])) refl c.if-is_sign-2.ensures (ap (λ x. place.APath (path_of.InTuple a.head a.around a.at x)) c.new.ensures) (sets.paren_taken a.head a.around a.left a.at)

pub returns-then-left-eq0-clause-takes : goal.returns-then-left-eq0-clause-takes
returns-then-left-eq0-clause-takes c = let a = c.args in sets.set_refused a.head a.around a.left a.at a.token (no_set a.left a.token c.if-is_sign.ensures c.if-is_sign-2.ensures (λ lt e. absurd (let z = c.if-left-eq0.true in omega (arith, lt, z))) (λ n e. word_no_name _ _ (sym c.if-is_word.ensures ∙ e)))

pub returns-in_default-clause-takes : goal.returns-in_default-clause-takes
returns-in_default-clause-takes c = let a = c.args in sets.set_refused a.head a.around a.left a.at a.token (no_set a.left a.token c.if-is_sign.ensures c.if-is_sign-2.ensures (λ lt e. c.if-is_word.ensures e) (λ n e. c.in_default.ensures n e))

pub returns-clause-takes : goal.returns-clause-takes
returns-clause-takes c = let a = c.args in taken rest_of (place.ASet a.head a.around a.left) (place.ASet a.head a.around a.left) a.at a.token (Name c.in-Some.name) (place.AfterName (path_of.Alone a.head a.around a.at) c.in_ok-path.path) (place.AfterName (path_of.Alone a.head a.around a.at) (c.in-Some.name ∷ [])) refl c.in-Some.ensures (ap (λ x. place.AfterName (path_of.Alone a.head a.around a.at) x) c.in_ok-path.ensures) (sets.name_taken a.head a.around a.left a.at c.in-Some.name)
