-- That `end_second` ensures what it says.
use Rattle.std.proofs.Common.{◌∷◌, refl, ap}
use Rattle.query_meaning.specs.declared.token.Token.TheVariants.{Sign}
use Rattle.mdx_reader.specs.declared.place.Frame.TheVariants as frame
use Rattle.mdx_reader.specs.declared.place.Place.TheVariants as place
use Rattle.query_meaning.specs.Tree.{Cross}
use Rattle.mdx_reader.specs.SetMoves as sets
use Rattle.text_forms.specs.Carried.{taken}
use Rattle.mdx_reader.specs.Places.{rest_of}
use Rattle.mdx_reader.proofs.in_sets.end_second.Goals as goal

pub returns-then-is_sign-clause-takes : goal.returns-then-is_sign-clause-takes
returns-then-is_sign-clause-takes c = λ at. let a = c.args in let s = place.AfterSet a.head (frame.Second a.from a.first ∷ a.around) a.set in
    taken rest_of s s at a.token.now (Sign 41) (place.AfterSet a.head a.around c.in_ok-cross.cross) (place.AfterSet a.head a.around (Cross a.from a.first a.set))
    refl c.if-is_sign.ensures
    (ap (λ x. place.AfterSet a.head a.around x) c.in_ok-cross.ensures)
    (sets.cross_closed a.head a.around a.from a.first a.set at)
