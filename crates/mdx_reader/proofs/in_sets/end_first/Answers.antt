-- That `end_first` ensures what it says.
use Rattle.std.proofs.Common.{◌∷◌, refl, ap}
use Rattle.query_meaning.specs.declared.token.Token.TheVariants.{Sign}
use Rattle.mdx_reader.specs.declared.place.Frame.TheVariants as frame
use Rattle.mdx_reader.specs.declared.place.Place.TheVariants as place
use Rattle.mdx_reader.specs.SetMoves as sets
use Rattle.text_forms.specs.Carried.{taken}
use Rattle.mdx_reader.specs.Places.{rest_of}
use Rattle.mdx_reader.proofs.in_sets.end_first.Goals as goal

pub returns-then-is_sign-clause-takes : goal.returns-then-is_sign-clause-takes
returns-then-is_sign-clause-takes c = λ at. let a = c.args in let s = place.AfterSet a.head (frame.First a.opening.0 a.opening.1 ∷ a.around) a.set in
    taken rest_of s s at a.token.now (Sign 44) (place.ASet a.head c.push.new.self a.opening.1) (place.ASet a.head (frame.Second a.opening.0 a.set ∷ a.around) a.opening.1)
    refl c.if-is_sign.ensures
    (ap (λ x. place.ASet a.head x a.opening.1) c.in_ok-push.ensures)
    (sets.second_part a.head a.around a.opening.0 a.opening.1 a.set at)
