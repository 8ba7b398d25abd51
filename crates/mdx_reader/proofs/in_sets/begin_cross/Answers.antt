-- That `begin_cross` ensures what it says.
use Rattle.std.proofs.Common.{◌≡◌, ◌<◌, ◌-◌, suc, ◌∷◌, ap, arith}
use Rattle.query_meaning.specs.declared.token.Token.TheVariants.{Sign}
use Rattle.mdx_reader.specs.declared.place.Frame.TheVariants as frame
use Rattle.mdx_reader.specs.declared.place.Place.TheVariants as place
use Rattle.mdx_reader.specs.SetMoves as sets
use Rattle.text_forms.specs.Carried.{taken}
use Rattle.mdx_reader.specs.Places.{rest_of}
use Rattle.mdx_reader.proofs.in_sets.begin_cross.Goals as goal

pub returns-then-is_sign-clause-takes : goal.returns-then-is_sign-clause-takes
returns-then-is_sign-clause-takes c = λ at. let a = c.args in
    let less = a.left - 1 in
    let lt : 0 < a.left = c.requires in
    let one : a.left ≡ suc less = omega (arith, lt) in
    taken rest_of (place.Crossing a.head a.around a.from a.left) (place.Crossing a.head a.around a.from (suc less)) at a.token (Sign 40) (place.ASet a.head c.push.new.self less) (place.ASet a.head (frame.First a.from less ∷ a.around) less)
    (ap (λ x. place.Crossing a.head a.around a.from x) one) c.if-is_sign.ensures
    (ap (λ x. place.ASet a.head x less) c.in_ok-push.ensures)
    (sets.crossing_taken a.head a.around a.from less at)
