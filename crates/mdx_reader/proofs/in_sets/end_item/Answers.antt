-- That `end_item` ensures what it says.
use Rattle.std.proofs.Common.{◌∙◌, ◌∷◌, refl, ap, inl, inr}
use Rattle.query_meaning.specs.declared.token.Token.TheVariants.{Sign}
use Rattle.query_meaning.specs.Tokens.{At}
use Rattle.mdx_reader.specs.declared.place.Frame.TheVariants as frame
use Rattle.mdx_reader.specs.declared.place.Place.TheVariants as place
use Rattle.query_meaning.specs.Tree.{Braces, pushed}
use Rattle.mdx_reader.specs.SetMoves as sets
use Rattle.text_forms.specs.Carried.{taken, refused}
use Rattle.mdx_reader.specs.Places.{rest_of}
use Rattle.mdx_reader.proofs.in_sets.end_item.Goals as goal

pub returns-then-is_sign-clause-takes : goal.returns-then-is_sign-clause-takes
returns-then-is_sign-clause-takes c = λ at. let a = c.args in let s = place.AfterSet a.head (frame.Braces a.opening.0 a.opening.1 a.front ∷ a.around) a.set in
    taken rest_of s s at a.token.now (Sign 125) (place.AfterSet a.head a.around c.braces.result) (place.AfterSet a.head a.around (Braces a.opening.0 (pushed a.front a.set)))
    refl c.if-is_sign.ensures
    (ap (λ x. place.AfterSet a.head a.around x) (c.braces.ensures ∙ ap (Braces a.opening.0) c.in_ok-push.ensures.ok))
    (sets.last_item a.head a.around a.opening.0 a.opening.1 a.front a.set at)

pub returns-then-is_sign-2-clause-takes : goal.returns-then-is_sign-2-clause-takes
returns-then-is_sign-2-clause-takes c = λ at. let a = c.args in let s = place.AfterSet a.head (frame.Braces a.opening.0 a.opening.1 a.front ∷ a.around) a.set in
    taken rest_of s s at a.token.now (Sign 44) (place.ASet a.head c.push-then-is_sign-2-2.new.self a.opening.1) (place.ASet a.head (frame.Braces a.opening.0 a.opening.1 (pushed a.front a.set) ∷ a.around) a.opening.1)
    refl c.if-is_sign-2.ensures
    (ap (λ x. place.ASet a.head x a.opening.1) (c.in_ok-push-3.ensures ∙ ap (λ x. frame.Braces a.opening.0 a.opening.1 x ∷ a.around) c.in_ok-push-2.ensures.ok))
    (sets.next_item a.head a.around a.opening.0 a.opening.1 a.front a.set at)

pub returns-clause-takes : goal.returns-clause-takes
returns-clause-takes c = λ at. let a = c.args in let s = place.AfterSet a.head (frame.Braces a.opening.0 a.opening.1 a.front ∷ a.around) a.set in
    refused rest_of s s (At at a.token.now) refl
    (sets.after_refused a.head (frame.Braces a.opening.0 a.opening.1 a.front ∷ a.around) a.set at a.token.now (λ f. elim f [ inl e ↦ c.if-is_sign-2.ensures e | inr e ↦ c.if-is_sign.ensures e ]))
