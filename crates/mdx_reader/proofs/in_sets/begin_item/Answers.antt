-- That `begin_item` ensures what it says.
use Rattle.std.proofs.Common.{◌≡◌, ◌∙◌, ◌-◌, suc, ◌∷◌, refl, sym, ap, subst, arith}
use Rattle.query_meaning.specs.declared.token.Token.TheVariants.{Sign}
use Rattle.query_meaning.specs.Tokens.{At}
use Rattle.text_forms.specs.Grammars.{Took}
use Rattle.mdx_reader.specs.declared.place.Frame.TheVariants as frame
use Rattle.mdx_reader.specs.declared.place.Place.TheVariants as place
use Rattle.query_meaning.specs.Tree.{Braces, none}
use Rattle.mdx_reader.specs.Places.{rest_of}
use Rattle.mdx_reader.specs.SetMoves as sets
use Rattle.text_forms.specs.Carried.{taken, refused}
use Rattle.text_forms.proofs.Turns.{on_ok}
use Rattle.mdx_reader.proofs.in_sets.begin_item.Goals as goal

pub returns-then-is_sign-clause-takes : goal.returns-then-is_sign-clause-takes
returns-then-is_sign-clause-takes c = let a = c.args in
    taken rest_of (place.AnItem a.head a.around a.from a.left) (place.AnItem a.head a.around a.from a.left) a.at a.token (Sign 125) (place.AfterSet a.head a.around c.braces.result) (place.AfterSet a.head a.around (Braces a.from none))
    refl c.if-is_sign.ensures
    (ap (λ x. place.AfterSet a.head a.around x) (c.braces.ensures ∙ ap (Braces a.from) c.new.ensures))
    (sets.item_closed a.head a.around a.from a.left a.at)

pub returns-then-left-eq0-clause-takes : goal.returns-then-left-eq0-clause-takes
returns-then-left-eq0-clause-takes c = let a = c.args in
    refused rest_of (place.AnItem a.head a.around a.from a.left) (place.AnItem a.head a.around a.from 0) (At a.at a.token) (ap (λ x. place.AnItem a.head a.around a.from x) c.if-left-eq0.true) (sets.item_refused a.head a.around a.from a.at a.token c.if-is_sign.ensures)

pub returns-clause-takes : goal.returns-clause-takes
returns-clause-takes c = let a = c.args in
    let less = a.left - 1 in
    let n = c.if-left-eq0.false in
    let one : a.left ≡ suc less = omega (arith, n) in
    let known = place.ASet a.head (frame.Braces a.from less none ∷ a.around) less in
    let next : place.ASet a.head c.push.new.self less ≡ known = ap (λ x. place.ASet a.head x less) (c.in_ok-push.ensures ∙ ap (λ y. frame.Braces a.from less y ∷ a.around) c.new-2.ensures) in
    on_ok _ _ c.begin_set.result (λ o h. subst (λ x. Took rest_of (rest_of (place.AnItem a.head a.around a.from x)) (At a.at a.token) o) (sym one) (sets.item_as_set a.head a.around a.from less a.at a.token o c.if-is_sign.ensures (subst (λ s. Took rest_of (rest_of s) (At a.at a.token) o) next h))) c.begin_set.ensures.takes
