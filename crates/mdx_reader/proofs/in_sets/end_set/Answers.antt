-- The set is an axis's, or what stands around it ends with its innermost frame.
use Rattle.std.proofs.Common.{◌∙◌, ◌∷◌, List, sym, subst, ap}
use Rattle.query_meaning.specs.Tokens.{At}
use Rattle.text_forms.specs.Grammars.{Took}
use Rattle.text_forms.proofs.Turns.{on_ok}
use Rattle.mdx_reader.specs.declared.place.Frame.{Frame}
use Rattle.mdx_reader.specs.declared.place.Place.TheVariants as place
use Rattle.mdx_reader.specs.Places.{rest_of}
use Rattle.mdx_reader.proofs.in_sets.end_set.Goals as goal

pub returns-in-None-clause-takes : goal.returns-in-None-clause-takes
returns-in-None-clause-takes c = let a = c.args in
    on_ok _ _ c.end_whole.result (λ o h at. subst (λ (x : List Frame). Took rest_of (rest_of (place.AfterSet a.head x a.set)) (At at a.token.now) o) (sym c.in-None.ensures) (h at)) c.end_whole.ensures.takes

pub returns-in-Some-Braces-clause-takes : goal.returns-in-Some-Braces-clause-takes
returns-in-Some-Braces-clause-takes c = let a = c.args in let p = c.in-Some-Braces in
    on_ok _ _ c.end_item.result (λ o h at. subst (λ (x : List Frame). Took rest_of (rest_of (place.AfterSet a.head x a.set)) (At at a.token.now) o) (sym (p.ensures ∙ ap (λ x. x ∷ c.pop.new.self) p.field-0-is)) (h at)) c.end_item.ensures.takes

pub returns-in-Some-First-clause-takes : goal.returns-in-Some-First-clause-takes
returns-in-Some-First-clause-takes c = let a = c.args in let p = c.in-Some-First in
    on_ok _ _ c.end_first.result (λ o h at. subst (λ (x : List Frame). Took rest_of (rest_of (place.AfterSet a.head x a.set)) (At at a.token.now) o) (sym (p.ensures ∙ ap (λ x. x ∷ c.pop.new.self) p.field-0-is)) (h at)) c.end_first.ensures.takes

pub returns-in-Some-Second-clause-takes : goal.returns-in-Some-Second-clause-takes
returns-in-Some-Second-clause-takes c = let a = c.args in let p = c.in-Some-Second in
    on_ok _ _ c.end_second.result (λ o h at. subst (λ (x : List Frame). Took rest_of (rest_of (place.AfterSet a.head x a.set)) (At at a.token.now) o) (sym (p.ensures ∙ ap (λ x. x ∷ c.pop.new.self) p.field-0-is)) (h at)) c.end_second.ensures.takes
