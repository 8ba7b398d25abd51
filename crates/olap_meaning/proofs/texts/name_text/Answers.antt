-- That `name_text` ensures what it says.
use Rattle.std.proofs.Common.{◌≡◌, ◌++◌, ◌∷◌, [], ◌∙◌, sym, ap}
use Rattle.std.specs.Str.{chars}
use Rattle.std.proofs.lemmas.Iterator.{YieldsList-from_chars}
use Rattle.std.proofs.lemmas.Iterator.Consumers.{YieldsList-end}
use Rattle.std.proofs.lemmas.List.{map-id}
use Rattle.olap_meaning.proofs.texts.name_text.Goals as goal

pub returns : goal.returns
returns c =
    let t = (YieldsList-end (YieldsList-from_chars c.args.name.now c.utf8.name cc) c.loop-c.yielded _ c.loop-c.yielded_by _ _ c.in-None.is c.next.ensures.steps).0 in
    let all : c.loop-c.yielded ≡ chars c.args.name.now = sym (map-id c.loop-c.yielded) ∙ t in
    rw (← all) (c.from_string.ensures ∙ c.in_ok-push_str.ensures.bytes ∙ ap (λ front. front ++ 93 ∷ []) c.loop-c.invariant)
