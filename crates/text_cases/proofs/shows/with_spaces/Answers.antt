-- At the end all characters are there.
use Rattle.std.proofs.Common.{◌∙◌, ap, flat_map, sym}
use Rattle.std.proofs.lemmas.List.{map-id}
use Rattle.std.proofs.lemmas.Iterator.{YieldsList-from_chars}
use Rattle.std.proofs.lemmas.Iterator.Consumers.{YieldsList-end}
use Rattle.text_cases.specs.Spaced.{spaced}
use Rattle.text_cases.proofs.shows.with_spaces.Goals as goal

pub returns-clause-text : goal.returns-clause-text
returns-clause-text c =
    let l = c.loop-c in
    let y = YieldsList-from_chars c.args.plain.now c.utf8.plain cc in
    let t = YieldsList-end y l.yielded _ l.yielded_by _ _ c.in-None.is c.next.ensures.steps in
    l.invariant.text ∙ ap (flat_map spaced) (sym (map-id l.yielded) ∙ t.0)
