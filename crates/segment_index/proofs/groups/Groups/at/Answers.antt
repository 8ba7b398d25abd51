-- That `at` ensures what it says.
use Rattle.std.proofs.Common.{◌∙◌, ap, sym, option_copied}
use Rattle.segment_index.proofs.GroupFacts.{loads_or_none, loads-lookup}
use Rattle.segment_index.proofs.groups.Groups.at.Goals as goal

pub returns-in-Some : goal.returns-in-Some
returns-in-Some c =
    rw (← c.self.view_is) (c.parts.ensures ∙ ap (λ o. loads_or_none (option_copied o)) (sym c.in-Some.is) ∙ ap loads_or_none c.get.ensures.value ∙ sym (loads-lookup c.self.inside.by_key.entries c.args.key))

pub returns-in-None : goal.returns-in-None
returns-in-None c =
    rw (← c.self.view_is) (ap (λ o. loads_or_none (option_copied o)) (sym c.in-None.is) ∙ ap loads_or_none c.get.ensures.value ∙ sym (loads-lookup c.self.inside.by_key.entries c.args.key))
