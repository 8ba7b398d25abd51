-- That `plain_formatter` ensures what it says.
use Rattle.std.proofs.Common.{Ok, subst, sym, ◌∙◌, ap}
use Rattle.olap_meaning.specs.Texts.{CanBeShown, plain_text}
use Rattle.shown_values.proofs.plain.plain_formatter.Goals as goal

pub returns : goal.returns
returns g c value text can given =
    let said = (c.new.ensures value (Ok text)).0 given in
    c.requires.plain said.shown (Ok text) (subst CanBeShown (sym said.shows) can) said.says.met ∙ ap plain_text said.shows
