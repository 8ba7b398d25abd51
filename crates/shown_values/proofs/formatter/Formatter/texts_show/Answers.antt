-- That `texts_show` ensures what it says, by the fact that is kept beside the closure.
use Rattle.std.proofs.Common.{Ok, refl, subst, sym}
use Rattle.olap_meaning.specs.Texts.{CanBeShown}
use Rattle.query_meaning.specs.Shown.{Shows}
use Rattle.shown_values.proofs.formatter.Formatter.texts_show.Goals as goal

pub returns : goal.returns
returns g c value text can given =
    subst (λ v. Shows v text) given.shows
    (c.args.self.now.shows given.shown (Ok text) (subst CanBeShown (sym given.shows) can) given.says.met text refl)
