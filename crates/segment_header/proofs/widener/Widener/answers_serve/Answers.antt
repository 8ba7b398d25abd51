-- That `answers_serve` ensures what it says, by the fact that is kept beside the closure.
use Rattle.std.proofs.Common.{Ok, IsTrue, refl, subst, sym}
use Rattle.segment_header.specs.Widening.{Serves, are_wanted}
use Rattle.segment_header.proofs.widener.Widener.answers_serve.Goals as goal

pub returns : goal.returns
returns g c wanted count allowed asked given =
    subst (λ w. Serves w count allowed) given.shows
    (c.args.self.now.serves given.shown count (Ok allowed) (subst (λ w. IsTrue (are_wanted w count)) (sym given.shows) asked) given.says allowed refl)
