-- That `find` ensures what it says.
use Rattle.std.proofs.Common.{◌≡◌, ◌<◌, Some, arith, length, refl, slice_get, sym}
use Rattle.std.proofs.lemmas.Option.{slice_get_read}
use Rattle.history_core.proofs.register.Register.find.Goals as goal

pub returns-then-is : goal.returns-then-is
returns-then-is g c =
    let inside : c.loop-place.place < length c.self.inside.things.items = grind arith in
    let at : slice_get c.self.inside.things.items c.loop-place.place ≡ Some c.index.result.now = slice_get_read c.self.inside.things.items (length c.self.inside.things.items) c.loop-place.place c.index.result.now refl inside c.index.ensures in
    (c.index.result.now, rw (← c.self.view_is) at, record { shown = c.index.result; shows = refl; says = record { met = c.if-is.ensures } })

pub returns-then-found : goal.returns-then-found
returns-then-found g c =
    (c.in_ok-get.field-0.now, sym c.in_ok-get.ensures, record { shown = c.in_ok-get.field-0; shows = refl; says = record { met = c.if-found.ensures } })
