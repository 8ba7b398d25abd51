-- The item that the list lends is the entry at the position.
use Rattle.std.proofs.Common.{◌≡◌, ◌∙◌, ◌+◌, ap, arith, option_copied, slice_get}
use Rattle.history_core.proofs.EntryFacts.{copied_at, entry_at_place}
use Rattle.history_core.proofs.history.History.entry.Goals as goal

pub returns : goal.returns
returns c =
    let place = c.in_ok-before.before in
    let next : place + 1 ≡ c.args.i = omega (arith, c.in_ok-before.ensures) in
    let found : option_copied c.get.result ≡ slice_get c.self.inside.entries.items place =
    copied_at c.deref.result.now place c.get.result c.get.ensures.lookup ∙ ap (λ events. slice_get events place) c.deref.ensures.value in
    entry_at_place c.self.inside.entries.items c.args.self.now.entries c.args.i place (option_copied c.get.result) (ap (λ h. h.entries) c.self.view_is) next found
