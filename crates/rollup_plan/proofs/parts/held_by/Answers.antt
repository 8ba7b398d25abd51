use Rattle.std.proofs.Common.{◌≡◌, ◌∙◌, true, sym}
use Rattle.cache_flush.specs.Loads.{kept_of}
use Rattle.rollup_plan.specs.Picks.{is_open}
use Rattle.rollup_plan.proofs.CountFacts.{closed_counted, open_counted}
use Rattle.rollup_plan.proofs.PickFacts.{not_any}
use Rattle.rollup_plan.proofs.parts.held_by.Goals as goal

pub returns-then-not-is_open_but : goal.returns-then-not-is_open_but
returns-then-not-is_open_but c = λ size partial.
    closed_counted c.args.cell.now c.args.split (kept_of c.args.one.now) (rw c.header-header.ensures.value at (sym c.is_open_but.ensures ∙ c.if-not-is_open_but.true))

pub returns : goal.returns
returns c = λ size partial.
    let one = kept_of c.args.one.now in
    let header = c.header-header.ensures.value in
    let opened : is_open c.args.cell.now c.args.split one ≡ true = rw header at (sym c.is_open_but.ensures ∙ c.if-not-is_open_but.false) in
    let some = not_any size c.args.cell.now c.args.split one c.allowed_in.result.now partial opened (rw header at c.allowed_in.ensures.open_in) in
    open_counted c.args.cell.now c.args.split one c.allowed_in.result.now c.set_size.result some (rw header at c.allowed_in.ensures.allows) c.set_size.ensures
