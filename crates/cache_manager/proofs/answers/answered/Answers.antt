-- What was rolled up for a cell stands at its place.
use Rattle.std.proofs.Common.{◌≡◌, ◌∙◌, ◌<◌, ap, sym, subst, List, Some, length, slice_get}
use Rattle.std.proofs.lemmas.Option.{get_or_from_slice_get, slice_get_within}
use Rattle.history_core.specs.declared.answers.Answered.{Answered}
use Rattle.cache_manager.proofs.Finding.{rolled_worth}
use Rattle.cache_manager.proofs.answers.answered.Goals as goal

pub bounds-rolled-rollup : goal.bounds-rolled-rollup
bounds-rolled-rollup c =
    let at = rolled_worth c.args.history.now.setting.catalog c.args.history.now.entries c.args.rollups.now c.args.rolled.now c.in-Rolled.rollup c.in-Rolled.place c.args.hit.now.cell.now c.requires.rolled (rw c.in-Rolled.is at c.requires.hit) in
    slice_get_within c.args.rolled.now c.in-Rolled.rollup at.0 at.2

pub told_at-requires : goal.told_at-requires
told_at-requires c =
    let at = rolled_worth c.args.history.now.setting.catalog c.args.history.now.entries c.args.rollups.now c.args.rolled.now c.in-Rolled.rollup c.in-Rolled.place c.args.hit.now.cell.now c.requires.rolled (rw c.in-Rolled.is at c.requires.hit) in
    let same : c.as_slice.result.now ≡ at.0 = c.as_slice.ensures ∙ c.index-rolled-rollup.is ∙ get_or_from_slice_get c.args.rolled.now c.in-Rolled.rollup at.0 c.index-rolled-rollup.result at.2 in
    subst (λ (xs : List Answered). c.in-Rolled.place < length xs) (sym same) (slice_get_within at.0 c.in-Rolled.place at.1 at.3)

pub returns-in-Rolled : goal.returns-in-Rolled
returns-in-Rolled c =
    let at = rolled_worth c.args.history.now.setting.catalog c.args.history.now.entries c.args.rollups.now c.args.rolled.now c.in-Rolled.rollup c.in-Rolled.place c.args.hit.now.cell.now c.requires.rolled (rw c.in-Rolled.is at c.requires.hit) in
    let same : c.as_slice.result.now ≡ at.0 = c.as_slice.ensures ∙ c.index-rolled-rollup.is ∙ get_or_from_slice_get c.args.rolled.now c.in-Rolled.rollup at.0 c.index-rolled-rollup.result at.2 in
    let both : Some c.told_at.result ≡ Some at.1 = sym c.told_at.ensures ∙ ap (λ (xs : List Answered). slice_get xs c.in-Rolled.place) same ∙ at.3 in
    let here : c.told_at.result ≡ at.1 = cc in
    rw (c.in-Rolled.is, here) at.4
