-- Each number is that of a kept load, and their lines are those of the history.
use Rattle.std.proofs.Common.{◌≡◌, ◌∙◌, List, ap, sym, subst, ℕ, true, Some, filter, length, map, take, take_all, slice_index_or}
use Rattle.olap_meaning.specs.Covering.{among}
use Rattle.olap_meaning.specs.History.{kept}
use Rattle.history_core.specs.Cache.{CacheOf}
use Rattle.history_core.specs.Groups.{numbers_from}
use Rattle.history_core.specs.Shown.{kept_line}
use Rattle.cache_manager.proofs.Managing.{numbers_kept}
use Rattle.cache_manager.proofs.Showing.{lines_are, number_among, numbers_are}
use Rattle.cache_manager.proofs.manager.Manager.lines.Goals as goal

pub line-requires : goal.line-requires
line-requires c =
    let number : ℕ = slice_index_or c.as_slice-number-items.result.now c.loop-number.number-index 0 in
    let there : among c.in_ok-numbers.numbers number ≡ true = subst (λ (ns : List ℕ). among ns number ≡ true) c.as_slice-number-items.ensures (number_among c.as_slice-number-items.result.now c.loop-number.number-index c.loop-number-test.true) in
    ap (λ (k : CacheOf). kept k.entries number) (sym c.self.view_is)
    ∙ numbers_kept c.self.inside.history.setting.catalog c.self.inside.history.entries c.self.inside.shelf.loads number c.self.invariant.kept_are (sym (c.in_ok-numbers.ensures.members number) ∙ there)

pub returns : goal.returns
returns c =
    let whole : take c.loop-number.number-index c.as_slice-number-items.result.now ≡ c.in_ok-numbers.numbers = take_all c.loop-number.number-index c.as_slice-number-items.result.now c.loop-number-test.false ∙ c.as_slice-number-items.ensures in
    let told : map Some c.loop-number.lines ≡ map (kept_line c.args.self.now.entries) c.in_ok-numbers.numbers = c.loop-number.invariant ∙ ap (map (kept_line c.args.self.now.entries)) whole in
    lines_are c.args.self.now.entries c.in_ok-numbers.numbers c.loop-number.lines
    (subst (λ (k : CacheOf). c.in_ok-numbers.numbers ≡ filter (kept k.entries) (numbers_from 1 (length k.entries))) c.self.view_is
    (numbers_are c.self.inside.history.setting.catalog c.self.inside.history.entries c.self.inside.shelf.loads c.self.invariant.kept_are c.self.invariant.kept_all c.in_ok-numbers.numbers c.in_ok-numbers.ensures.rising c.in_ok-numbers.ensures.members))
    told
