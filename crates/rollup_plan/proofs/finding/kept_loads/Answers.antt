-- One load more is lent.
use Rattle.std.proofs.Common.{◌≡◌, ◌∙◌, ◌++◌, ◌∷◌, [], List, Option, Some, ap, get_or, map, sym, take}
use Rattle.std.specs.Borrow.{Bor}
use Rattle.cache_flush.specs.Loads.{KeptOf, kept_in, kept_of}
use Rattle.cache_flush.specs.declared.kept.Kept.{Kept}
use Rattle.rollup_plan.specs.Picks.{bare, lent}
use Rattle.rollup_plan.specs.Plans.{kept_at}
use Rattle.rollup_plan.proofs.Bare.{lent_bare}
use Rattle.std.proofs.lemmas.List.{map_push, take_more}
use Rattle.rollup_plan.proofs.finding.kept_loads.Goals as goal

pub loop-number-preserved : goal.loop-number-preserved
loop-number-preserved g c =
    let loads = g.S.Shelf.loads c.args.shelf.now in
    let numbers = c.args.numbers.now in
    let i = c.loop-number.number-index in
    let number = get_or numbers i 0 in
    let at : kept_at loads number ≡ Some (kept_in (g.S.Shelf.flushed c.args.shelf.now) c.kept_load.result.now) = c.kept_load.ensures in
    let own : kept_at (bare loads) number ≡ Some (kept_of c.kept_load.result.now) = lent_bare loads (g.S.Shelf.flushed c.args.shelf.now) number c.kept_load.result.now at in
    ap (λ (kept : List (Bor Kept)). map Some (lent kept)) c.in_ok-push.ensures.items
    ∙ ap (map Some) (map_push (λ (one : Bor Kept). kept_of one.now) c.loop-number.kept.items c.kept_load.result)
    ∙ map_push Some (lent c.loop-number.kept.items) (kept_of c.kept_load.result.now)
    ∙ ap (λ (o : Option KeptOf). map Some (lent c.loop-number.kept.items) ++ o ∷ []) (sym own)
    ∙ ap (λ (os : List (Option KeptOf)). os ++ kept_at (bare loads) number ∷ []) c.loop-number.invariant
    ∙ sym (map_push (kept_at (bare loads)) (take i numbers) number)
    ∙ ap (map (kept_at (bare loads))) (sym (take_more numbers i 0 c.loop-number-test.true))
