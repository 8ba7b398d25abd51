use Rattle.std.proofs.Common.{◌≡◌, ◌∙◌, ◌∷◌, [], true, false, filter, take, append-nil, sym, refl}
use Rattle.std.proofs.lemmas.List.{map-append}
use Rattle.std.proofs.lemmas.List.Elements.{filter-append}
use Rattle.cache_flush.specs.Loads.{kept_of}
use Rattle.rollup_plan.specs.Picks.{are_kin, lent}
use Rattle.rollup_plan.proofs.ListFacts.{lent_next}
use Rattle.rollup_plan.proofs.kinds.kin_of.Goals as goal
use Rattle.rollup_plan.proofs.kinds.kin_of.Goals.{then-are_kin+in_ok-push, else-are_kin}

pub loop-one-preserved : goal.loop-one-preserved
loop-one-preserved c =
    let loads = lent c.args.kept.now in
    let next = lent_next c.args.kept.now c.loop-one.one-index c.one-item.result c.loop-one-test.true c.one-item.is in
    let one = kept_of c.one-item.result.now in
    let more = filter-append (are_kin (kept_of c.args.first.now)) (take c.loop-one.one-index loads) (one ∷ []) in
    elim c.if-are_kin.branch [
      | then-are_kin+in_ok-push w ↦
          let kin : are_kin (kept_of c.args.first.now) one ≡ true = sym c.are_kin.ensures ∙ w.if-are_kin.true in
          rw (w.kin-is, w.in_ok-push.ensures.items, map-append, c.loop-one.invariant, next, more, kin) refl
      | else-are_kin w ↦
          let kin : are_kin (kept_of c.args.first.now) one ≡ false = sym c.are_kin.ensures ∙ w.if-are_kin.false in
          rw (w.kin-is, next, more, kin) (c.loop-one.invariant ∙ sym (append-nil (filter (are_kin (kept_of c.args.first.now)) (take c.loop-one.one-index loads))))
    ]
