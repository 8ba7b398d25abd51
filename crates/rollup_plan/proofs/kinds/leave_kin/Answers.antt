use Rattle.std.proofs.Common.{◌∙◌, sym, ap, rules, not, Bor}
use Rattle.std.proofs.lemmas.Fn.{filter_same}
use Rattle.olap_meaning.proofs.Lists.{filter-map}
use Rattle.cache_flush.specs.Loads.{kept_of}
use Rattle.cache_flush.specs.declared.kept.Kept.{Kept}
use Rattle.rollup_plan.specs.Picks.{are_kin, lent}
use Rattle.rollup_plan.proofs.kinds.leave_kin.Goals as goal

pub returns : goal.returns
returns c =
    let first = kept_of c.args.first.now in
    let kept = filter_same _ (λ (one : Bor Kept). not (are_kin first (kept_of one.now))) _ (λ x b f called. search rules) _ _ c.retain.ensures.filtered in
    ap lent kept ∙ sym (filter-map (λ one. not (are_kin first one)) (λ (one : Bor Kept). kept_of one.now) c.args.kept.now.items)
