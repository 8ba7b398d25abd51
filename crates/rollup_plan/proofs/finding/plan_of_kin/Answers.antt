use Rattle.std.proofs.Common.{◌∙◌, ℕ, List, map, sym, ap, subst}
use Rattle.std.specs.Prelude.{Contains}
use Rattle.olap_meaning.specs.declared.cells.Allowed.{Allowed}
use Rattle.olap_meaning.specs.declared.cells.Header.{Header}
use Rattle.olap_meaning.proofs.Members.{map_member}
use Rattle.cache_flush.specs.Loads.{kept_of}
use Rattle.rollup_plan.specs.Picks.{lent}
use Rattle.rollup_plan.proofs.KindFacts.{kin_having}
use Rattle.rollup_plan.proofs.finding.plan_of_kin.Goals as goal

pub plan_along-requires : goal.plan_along-requires
plan_along-requires c =
    let own = c.own-item.result in
    let held = map_member (λ (own : ℕ × Allowed). own.0) c.as_slice-own-items.result.now own (c.loop-own.own-index, c.loop-own-test.true, sym c.own-item.is) in
    let columns = c.as_slice-own-items.ensures ∙ ap (λ (header : Header). header.columns) c.header.ensures.value in
    kin_having (kept_of c.args.first.now) (lent c.args.kin.now) own.0 c.requires (subst (λ (columns : List (ℕ × Allowed)). Contains (map (λ (own : ℕ × Allowed). own.0) columns) own.0) columns held)
