-- That `order_values` may call `value_at`.
use Rattle.std.proofs.Common.{◌≡◌, ◌∙◌, true, length, get_or, ap, arith}
use Rattle.std.proofs.lemmas.Bool.{ltb-true}
use Rattle.std.specs.Prelude.{nat_lt}
use Rattle.std.specs.List.{list_all}
use Rattle.segment_header.proofs.RiseFacts.{all_at}
use Rattle.agg_tables.specs.Places.{FileOf}
use Rattle.agg_tables.proofs.ReadFacts.{order_within}
use Rattle.agg_tables.proofs.file.TableFile.order_values.Goals as goal

pub value_at-requires : goal.value_at-requires
value_at-requires c =
    let a = c.self.inside in
    let order = c.as_slice-place-items.result.now in
    let is = c.as_slice-place-items.ensures.value ∙ c.self.invariant.ordered in
    let all : list_all (λ p. nat_lt p (length a.declared.now.levels)) order ≡ true = rw is (order_within a.declared.now.levels (length a.catalog.now.columns)) in
    let here = ltb-true (get_or order c.loop-place.place-index 0) (length a.declared.now.levels) (all_at (λ p. nat_lt p (length a.declared.now.levels)) order c.loop-place.place-index 0 all c.loop-place-test.true) in
    let same = ap (λ (f : FileOf). length f.declared.levels) c.self.view_is in
    omega (arith, here, same, c.requires)
