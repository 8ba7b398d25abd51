-- That `set_part` and `item_parts` ensure what they say.
use Rattle.std.proofs.Common.{◌≡◌, ◌∙◌, ◌+◌, suc, Ok, ap, arith, map, sym, take}
use Rattle.std.proofs.lemmas.List.{map_push}
use Rattle.std.proofs.lemmas.List.Elements.{All-push}
use Rattle.std.proofs.lemmas.Result.{err_from_is_err_and, IfErr-weaker, IfOk-weaker}
use Rattle.olap_meaning.specs.Results.{◌>>=◌}
use Rattle.query_meaning.specs.Resolution.{begin_of, set_meant}
use Rattle.query_meaning.specs.Tree.{set_size, sets_size, sets_of}
use Rattle.query_meaning.specs.Tree as tree
use Rattle.query_meaning.specs.View.{set_of}
use Rattle.cell_request.specs.Parts.{item_of, part_meant, IsItemOf}
use Rattle.cell_request.proofs.Faults.{fault_each, fault_on}
use Rattle.cell_request.proofs.Sizes.{one_smaller}
use Rattle.olap_meaning.proofs.Each.{each_more}
use Rattle.cell_request.proofs.Steps.{item_meant, items_each}
use Rattle.cell_request.proofs.sets.+sets.Goals as goal

pub set_part-item_parts-requires : goal.set_part-item_parts-requires
set_part-item_parts-requires t c =
    let size : set_size c.args.set.now ≡ suc (sets_size (sets_of c.as_slice-in-Braces.result.now)) = ap set_size (sym c.shape.ensures ∙ ap set_of c.in-Braces.is ∙ ap (tree.Braces c.in-Braces.field-0) (sym c.as_slice-in-Braces.ensures)) in
    (omega (arith, size, c.decreases), c.requires)

pub item_parts-set_part-requires : goal.item_parts-set_part-requires
item_parts-set_part-requires t c = (omega (arith, one_smaller c.args.sets.now c.loop-set.set-index c.set-item.result c.loop-set-test.true c.set-item.is, c.decreases), c.requires)

pub set_part-returns-in-Picked-clause-ok : goal.set_part-returns-in-Picked-clause-ok
set_part-returns-in-Picked-clause-ok t c =
    let is = sym c.shape.ensures ∙ ap set_of c.in-Picked.is ∙ ap (λ p. tree.Picked c.in-Picked.field-0 p c.in-Picked.picks) (sym c.as_slice.ensures) in
    IfOk-weaker c.picked.result _ _ (λ part ok. ap (set_meant c.args.catalog.now c.args.cube) is ∙ ok c.in-Picked.field-0) c.picked.ensures.ok

pub set_part-returns-in-Picked-clause-fault : goal.set_part-returns-in-Picked-clause-fault
set_part-returns-in-Picked-clause-fault t c =
    let is = sym c.shape.ensures ∙ ap set_of c.in-Picked.is ∙ ap (λ p. tree.Picked c.in-Picked.field-0 p c.in-Picked.picks) (sym c.as_slice.ensures) in
    rw is (IfErr-weaker c.picked.result _ _ (λ fault at. at c.in-Picked.field-0) c.picked.ensures.fault)

pub set_part-returns-in-Tuple-clause-ok : goal.set_part-returns-in-Tuple-clause-ok
set_part-returns-in-Tuple-clause-ok t c =
    let is = sym c.shape.ensures ∙ ap set_of c.in-Tuple.is ∙ ap (tree.Tuple c.in-Tuple.field-0) (sym c.as_slice-in-Tuple.ensures) in
    IfOk-weaker c.tuple_part.result _ _ (λ part ok. ap (set_meant c.args.catalog.now c.args.cube) is ∙ ok c.in-Tuple.field-0) c.tuple_part.ensures.ok

pub set_part-returns-in-Tuple-clause-fault : goal.set_part-returns-in-Tuple-clause-fault
set_part-returns-in-Tuple-clause-fault t c =
    let is = sym c.shape.ensures ∙ ap set_of c.in-Tuple.is ∙ ap (tree.Tuple c.in-Tuple.field-0) (sym c.as_slice-in-Tuple.ensures) in
    rw is (IfErr-weaker c.tuple_part.result _ _ (λ fault at. at c.in-Tuple.field-0) c.tuple_part.ensures.fault)

pub item_parts-returns-in_err-part-clause-fault : goal.item_parts-returns-in_err-part-clause-fault
item_parts-returns-in_err-part-clause-fault t c =
    let p = err_from_is_err_and c.from_residual.result c.from_residual.ensures.1 in
    let set = c.set-item.result in
    rw (p.1, p.2)
    (fault_each c.in_err-part.field-0.0 (item_meant c.args.catalog.now c.args.cube) _ c.args.sets.now c.loop-set.set-index set (map (item_of c.args.catalog.now c.args.cube) c.loop-set.items) (items_each c.args.catalog.now c.args.cube c.args.sets.now) c.loop-set-test.true c.set-item.is
    (sym (items_each c.args.catalog.now c.args.cube (take c.loop-set.set-index c.args.sets.now)) ∙ c.loop-set.invariant.0)
    (fault_on c.in_err-part.field-0.0 (set_meant c.args.catalog.now c.args.cube set) (item_meant c.args.catalog.now c.args.cube set) (λ refused at. ap (λ r. r >>= (λ meant. Ok (record { at = begin_of set; meant = meant }))) at) c.in_err-part.ensures.fault))

pub item_parts-loop-set-preserved : goal.item_parts-loop-set-preserved
item_parts-loop-set-preserved t c =
    let set = c.set-item.result in
    let part = c.in_ok-part.part in
    rw c.in_ok-push.ensures.ok (
      items_each c.args.catalog.now c.args.cube (take (c.loop-set.set-index + 1) c.args.sets.now)
          ∙ each_more (item_meant c.args.catalog.now c.args.cube) c.args.sets.now c.loop-set.set-index set (map (item_of c.args.catalog.now c.args.cube) c.loop-set.items) (record { at = c.begin_of-at.result; meant = part_meant c.args.catalog.now c.args.cube part }) c.loop-set-test.true c.set-item.is
          (sym (items_each c.args.catalog.now c.args.cube (take c.loop-set.set-index c.args.sets.now)) ∙ c.loop-set.invariant.0)
          (ap (λ r. r >>= (λ meant. Ok (record { at = begin_of set; meant = meant }))) c.in_ok-part.ensures.ok ∙ ap (λ n. Ok (record { at = n; meant = part_meant c.args.catalog.now c.args.cube part })) (sym c.begin_of-at.ensures))
          ∙ ap (λ xs. Ok xs) (sym (map_push (item_of c.args.catalog.now c.args.cube) c.loop-set.items (record { at = c.begin_of-at.result; part = part }))),
      All-push (IsItemOf c.args.catalog.now c.args.cube) c.loop-set.items (record { at = c.begin_of-at.result; part = part }) c.loop-set.invariant.1 c.in_ok-part.ensures.own,
    )
