-- That `columns_of` ensures what it says and keeps what holds at each turn.
use Rattle.std.proofs.Common.{◌∙◌, ◌++◌, ◌∷◌, [], List, ap, arith, map, sym, take}
use Rattle.std.proofs.lemmas.List.{map_push, take_all, take_more}
use Rattle.olap_meaning.specs.declared.ids.ColumnId.{ColumnId}
use Rattle.olap_meaning.specs.declared.ids.ValueId.{ValueId}
use Rattle.history_core.proofs.kinds.columns_of.Goals as goal

pub push_reserved-requires : goal.push_reserved-requires
push_reserved-requires c = omega (arith, c.loop-pair.invariant.len, c.loop-pair.invariant.room, c.loop-pair-test.true)

pub loop-pair-preserved : goal.loop-pair-preserved
loop-pair-preserved c =
    let next = take_more c.args.at.now c.loop-pair.pair-index c.pair-item.result c.loop-pair-test.true ∙ ap (λ (pair : ColumnId × ValueId). take c.loop-pair.pair-index c.args.at.now ++ pair ∷ []) (sym c.pair-item.is) in
    let pushed = map_push (λ (pair : ColumnId × ValueId). pair.0) (take c.loop-pair.pair-index c.args.at.now) c.pair-item.result in
    record {
      items =
          c.push_reserved.ensures.items
          ∙ ap (λ (columns : List ColumnId). columns ++ c.pair-item.result.0 ∷ []) c.loop-pair.invariant.items
          ∙ sym (ap (map (λ (pair : ColumnId × ValueId). pair.0)) next ∙ pushed);
      len = omega (arith, c.push_reserved.ensures.len, c.loop-pair.invariant.len);
      room = c.push_reserved.ensures.capacity ∙ c.loop-pair.invariant.room;
    }

pub returns : goal.returns
returns c =
    c.from_vec.ensures ∙ c.loop-pair.invariant.items ∙ ap (map (λ (pair : ColumnId × ValueId). pair.0)) (take_all c.loop-pair.pair-index c.args.at.now c.loop-pair-test.false)
