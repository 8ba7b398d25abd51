-- That `add_values` keeps what holds at each turn.
use Rattle.std.proofs.Common.{◌∙◌, ◌++◌, ◌∷◌, [], List, append_assoc, ap, arith, map, sym, take}
use Rattle.std.proofs.lemmas.List.{map_push, take_more}
use Rattle.olap_meaning.specs.declared.ids.ColumnId.{ColumnId}
use Rattle.olap_meaning.specs.declared.ids.ValueId.{ValueId}
use Rattle.history_core.proofs.cell_sources.add_values.Goals as goal

pub loop-pair-preserved : goal.loop-pair-preserved
loop-pair-preserved c =
    let front : List (ColumnId × ValueId) = take c.loop-pair.pair-index c.args.at.now in
    let next = take_more c.args.at.now c.loop-pair.pair-index c.pair-item.result c.loop-pair-test.true ∙ ap (λ (pair : ColumnId × ValueId). front ++ pair ∷ []) (sym c.pair-item.is) in
    let pushed = ap (map (λ (pair : ColumnId × ValueId). pair.1)) next ∙ map_push (λ (pair : ColumnId × ValueId). pair.1) front c.pair-item.result in
    record {
      items =
          c.push_reserved.ensures.items
          ∙ ap (λ (values : List ValueId). values ++ c.pair-item.result.1 ∷ []) c.loop-pair.invariant.items
          ∙ append_assoc c.args.values.now.items (map (λ (pair : ColumnId × ValueId). pair.1) front) (c.pair-item.result.1 ∷ [])
          ∙ ap (λ (values : List ValueId). c.args.values.now.items ++ values) (sym pushed);
      len = omega (arith, c.push_reserved.ensures.len, c.loop-pair.invariant.len);
      room = c.push_reserved.ensures.capacity ∙ c.loop-pair.invariant.room;
    }
