-- That `cell_with` ensures what it says.
use Rattle.std.proofs.Common.{◌∙◌, ◌<◌, ◌++◌, ◌∷◌, [], ap, arith, length, refl, sym}
use Rattle.history_core.proofs.PackFacts.{zip_next, zip_whole}
use Rattle.history_core.proofs.cell_sources.cell_with.Goals as goal

pub loop-i-preserved : goal.loop-i-preserved
loop-i-preserved c =
    let within : c.loop-i.i < length c.args.values.now = omega (arith, ap length c.as_slice-columns.ensures) in
    let next = zip_next c.as_slice-columns.result.now c.args.values.now c.loop-i.i _ _ c.loop-i-test.true within c.index-columns-i.is c.index-values-i.is in
    record {
      items = c.push_reserved.ensures.items ∙ ap (λ ps. ps ++ (c.index-columns-i.result, c.index-values-i.result) ∷ []) c.loop-i.invariant.items ∙ sym next;
      len = omega (arith, c.push_reserved.ensures.len, c.loop-i.invariant.len);
      room = c.push_reserved.ensures.capacity ∙ c.loop-i.invariant.room;
    }

pub returns : goal.returns
returns c =
    let whole = zip_whole c.as_slice-columns.result.now c.args.values.now c.loop-i.i c.loop-i-test.false in
    rw (c.from_vec.ensures, c.loop-i.invariant.items, whole, c.as_slice-columns.ensures) refl
