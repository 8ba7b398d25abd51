-- That the children of one parent more are placed.
use Rattle.std.proofs.Common.{◌∙◌, ◌++◌, [], ap, sym, map, take, get_or}
use Rattle.std.proofs.lemmas.List.{get_or_read}
use Rattle.member_trees.specs.Numbered.{placed_child, placed_children}
use Rattle.member_trees.proofs.LoopFacts.{placed_step}
use Rattle.member_trees.proofs.rows.place_all.Goals as goal

pub loop-place-preserved : goal.loop-place-preserved
loop-place-preserved c =
    let place = c.loop-place.place in
    let lists = c.args.children.now in
    let number = get_or c.args.order.now place 0 in
    c.in_ok-place_children.ensures
    ∙ ap (λ ps. ps ++ map (placed_child place) c.as_slice.result.now) c.loop-place.invariant
    ∙ ap (λ ks. placed_children lists (take place c.args.order.now) ++ map (placed_child place) ks)
    (c.as_slice.ensures ∙ get_or_read lists number c.index-children-number.result (c.requires.known place 0 c.loop-place-test.true) c.index-children-number.is [])
    ∙ sym (placed_step lists c.args.order.now place c.loop-place-test.true)
