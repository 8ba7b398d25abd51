-- That the lists hold the children of the members so far.
use Rattle.std.proofs.Common.{◌≡◌, ◌∙◌, ap, length, take, arith}
use Rattle.std.proofs.lemmas.List.FromFn.{length-map-range_with_len}
use Rattle.member_trees.specs.Numbered.{children_of}
use Rattle.member_trees.proofs.LoopFacts.{no_children, children_step}
use Rattle.member_trees.proofs.rows.children.Goals as goal

pub loop-number-init : goal.loop-number-init
loop-number-init c = c.in_ok-lists.ensures ∙ no_children 0 c.args.parents

pub index_mut-requires : goal.index_mut-requires
index_mut-requires c =
    let long : length c.loop-number.lists.items ≡ c.args.parents = ap length c.loop-number.invariant ∙ length-map-range_with_len (children_of (take c.loop-number.number c.args.members.now)) 0 c.args.parents in
    let known = c.requires.known c.loop-number.number (0, 0) c.loop-number-test.true in
    omega (arith, long, known, c.loop-number.lists.ok.0)

pub loop-number-preserved : goal.loop-number-preserved
loop-number-preserved c =
    children_step c.args.members.now c.loop-number.number c.args.parents c.loop-number.lists.items _ c.push.new.self c.loop-number.invariant c.loop-number-test.true
    (c.requires.known c.loop-number.number (0, 0) c.loop-number-test.true) c.index_mut.ensures.value c.in_ok-push.ensures.ok
