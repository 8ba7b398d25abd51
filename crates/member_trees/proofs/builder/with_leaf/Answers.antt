-- That the levels have the leaf.
use Rattle.std.proofs.Common.{◌≡◌, ◌∙◌, ap, length, get_or, arith}
use Rattle.std.proofs.lemmas.List.{get_or_read}
use Rattle.indexmap.specs.IndexSet.{insert_key}
use Rattle.std.specs.List.{position_or_len}
use Rattle.member_trees.specs.Numbered.{pair_eq}
use Rattle.member_trees.proofs.PushFacts.{come_none, come_more, come_few, come_all}
use Rattle.member_trees.proofs.builder.with_leaf.Goals as goal

pub loop-depth-init : goal.loop-depth-init
loop-depth-init c = come_none c.args.of.now.items c.args.path.now c.args.levels.items c.requires.numbered

pub number-requires : goal.number-requires
number-requires c =
    let few = come_few c.args.of.now.items c.args.path.now (length c.args.levels.items) c.loop-depth.depth c.loop-depth.parent c.loop-depth.levels.items c.index_mut.result.now (omega arith) c.loop-depth.invariant c.index_mut.ensures.value in
    omega (arith, few)

pub loop-depth-preserved : goal.loop-depth-preserved
loop-depth-preserved c =
    let path = c.args.path.now in
    let depth = c.loop-depth.depth in
    let parent = c.loop-depth.parent in
    let old = c.index_mut.result.now in
    let value : c.index-path-depth.result ≡ get_or path depth 0 = get_or_read path depth c.index-path-depth.result c.loop-depth-test.true c.index-path-depth.is 0 in
    come_more c.args.of.now.items path (length c.args.levels.items) depth parent c.in_ok-parent.parent c.loop-depth.levels.items old c.number.new.self c.requires.numbered.whole c.requires.whole (omega arith) c.loop-depth.invariant c.index_mut.ensures.value
    (c.in_ok-parent.ensures.members ∙ ap (λ v. insert_key pair_eq old (parent, v)) value)
    (c.in_ok-parent.ensures.number ∙ ap (λ v. position_or_len (pair_eq (parent, v)) old) value)

pub returns : goal.returns
returns c = record {
  levels = c.loop-depth.invariant.long;
  numbered = come_all c.args.of.now.items c.args.path.now c.args.levels.items c.loop-depth.levels.items c.loop-depth.depth c.loop-depth.parent c.requires.numbered c.requires.whole c.requires.room c.loop-depth-test.false c.loop-depth.invariant;
}
