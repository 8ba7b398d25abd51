-- That levels with no member are those of no leaf.
use Rattle.member_trees.proofs.PushFacts.{numbered_none}
use Rattle.member_trees.proofs.builder.TreeBuilder.new.Goals as goal

pub invariant_of-result : goal.invariant_of-result
invariant_of-result c =
    numbered_none c.args.levels c.new.result.items c.in_ok-empty_levels.field-0.items c.requires c.new.ensures c.in_ok-empty_levels.ensures
