-- That `add_above` ensures what it says.
use Rattle.std.proofs.Common.{◌∙◌, ap, sym, option_map, rules, arith}
use Rattle.std.proofs.lemmas.Grind.{common_steps}
use Rattle.std.specs.Map.Iter.{deref_pair}
use Rattle.segment_index.proofs.GroupFacts.{above_next}
use Rattle.segment_index.proofs.groups.add_above.Goals as goal

pub loop-i-preserved : goal.loop-i-preserved
loop-i-preserved c =
    let at = sym c.get_index.ensures.entry ∙ ap (option_map deref_pair) c.unwrap.ensures in
    let next = above_next c.args.groups.now.entries c.loop-i.i c.args.mask (c.unwrap.result.0.now, c.unwrap.result.1.now) (search rules) at in
    rw next (grind (arith, common_steps, c.in_ok-add_where_above.ensures, c.loop-i.invariant))
