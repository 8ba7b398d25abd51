-- That `walk_to` ensures what it says.
use Rattle.std.proofs.Common.{◌∙◌, bytes_eq, map, sym, take}
use Rattle.segment_body.specs.Groups.{Group, group}
use Rattle.segment_body.proofs.MapFacts.{first_position}
use Rattle.segment_body.proofs.Places.{missed}
use Rattle.segment_body.proofs.search.walk_to.Goals as goal

pub returns-then-are_values_of : goal.returns-then-are_values_of
returns-then-are_values_of c =
    sym (first_position (λ (g : Group). bytes_eq (map (λ pair. pair.1) c.args.at.now) g.values) c.args.groups.now c.loop-i.i (group c.at-group.result.0.now c.at-group.result.1.now)
    (rw c.len-i-end.ensures at c.loop-i-test.true) c.at-group.ensures
    (missed (λ (g : Group). bytes_eq (map (λ pair. pair.1) c.args.at.now) g.values) (take c.loop-i.i c.args.groups.now) c.loop-i.invariant)
    (sym c.are_values_of.ensures ∙ c.if-are_values_of.true))
