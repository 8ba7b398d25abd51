-- What holds at each turn of `add_groups`.
use Rattle.std.proofs.Common.{◌≡◌, ◌+◌, ◌++◌, flat_map, take}
use Rattle.segment_body.specs.Narrowed.{narrowed_group}
use Rattle.segment_body.proofs.body.Body.add_groups.Given as goal

-- the rows of the groups so far are added, and the groups counted
abbrev pub invariant-loop-i : goal.invariant-loop-i
invariant-loop-i g l = record {
  added : l.self ≡ record l.fn.self { rows = l.fn.self.rows ++ flat_map (narrowed_group l.fn.wide l.fn.self.header) (take l.i l.fn.groups) };
  counted : l.steps ≡ l.initial.steps + l.i;
}
