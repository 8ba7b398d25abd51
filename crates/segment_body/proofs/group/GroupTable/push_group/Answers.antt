-- That `push_group` ensures what it says.
use Rattle.std.proofs.Common.{◌∙◌, ap, length, refl, bytes_eq, List, ℕ}
use Rattle.segment_body.proofs.MapFacts.{entries_counted, groups_new}
use Rattle.segment_body.proofs.group.GroupTable.push_group.Goals as goal

pub returns-clause-place : goal.returns-clause-place
returns-clause-place c = c.len-place.ensures.len ∙ entries_counted (λ key. key) c.self.inside.tallies.entries ∙ ap length c.self.view_is

pub returns-clause-ok : goal.returns-clause-ok
returns-clause-ok c =
    let none = rw (← c.self.view_is) at c.requires in
    let new = groups_new (λ key. key) bytes_eq c.in_ok-key.key c.args.tally c.args.values.now (λ j. ap (λ (v : List ℕ). bytes_eq v j) c.in_ok-key.ensures) c.self.inside.tallies.entries none in
    rw (← c.self.view_is) (c.note.ensures ∙ rw (c.in_ok-insert.ensures.entries, new, c.in_ok-key.ensures) refl)
