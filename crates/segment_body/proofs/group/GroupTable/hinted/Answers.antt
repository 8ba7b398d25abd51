-- That `hinted` ensures what it says.
use Rattle.std.proofs.Common.{◌≡◌, ◌∙◌, Some, bytes_eq, sym, subst, List, ℕ}
use Rattle.std.specs.Prelude.{position}
use Rattle.std.specs.Cmp.Lexicographic.{bytes_decides}
use Rattle.segment_body.specs.Groups.{Group, groups_by}
use Rattle.segment_body.proofs.HintFacts.{own_position}
use Rattle.segment_body.proofs.group.GroupTable.hinted.Goals as goal

pub returns-then-are_equal : goal.returns-then-are_equal
returns-then-are_equal c =
    let same : c.in_ok-key.key.now ≡ c.args.values.now = sym c.as_slice.ensures ∙ (bytes_decides c.as_slice.result.now c.args.values.now).0 (sym c.are_equal.ensures ∙ c.if-are_equal.true) in
    let at = own_position c.self.inside.tallies.entries c.in_ok-place.place c.in_ok-key.key.now c.in_ok-key.field-0-1.now c.len-groups.ensures.unique (sym c.in_ok-key.ensures.entry) in
    rw (← c.self.view_is) (subst (λ (values : List ℕ). position (λ (group : Group). bytes_eq values group.values) (groups_by (λ key. key) c.self.inside.tallies.entries) ≡ Some c.in_ok-place.place) same at)
