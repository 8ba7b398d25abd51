-- That `add_tally` ensures what it says.
use Rattle.std.proofs.Common.{◌≡◌, ◌∙◌, ◌∷◌, ◌++◌, [], Ok, Err, false, inl, inr, length, sym, bytes_eq, List, Option, ℕ, ℤ}
use Rattle.std.specs.Prelude.{IfOk, OnOk, Result}
use Rattle.std.specs.List.{list_any}
use Rattle.olap_meaning.specs.declared.Aggregator.{Aggregator}
use Rattle.segment_body.specs.Groups.{Group, IsMerged, group, groups_by, values_of}
use Rattle.segment_body.proofs.GroupFacts.{found, unfound}
use Rattle.segment_body.proofs.MapFacts.{tally_at, groups_merged}
use Rattle.segment_body.proofs.group.GroupTable.add_tally.Goals as goal

at_the_end : {E : Type 0} (result : Result ℕ E) (aggregator : Aggregator) (values : List ℕ) (numbers : List (Option ℤ)) (old new : List Group) → list_any (bytes_eq values) (values_of old) ≡ false
    → IfOk result (λ place. place ≡ length old) → OnOk result (new ≡ old ++ group values (record { aggregator = aggregator; values = numbers }) ∷ []) → IfOk result (λ place. IsMerged aggregator values numbers old new place)
at_the_end (Ok place) aggregator values numbers old new none at is = inr (none, at, is)
at_the_end (Err e) aggregator values numbers old new none at is = tt

pub merge-requires-clause-one_aggregator : goal.merge-requires-clause-one_aggregator
merge-requires-clause-one_aggregator c =
    let d : Group = group c.args.values.now c.index_mut-group.result.now in
    let there = tally_at (λ key. key) c.self.inside.tallies.entries c.in-Some.place c.index_mut-group.result.now d c.index_mut-group.ensures.value in
    rw there.1 at ((rw (← c.self.view_is) at c.requires.alike) c.in-Some.place d there.0) ∙ sym c.requires.same

pub merge-requires-clause-no_distinct_count : goal.merge-requires-clause-no_distinct_count
merge-requires-clause-no_distinct_count c e =
    let d : Group = group c.args.values.now c.index_mut-group.result.now in
    let there = tally_at (λ key. key) c.self.inside.tallies.entries c.in-Some.place c.index_mut-group.result.now d c.index_mut-group.ensures.value in
    c.requires.adds_up (sym (rw there.1 at ((rw (← c.self.view_is) at c.requires.alike) c.in-Some.place d there.0)) ∙ e)

pub merge-requires-clause-room : goal.merge-requires-clause-room
merge-requires-clause-room c =
    let d : Group = group c.args.values.now c.index_mut-group.result.now in
    let there = tally_at (λ key. key) c.self.inside.tallies.entries c.in-Some.place c.index_mut-group.result.now d c.index_mut-group.ensures.value in
    rw there.1 at ((rw (← c.self.view_is) at c.requires.room) c.in-Some.place d there.0)

pub returns-in-Some-clause-ok : goal.returns-in-Some-clause-ok
returns-in-Some-clause-ok c =
    let d : Group = group c.args.values.now c.index_mut-group.result.now in
    let there = found c.args.values.now (groups_by (λ key. key) c.self.inside.tallies.entries) c.in-Some.place d (rw (← c.self.view_is) at (sym c.place_of.ensures ∙ c.in-Some.is)) in
    rw (← c.self.view_is)
    (inl (there.1, λ e. groups_merged (λ key. key) c.self.inside.tallies.entries c.in-Some.place c.index_mut-group.result.now c.merge.new.self e c.args.tally.now.values c.index_mut-group.ensures.value c.merge.ensures))

pub push_group-requires : goal.push_group-requires
push_group-requires c =
    unfound c.args.values.now c.args.self.now (sym c.place_of.ensures ∙ c.in-None.is)

pub returns-in-None-clause-ok : goal.returns-in-None-clause-ok
returns-in-None-clause-ok c =
    let none = unfound c.args.values.now c.args.self.now (sym c.place_of.ensures ∙ c.in-None.is) in
    let first = rw c.new-first.ensures at c.merge-in-None.ensures in
    at_the_end c.push_group.result c.args.aggregator c.args.values.now c.args.tally.now.values c.args.self.now c.push_group.new.self none c.push_group.ensures.place (rw first at c.push_group.ensures.ok)
