-- That `add_at` ensures what it says.
use Rattle.std.proofs.Common.{◌≡◌, ◌∙◌, [], None, Ok, Err, ap, false, true, inl, inr}
use Rattle.std.specs.Prelude.{◌≢◌, ◌⊎◌, OnErr}
use Rattle.indexmap.specs.IndexMap.{set_value_at}
use Rattle.olap_meaning.specs.declared.Aggregator.TheVariants.{DistinctCount}
use Rattle.measure_folds.specs.Tallied.{Tallied}
use Rattle.segment_body.specs.Groups.{Group, group, groups_by}
use Rattle.segment_body.proofs.MapFacts.{tally_at, groups_set, groups_kept}
use Rattle.segment_body.proofs.group.GroupTable.add_at.Goals as goal

pub step-requires : goal.step-requires
step-requires c =
    let d : Group = group [] c.index_mut-tally.result.now in
    let there = tally_at (λ key. key) c.self.inside.tallies.entries c.args.place c.index_mut-tally.result.now d c.index_mut-tally.ensures.value in
    let fits = (rw (← c.self.view_is) at c.requires.room) c.args.place d there.0 in
    rw there.1 at fits

pub returns-in_err-step-clause-err : goal.returns-in_err-step-clause-err
returns-in_err-step-clause-err c =
    let kept = groups_kept (λ key. key) c.self.inside.tallies.entries c.args.place c.index_mut-tally.result.now c.step.new.self c.index_mut-tally.ensures.value c.in_err-step.ensures.err in
    rw (← c.self.view_is)
    (elim c.from_residual.result as (λ r. OnErr r (groups_by (λ key. key) (set_value_at c.self.inside.tallies.entries c.args.place c.step.new.self) ≡ groups_by (λ key. key) c.self.inside.tallies.entries)) [ Ok x ↦ tt | Err e ↦ kept ])

pub returns-clause-ok : goal.returns-clause-ok
returns-clause-ok c e =
    rw (← c.self.view_is)
    (groups_set (λ key. key) c.self.inside.tallies.entries c.args.place c.index_mut-tally.result.now c.step.new.self e c.args.number c.index_mut-tally.ensures.value c.in_ok-step.ensures.ok)

pub returns-in_err-step-clause-no_memory : goal.returns-in_err-step-clause-no_memory
returns-in_err-step-clause-no_memory c cause =
    let d : Group = group [] c.index_mut-tally.result.now in
    let there = tally_at (λ key. key) c.self.inside.tallies.entries c.args.place c.index_mut-tally.result.now d c.index_mut-tally.ensures.value in
    let own : (c.index_mut-tally.result.now.aggregator ≢ DistinctCount) ⊎ (c.args.number ≡ None) =
    elim cause [
      | inl all ↦ inl (λ e. (rw (← c.self.view_is) at all) c.args.place d there.0 (ap (λ (t : Tallied). t.aggregator) there.1 ∙ e))
      | inr none ↦ inr none
    ] in
    let never : false ≡ true = c.in_err-step.ensures.no_memory own in
    absurd (cc)
