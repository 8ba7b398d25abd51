-- That `fold_within` ensures what it says.
use Rattle.std.proofs.Common.{refl, sym, ap}
use Rattle.measure_folds.specs.Tallied.{Tallied}
use Rattle.list_orders.proofs.Aggregates.{aggregate_permutes}
use Rattle.segment_body.specs.Folds.{are_at_allowed}
use Rattle.segment_body.specs.Groups.{placed_in}
use Rattle.segment_body.proofs.FoldFacts.{held_alike, held_room, held_picked}
use Rattle.segment_body.proofs.body.Body.fold_within.Goals as goal

pub fold_allowed-requires-clause-alike : goal.fold_allowed-requires-clause-alike
fold_allowed-requires-clause-alike c = held_alike c.self.inside.header c.self.inside.aggregator c.self.inside.groups (placed_in c.self.inside.parts.items) c.self.invariant c.self.inside.groups refl

pub fold_allowed-requires-clause-room : goal.fold_allowed-requires-clause-room
fold_allowed-requires-clause-room c = held_room c.self.inside.header c.self.inside.aggregator c.self.inside.groups (placed_in c.self.inside.parts.items) c.self.invariant c.self.inside.groups refl

pub returns-clause-rows : goal.returns-clause-rows
returns-clause-rows c =
    let values = ap (λ (t : Tallied). t.values) (rw (c.as_slice.ensures, c.as_slice-2.ensures) at c.fold_allowed.ensures) in
    rw (← c.self.view_is, values) (held_picked c.self.inside.header c.self.inside.aggregator c.self.inside.groups (placed_in c.self.inside.parts.items) c.self.invariant c.self.inside.groups refl (are_at_allowed c.self.inside.header.columns c.args.cell.now.at c.args.column c.args.own.now))

pub returns-clause-worth : goal.returns-clause-worth
returns-clause-worth c =
    let values = ap (λ (t : Tallied). t.values) (rw (c.as_slice.ensures, c.as_slice-2.ensures) at c.fold_allowed.ensures) in
    let aggregator = ap (λ (t : Tallied). t.aggregator) c.fold_allowed.ensures in
    rw (← c.self.view_is, values, aggregator)
    (sym (aggregate_permutes c.self.inside.aggregator _ _ (held_picked c.self.inside.header c.self.inside.aggregator c.self.inside.groups (placed_in c.self.inside.parts.items) c.self.invariant c.self.inside.groups refl (are_at_allowed c.self.inside.header.columns c.args.cell.now.at c.args.column c.args.own.now))))
