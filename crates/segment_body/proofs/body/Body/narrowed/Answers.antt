-- That `narrowed` may call `add_groups`, and ensures what it says.
use Rattle.std.proofs.Common.{List, ℕ, ℤ, Option, flat_map, ap, refl, sym, subst, arith}
use Rattle.std.specs.List.Sorted.{IsPermutation}
use Rattle.std.specs.Prelude.{filter_map}
use Rattle.segment_body.specs.BodyOf.{BodyOf}
use Rattle.segment_body.specs.Groups.{Group, placed_in, rows_of}
use Rattle.segment_body.specs.Narrowed.{narrowed_group, narrowed_row}
use Rattle.segment_body.proofs.FoldFacts.{held_alike, held_room}
use Rattle.segment_body.proofs.NarrowFacts.{groups_narrowed}
use Rattle.segment_body.proofs.body.Body.narrowed.Goals as goal

pub add_groups-requires-clause-alike : goal.add_groups-requires-clause-alike
add_groups-requires-clause-alike g c =
    rw c.in_ok-body.ensures (held_alike c.self.inside.header c.self.inside.aggregator c.self.inside.groups (placed_in c.self.inside.parts.items) c.self.invariant c.self.inside.groups refl)

pub add_groups-requires-clause-room : goal.add_groups-requires-clause-room
add_groups-requires-clause-room g c =
    let room = held_room c.self.inside.header c.self.inside.aggregator c.self.inside.groups (placed_in c.self.inside.parts.items) c.self.invariant c.self.inside.groups refl in
    rw c.in_ok-body.ensures (omega (arith, room))

pub returns-clause-body : goal.returns-clause-body
returns-clause-body g c =
    let is = rw c.in_ok-body.ensures at c.in_ok-add_groups.ensures.ok in
    let rows = ap (λ (b : BodyOf). b.rows) is in
    let all : List (List ℕ × Option ℤ) = rows_of c.self.inside.groups (placed_in c.self.inside.parts.items) in
    let held = subst (λ (gs : List Group). IsPermutation (filter_map (narrowed_row c.self.inside.header c.args.header) all) (flat_map (narrowed_group c.self.inside.header c.args.header) gs)) (sym c.self.invariant.grouped) (groups_narrowed c.self.inside.header c.args.header c.self.inside.aggregator all) in
    rw (← c.self.view_is)
    (record {
      own_header = ap (λ (b : BodyOf). b.header) is;
      own_aggregator = ap (λ (b : BodyOf). b.aggregator) is;
      own_rows = rw rows held;
    })
