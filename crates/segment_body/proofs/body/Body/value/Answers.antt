-- That `value` ensures what it says.
use Rattle.std.proofs.Common.{◌∙◌, ℤ, List, Option, sym, ap, map}
use Rattle.olap_meaning.specs.Values.{aggregate}
use Rattle.segment_body.specs.Groups.{Group, group, placed_in, rows_of}
use Rattle.segment_body.proofs.CellFacts.{numbers_in_cell}
use Rattle.segment_body.proofs.GroupFacts.{group_found, numbers_missed}
use Rattle.segment_body.proofs.body.Body.value.Goals as goal

pub returns-in-None-clause-value : goal.returns-in-None-clause-value
returns-in-None-clause-value c =
    let covered = rw (← c.self.view_is) at c.requires.covered in
    let none = rw c.as_slice.ensures at (sym c.place_in.ensures ∙ c.in-None.is) in
    let inside = numbers_in_cell c.self.inside.header c.args.cell.now (rows_of c.self.inside.groups (placed_in c.self.inside.parts.items)) c.self.invariant.header_holds covered c.requires.rising c.self.invariant.allowed in
    let missed = numbers_missed c.self.inside.header c.self.inside.aggregator c.self.inside.groups (placed_in c.self.inside.parts.items) c.self.invariant (map (λ pair. pair.1) c.args.cell.now.at) none in
    rw (← c.self.view_is) (sym (ap (λ (numbers : List (Option ℤ)). aggregate c.self.inside.aggregator numbers) (inside ∙ missed)))

pub returns-in-Some-clause-value : goal.returns-in-Some-clause-value
returns-in-Some-clause-value c =
    let covered = rw (← c.self.view_is) at c.requires.covered in
    let some = rw c.as_slice.ensures at (sym c.place_in.ensures ∙ c.in-Some.is) in
    let d : Group = group c.at.result.0.now c.at.result.1.now in
    let inside = numbers_in_cell c.self.inside.header c.args.cell.now (rows_of c.self.inside.groups (placed_in c.self.inside.parts.items)) c.self.invariant.header_holds covered c.requires.rising c.self.invariant.allowed in
    let here = c.at.ensures ∙ group_found c.self.inside.header c.self.inside.aggregator c.self.inside.groups (placed_in c.self.inside.parts.items) c.self.invariant (map (λ pair. pair.1) c.args.cell.now.at) c.in-Some.place d some in
    rw (← c.self.view_is)
    (c.finish.ensures.value
    ∙ ap (λ (g : Group). aggregate g.tally.aggregator g.tally.values) here
    ∙ sym (ap (λ (numbers : List (Option ℤ)). aggregate c.self.inside.aggregator numbers) inside))
