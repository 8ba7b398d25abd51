-- That `add_placed` ensures what it says.
use Rattle.std.proofs.Common.{◌∙◌, ◌∷◌, [], ◌++◌, ℤ, List, Option, ap, refl}
use Rattle.olap_meaning.specs.declared.TheConstants.{ROW_LIMIT}
use Rattle.segment_body.specs.Groups.{placed_in, rows_of}
use Rattle.segment_body.proofs.GroupFacts.{added, groups_fit, placed_at}
use Rattle.segment_body.proofs.MergeFacts.{placed_block}
use Rattle.segment_body.proofs.body.Body.add_placed.Goals as goal

pub add_row-requires : goal.add_row-requires
add_row-requires c =
    groups_fit c.self.inside.aggregator (rows_of c.self.inside.groups (placed_in c.self.inside.parts.items)) c.self.inside.groups ROW_LIMIT c.self.invariant.grouped (rw (← c.self.view_is) at c.requires.room)

pub invariant_of-self-2 : goal.invariant_of-self-2
invariant_of-self-2 c =
    let allowed = rw (← c.self.view_is) at c.requires.allowed in
    let room = rw (← c.self.view_is) at c.requires.room in
    let more = added c.self.inside.header c.self.inside.aggregator c.self.inside.groups (placed_in c.self.inside.parts.items) c.self.invariant c.args.values.now c.args.value c.add_row.new.self c.in_ok-place.place c.in_ok-place.ensures.ok allowed room in
    let blocks = placed_block c.self.inside.parts.items c.and-self-inside.result.items _ c.and-self-inside.ensures (c.args.value ∷ []) (c.and-numbers.ensures ∙ ap (λ (ns : List (Option ℤ)). ns ++ c.args.value ∷ []) c.new.ensures) in
    rw (blocks, more.rows_are) more.held

pub returns-clause-ok : goal.returns-clause-ok
returns-clause-ok c =
    let allowed = rw (← c.self.view_is) at c.requires.allowed in
    let room = rw (← c.self.view_is) at c.requires.room in
    let more = added c.self.inside.header c.self.inside.aggregator c.self.inside.groups (placed_in c.self.inside.parts.items) c.self.invariant c.args.values.now c.args.value c.add_row.new.self c.in_ok-place.place c.in_ok-place.ensures.ok allowed room in
    let blocks = placed_block c.self.inside.parts.items c.and-self-inside.result.items _ c.and-self-inside.ensures (c.args.value ∷ []) (c.and-numbers.ensures ∙ ap (λ (ns : List (Option ℤ)). ns ++ c.args.value ∷ []) c.new.ensures) in
    rw (← c.self.view_is, blocks, more.rows_are) refl

pub returns-clause-place : goal.returns-clause-place
returns-clause-place c =
    let allowed = rw (← c.self.view_is) at c.requires.allowed in
    let room = rw (← c.self.view_is) at c.requires.room in
    let more = added c.self.inside.header c.self.inside.aggregator c.self.inside.groups (placed_in c.self.inside.parts.items) c.self.invariant c.args.values.now c.args.value c.add_row.new.self c.in_ok-place.place c.in_ok-place.ensures.ok allowed room in
    let blocks = placed_block c.self.inside.parts.items c.and-self-inside.result.items _ c.and-self-inside.ensures (c.args.value ∷ []) (c.and-numbers.ensures ∙ ap (λ (ns : List (Option ℤ)). ns ++ c.args.value ∷ []) c.new.ensures) in
    rw (blocks, more.rows_are)
    (placed_at c.self.inside.header c.self.inside.aggregator c.self.inside.groups (placed_in c.self.inside.parts.items) c.self.invariant c.args.values.now c.args.value c.add_row.new.self c.in_ok-place.place c.in_ok-place.ensures.ok)
