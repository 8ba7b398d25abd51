-- That `add_at` ensures what it says.
use Rattle.std.proofs.Common.{◌≡◌, ◌∙◌, ◌∷◌, [], ◌++◌, ℤ, List, None, Option, All, ap, false, true, inl, inr, refl, sym}
use Rattle.std.specs.Prelude.{◌≢◌, ◌⊎◌}
use Rattle.olap_meaning.specs.declared.TheConstants.{ROW_LIMIT}
use Rattle.olap_meaning.specs.declared.Aggregator.TheVariants.{DistinctCount}
use Rattle.segment_body.specs.BodyOf.{BodyOf}
use Rattle.segment_body.specs.Groups.{Group, placed_in, rows_of}
use Rattle.segment_body.proofs.FoldFacts.{held_alike}
use Rattle.segment_body.proofs.GroupFacts.{added_at, groups_fit, place_inside}
use Rattle.segment_body.proofs.MergeFacts.{placed_block}
use Rattle.segment_body.proofs.body.Body.add_at.Goals as goal

pub add_at-requires-clause-inside : goal.add_at-requires-clause-inside
add_at-requires-clause-inside c =
    place_inside c.self.inside.header c.self.inside.aggregator c.self.inside.groups (placed_in c.self.inside.parts.items) c.self.invariant c.args.place (rw (← c.self.view_is) at c.requires.inside)

pub add_at-requires-clause-room : goal.add_at-requires-clause-room
add_at-requires-clause-room c =
    groups_fit c.self.inside.aggregator (rows_of c.self.inside.groups (placed_in c.self.inside.parts.items)) c.self.inside.groups ROW_LIMIT c.self.invariant.grouped (rw (← c.self.view_is) at c.requires.room)

pub invariant_of-self-2 : goal.invariant_of-self-2
invariant_of-self-2 c =
    let inside = rw (← c.self.view_is) at c.requires.inside in
    let room = rw (← c.self.view_is) at c.requires.room in
    let more = added_at c.self.inside.header c.self.inside.aggregator c.self.inside.groups (placed_in c.self.inside.parts.items) c.self.invariant c.args.place inside c.args.value c.add_at.new.self c.in_ok-add_at.ensures.ok room in
    let blocks = placed_block c.self.inside.parts.items c.and-self-inside.result.items _ c.and-self-inside.ensures (c.args.value ∷ []) (c.and-numbers.ensures ∙ ap (λ (ns : List (Option ℤ)). ns ++ c.args.value ∷ []) c.new.ensures) in
    rw (blocks, more.rows_are) more.held

pub returns-clause-ok : goal.returns-clause-ok
returns-clause-ok c =
    let inside = rw (← c.self.view_is) at c.requires.inside in
    let room = rw (← c.self.view_is) at c.requires.room in
    let more = added_at c.self.inside.header c.self.inside.aggregator c.self.inside.groups (placed_in c.self.inside.parts.items) c.self.invariant c.args.place inside c.args.value c.add_at.new.self c.in_ok-add_at.ensures.ok room in
    let blocks = placed_block c.self.inside.parts.items c.and-self-inside.result.items _ c.and-self-inside.ensures (c.args.value ∷ []) (c.and-numbers.ensures ∙ ap (λ (ns : List (Option ℤ)). ns ++ c.args.value ∷ []) c.new.ensures) in
    rw (← c.self.view_is, blocks, more.rows_are) refl

pub returns-in_err-add_at-clause-no_memory : goal.returns-in_err-add_at-clause-no_memory
returns-in_err-add_at-clause-no_memory c cause =
    let alike = held_alike c.self.inside.header c.self.inside.aggregator c.self.inside.groups (placed_in c.self.inside.parts.items) c.self.invariant c.self.inside.groups refl in
    let kind = ap (λ (b : BodyOf). b.aggregator) c.self.view_is in
    let own : All (λ (group : Group). group.tally.aggregator ≢ DistinctCount) c.self.inside.groups ⊎ (c.args.value ≡ None) =
    elim cause [
      | inl adds ↦ inl (λ k d within e. adds (sym kind ∙ sym (alike k d within) ∙ e))
      | inr none ↦ inr none
    ] in
    let never : false ≡ true = c.in_err-add_at.ensures.no_memory own in
    absurd (cc)
