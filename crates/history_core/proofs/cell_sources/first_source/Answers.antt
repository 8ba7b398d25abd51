-- That `first_source` ensures what it says and may call what it calls.
use Rattle.std.proofs.Common.{◌≡◌, ◌∙◌, ℕ, [], ap, arith, drop, length, length-drop}
use Rattle.std.proofs.lemmas.List.{take_all}
use Rattle.history_core.specs.declared.kinds.Kind.{Kind}
use Rattle.history_core.specs.CellSources.{cell_of, kind_at}
use Rattle.history_core.proofs.PackFacts.{lent_at, lent_is_some}
use Rattle.history_core.proofs.cell_sources.first_source.Goals as goal

pub unwrap-kind-requires : goal.unwrap-kind-requires
unwrap-kind-requires c = lent_is_some c.args.kinds.now c.args.first.kind (record { cube = 0; measure = 0; columns = [] }) c.get.result c.get.ensures c.requires.known.0

pub unwrap-list-requires : goal.unwrap-list-requires
unwrap-list-requires c = lent_is_some c.args.lists.now c.args.first.loads [] c.get-2.result c.get-2.ensures c.requires.known.1

pub slice_bounds-rest-count : goal.slice_bounds-rest-count
slice_bounds-rest-count c =
    let kind : c.unwrap-kind.result.now ≡ kind_at c.args.kinds.now c.args.first.kind = lent_at c.args.kinds.now c.args.first.kind _ c.get.result c.unwrap-kind.result c.get.ensures c.unwrap-kind.ensures in
    rw (c.len.ensures, kind) c.requires.values

pub source_of-requires : goal.source_of-requires
source_of-requires c =
    let kind : c.unwrap-kind.result.now ≡ kind_at c.args.kinds.now c.args.first.kind = lent_at c.args.kinds.now c.args.first.kind _ c.get.result c.unwrap-kind.result c.get.ensures c.unwrap-kind.ensures in
    rw kind c.requires.values

pub returns-clause-source : goal.returns-clause-source
returns-clause-source c =
    let kind : c.unwrap-kind.result.now ≡ kind_at c.args.kinds.now c.args.first.kind = lent_at c.args.kinds.now c.args.first.kind _ c.get.result c.unwrap-kind.result c.get.ensures c.unwrap-kind.ensures in
    let list = lent_at c.args.lists.now c.args.first.loads [] c.get-2.result c.unwrap-list.result c.get-2.ensures c.unwrap-list.ensures in
    c.in_ok-source.ensures ∙ (λ j. record { cell = cell_of (kind j) c.args.values.now; loads = (c.as_slice.ensures ∙ list) j })

pub returns-clause-rest : goal.returns-clause-rest
returns-clause-rest c =
    let kind : c.unwrap-kind.result.now ≡ kind_at c.args.kinds.now c.args.first.kind = lent_at c.args.kinds.now c.args.first.kind _ c.get.result c.unwrap-kind.result c.get.ensures c.unwrap-kind.ensures in
    let whole = take_all _ (drop c.len.result c.args.values.now) (rw length-drop (omega arith)) in
    whole ∙ ap (λ (n : ℕ). drop n c.args.values.now) (c.len.ensures ∙ ap (λ (kind : Kind). length kind.columns) kind)
