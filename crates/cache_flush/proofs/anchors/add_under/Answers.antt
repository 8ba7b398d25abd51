-- The column stays, with the position under it.
use Rattle.std.proofs.Common.{◌≡◌, ◌∙◌, ◌==◌, ◌&&◌, ◌<◌, ap, sym, Some, List, ℕ, get_or, length}
use Rattle.std.specs.List.{position}
use Rattle.std.proofs.lemmas.Bool.{and_from, eq-eqb, eqb-true}
use Rattle.std.proofs.lemmas.List.Quantifiers.{position-Some}
use Rattle.cache_flush.specs.Anchors.{ColumnOf, stands_under}
use Rattle.cache_flush.proofs.AnchorFacts.{set_passes, stays_under}
use Rattle.cache_flush.proofs.anchors.add_under.Goals as goal

-- the column at its place
column_at : (columns : List ColumnOf) (column place : ℕ) (own : ColumnOf) → own ≡ get_or columns place own → position (λ (own : ColumnOf). own.column == column) columns ≡ Some place → (place < length columns) × (own.column ≡ column)
column_at columns column place own here found =
    let held = position-Some (λ (own : ColumnOf). own.column == column) columns place own found in
    (held.0, ap (λ (o : ColumnOf). o.column) here ∙ eqb-true (get_or columns place own).column column held.1)

pub returns-in_err-add-clause-kept : goal.returns-in_err-add-clause-kept
returns-in_err-add-clause-kept c =
    let found = rw c.as_slice.ensures.value at (sym c.place_of.ensures ∙ c.in-Some.is) in
    let held = column_at c.args.columns.now.items c.args.column c.in-Some.place c.index_mut.result.now c.index_mut.ensures.value found in
    stays_under c.args.columns.now.items c.in-Some.place c.index_mut.result.now c.add.new.self held.0 c.index_mut.ensures.value c.add.ensures.column c.add.ensures.kept

pub returns-in-Some-clause-added : goal.returns-in-Some-clause-added
returns-in-Some-clause-added c =
    let found = rw c.as_slice.ensures.value at (sym c.place_of.ensures ∙ c.in-Some.is) in
    let held = column_at c.args.columns.now.items c.args.column c.in-Some.place c.index_mut.result.now c.index_mut.ensures.value found in
    set_passes (λ (own : ColumnOf). (own.column == c.args.column) && stands_under own c.args.value c.args.position) c.args.columns.now.items c.in-Some.place c.add.new.self held.0
    (and_from (c.add.new.self.column == c.args.column) (stands_under c.add.new.self c.args.value c.args.position) (eq-eqb c.add.new.self.column c.args.column (c.add.ensures.column ∙ held.1)) c.in_ok-add.ensures.added)

pub returns-in-Some-clause-kept : goal.returns-in-Some-clause-kept
returns-in-Some-clause-kept c =
    let found = rw c.as_slice.ensures.value at (sym c.place_of.ensures ∙ c.in-Some.is) in
    let held = column_at c.args.columns.now.items c.args.column c.in-Some.place c.index_mut.result.now c.index_mut.ensures.value found in
    stays_under c.args.columns.now.items c.in-Some.place c.index_mut.result.now c.add.new.self held.0 c.index_mut.ensures.value c.add.ensures.column c.add.ensures.kept
