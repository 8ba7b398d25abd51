-- A table of its declaration gives way to it, or it is inserted at its place.
use Rattle.std.proofs.Common.{◌≡◌, ◌∙◌, ap, map, not, refl, sym, true}
use Rattle.std.specs.Prelude.{is_ok}
use Rattle.std.specs.Arc.{arc_value}
use Rattle.std.specs.List.{insert}
use Rattle.installed_tables.proofs.PutFacts.{put_insert, put_set}
use Rattle.installed_tables.proofs.installed.Installed.install.Goals as goal

pub returns-then-is_at-clause-installed : goal.returns-then-is_at-clause-installed
returns-then-is_at-clause-installed c =
    let place = rw (c.as_slice.ensures.value, c.table.ensures) at c.place_for-place.ensures.value in
    let test = rw (c.as_slice-2.ensures.value, c.table-2.ensures, c.deref.ensures, c.in_ok-shared.ensures.ok) at c.is_at.ensures in
    put_set arc_value c.self.inside.tables.items c.in_ok-shared.shared c.place_for-place.result c.args.self.now c.args.table c.self.view_is c.in_ok-shared.ensures.ok place (sym test ∙ c.if-is_at.true)

pub returns-clause-installed : goal.returns-clause-installed
returns-clause-installed c =
    let place = rw (c.as_slice.ensures.value, c.table.ensures) at c.place_for-place.ensures.value in
    let test = rw (c.as_slice-2.ensures.value, c.table-2.ensures, c.deref.ensures, c.in_ok-shared.ensures.ok) at c.is_at.ensures in
    let inserted : is_ok c.insert.result ≡ true = c.is_err.ensures.negation ∙ ap not c.if-is_err.false in
    let items : c.insert.new.self.items ≡ insert c.self.inside.tables.items c.place_for-place.result c.in_ok-shared.shared = c.insert.ensures.items ∙ rw inserted refl in
    ap (map arc_value) items
    ∙ put_insert arc_value c.self.inside.tables.items c.in_ok-shared.shared c.place_for-place.result c.args.self.now c.args.table c.self.view_is c.in_ok-shared.ensures.ok place (sym test ∙ c.if-is_at.false)
