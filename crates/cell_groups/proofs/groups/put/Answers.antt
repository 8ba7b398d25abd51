-- A cell is put into the group at its place.
use Rattle.std.proofs.Common.{◌∙◌, ap, refl, rules}
use Rattle.olap_meaning.specs.declared.cells.Cell.{Cell}
use Rattle.cell_groups.specs.Lent.{lent}
use Rattle.cell_groups.proofs.GroupFacts.{put_new, put_there, seen_more}
use Rattle.cell_groups.proofs.groups.put.Goals as goal

pub returns-then-place-len : goal.returns-then-place-len
returns-then-place-len c =
    put_there c.args.groups.now.items c.args.place c.args.cell.now c.index_mut.result.now _ (search rules) c.index_mut.ensures.value
    (ap (λ cells. (c.index_mut.result.now.first.now, cells)) (seen_more c.index_mut.result.now c.args.cell.now c.push.new.self.items c.args.cell (search rules) refl))

pub returns : goal.returns
returns c =
    rw (c.in_ok-push-2.ensures.items) (put_new c.args.groups.now.items c.args.place c.args.cell.now c.in_ok-group_of.field-0 (search rules)
    (ap (λ (first : Cell). (first, lent c.in_ok-group_of.field-0.cells.items)) c.in_ok-group_of.ensures.first ∙ ap (λ cells. (c.args.cell.now, cells)) c.in_ok-group_of.ensures.cells))
