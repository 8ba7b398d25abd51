-- That `read_dimension` ensures `err` and `ok`.
use Rattle.std.proofs.Common.{◌∙◌, inr, sym, Ok}
use Rattle.dim_tables.proofs.TableFacts.{table_is, no_member, some_member}
use Rattle.dim_tables.proofs.reader.read_dimension.Goals as goal

pub returns-then-lacks_member-clause-err : goal.returns-then-lacks_member-clause-err
returns-then-lacks_member-clause-err c =
    let d = c.args.dimension.now in
    let file = sym c.new-rows.ensures ∙ c.in_ok-next.ensures.taken c.if-not-branch.false in
    let sound = c.in_ok-bound.ensures.sound in
    let read = rw c.in_ok-bound.ensures.bound at c.in_ok-table.ensures.ok in
    let lacks = sym c.lacks_member.ensures ∙ c.if-lacks_member.true in
    inr (table_is d c.args.bytes.now c.next.new.row c.next.new.self (Ok c.in_ok-table.table.records) file sound read ∙ no_member d c.in_ok-table.table.records lacks)

pub returns-clause-ok : goal.returns-clause-ok
returns-clause-ok c =
    let d = c.args.dimension.now in
    let file = sym c.new-rows.ensures ∙ c.in_ok-next.ensures.taken c.if-not-branch.false in
    let sound = c.in_ok-bound.ensures.sound in
    let read = rw c.in_ok-bound.ensures.bound at c.in_ok-table.ensures.ok in
    let has = sym c.lacks_member.ensures ∙ c.if-lacks_member.false in
    table_is d c.args.bytes.now c.next.new.row c.next.new.self (Ok c.in_ok-table.table.records) file sound read ∙ some_member d c.in_ok-table.table.records has
