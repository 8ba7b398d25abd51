-- That `side_by_side` ensures what it says and may call `join_parts`.
use Rattle.std.proofs.Common.{◌≡◌, ◌≤◌, ◌+◌, ◌∷◌, ◌∙◌, None, sym}
use Rattle.std.specs.List.{AllZip, sum_by}
use Rattle.csv_records.specs.Files.{file_records}
use Rattle.olap_meaning.specs.FileQuery.{header_fault}
use Rattle.olap_server.specs.Parted.{IsPart, PartSum}
use Rattle.olap_server.proofs.PartFacts.{whole_answer, one_aggregator}
use Rattle.olap_server.proofs.cell.side_by_side.Goals as goal

pub join_parts-requires-clause-one_aggregator : goal.join_parts-requires-clause-one_aggregator
join_parts-requires-clause-one_aggregator g c =
    let query = c.args.query in
    let header = c.next.new.row in
    let first : IsPart query header c.next.new.self c.in-Ok-fold_rows.start = rw c.in-Ok.ensures.bound at c.in-Ok-fold_rows.ensures.part in
    let rest : AllZip (λ b p. IsPart query header (file_records b.now) p) c.args.more.now c.in_ok-folded.folded.items = rw c.in-Ok.ensures.bound at c.in_ok-folded.ensures in
    λ k d low. rw first.summed (one_aggregator query header c.args.more.now c.as_slice.result.now (rw c.as_slice.ensures.value rest) k d low)

pub returns : goal.returns
returns g c =
    let query = c.args.query in
    let header = c.next.new.row in
    let taken : file_records c.args.first.now ≡ header ∷ c.next.new.self = sym c.new-rows.ensures ∙ c.in-Ok-true.ensures.taken c.in-Ok-true.field-0-test in
    let headed : header_fault query header ≡ None = c.in-Ok.ensures.sound in
    let first : IsPart query header c.next.new.self c.in-Ok-fold_rows.start = rw c.in-Ok.ensures.bound at c.in-Ok-fold_rows.ensures.part in
    let rest : AllZip (λ b p. IsPart query header (file_records b.now) p) c.args.more.now c.in_ok-folded.folded.items = rw c.in-Ok.ensures.bound at c.in_ok-folded.ensures in
    let whole = c.in_ok-whole.ensures in
    let parts : AllZip (λ b p. IsPart query header (file_records b.now) p) c.args.more.now c.as_slice.result.now = rw c.as_slice.ensures.value rest in
    let small : c.in-Ok-fold_rows.start.count + sum_by (λ (p : PartSum). p.count) c.as_slice.result.now ≤ 8000000 = rw whole at c.finish.ensures.small in
    rw (taken, c.finish.ensures.value, whole) (whole_answer query header c.next.new.self c.args.more.now c.in-Ok-fold_rows.start c.as_slice.result.now headed first parts small)
