-- That `candidates` are those of all loads, and rise.
use Rattle.std.proofs.Common.{nat_eq}
use Rattle.std.proofs.lemmas.List.Filters.{dedup_is}
use Rattle.std.proofs.lemmas.Map.Keys.{IsStrictlyIncreasing-dedup}
use Rattle.olap_meaning.proofs.Orders.{rise_from}
use Rattle.segment_index.proofs.CandidateFacts.{candidates_found}
use Rattle.segment_index.proofs.index.SegmentIndexCacheShelf.candidates.Goals as goal

pub returns-clause-rising : goal.returns-clause-rising
returns-clause-rising c =
    let left = dedup_is nat_eq c.sort_unstable.new.self.items c.dedup.new.self.items c.dedup.ensures.filtered in
    rw (c.from_vec.ensures, left) (rise_from _ (IsStrictlyIncreasing-dedup c.sort_unstable.new.self.items c.sort_unstable.ensures.sorted))

pub returns-clause-members : goal.returns-clause-members
returns-clause-members c n =
    let left = dedup_is nat_eq c.sort_unstable.new.self.items c.dedup.new.self.items c.dedup.ensures.filtered in
    let found = rw c.as_slice.ensures.value at c.in_ok-found.ensures in
    let each = rw (← c.self.view_is) at c.in_ok-searched.ensures in
    rw (← c.self.view_is, c.from_vec.ensures)
    (candidates_found c.self.inside.loads.loads c.args.cell.now c.in_ok-searched.searched.items c.numbers_differ.ensures each
    c.in_ok-found.found.items c.sort_unstable.new.self.items c.dedup.new.self.items found c.sort_unstable.ensures.permutation left n)
