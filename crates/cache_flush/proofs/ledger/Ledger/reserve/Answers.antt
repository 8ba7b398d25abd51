-- The record of the region has room, and all records tell what they told.
use Rattle.std.proofs.Common.{◌≡◌, ◌∙◌, ◌<◌, ap, sym, Some, length, option_map, slice_get, get_or, ℕ, List}
use Rattle.olap_meaning.specs.declared.regions.Region.{Region}
use Rattle.cache_flush.specs.Records.{RecordOf, region_at}
use Rattle.cache_flush.proofs.AnchorFacts.{listed_set}
use Rattle.cache_flush.proofs.Recording.{at_region, kept_set, kept_trans, read_at, set_at}
use Rattle.cache_flush.proofs.ledger.Ledger.reserve.Goals as goal

-- the record of the region at its place, which is what is read there
place_read : (records : List RecordOf) (place : ℕ) (region : Region) (read : RecordOf) → region_at records place ≡ Some region → read ≡ get_or records place read → (place < length records) × (slice_get records place ≡ Some read) × (read.region ≡ region)
place_read records place region read at is =
    let (item, there, own) = at_region records place region at in
    let (inside, same) = read_at records place item read there is in
    (inside, there ∙ ap Some same, ap (λ (r : RecordOf). r.region) (sym same) ∙ own)

pub returns-in_err-reserve-2-clause-records : goal.returns-in_err-reserve-2-clause-records
returns-in_err-reserve-2-clause-records c =
    let records = c.self.inside.records.items in
    let read = place_read records c.in_ok-place.place c.args.region.now.value c.index_mut.result.now (rw (← c.self.view_is) at c.in_ok-place.ensures.place) c.index_mut.ensures.value in
    kept_trans c.args.self.now.records records _ (rw (← c.self.view_is) at c.place_for.ensures.records)
    (kept_set records c.in_ok-place.place c.index_mut.result.now c.reserve-2.new.self read.0 (sym c.index_mut.ensures.value) c.reserve-2.ensures.region c.reserve-2.ensures.flushes)

pub invariant_of-self-2 : goal.invariant_of-self-2
invariant_of-self-2 c =
    let records = c.self.inside.records.items in
    let read = place_read records c.in_ok-place.place c.args.region.now.value c.index_mut.result.now (rw (← c.self.view_is) at c.in_ok-place.ensures.place) c.index_mut.ensures.value in
    listed_set c.self.inside.anchors records c.in_ok-place.place c.index_mut.result.now c.reserve-2.new.self c.self.invariant read.1 c.reserve-2.ensures.region

pub returns-clause-records : goal.returns-clause-records
returns-clause-records c =
    let records = c.self.inside.records.items in
    let read = place_read records c.in_ok-place.place c.args.region.now.value c.index_mut.result.now (rw (← c.self.view_is) at c.in_ok-place.ensures.place) c.index_mut.ensures.value in
    kept_trans c.args.self.now.records records _ (rw (← c.self.view_is) at c.place_for.ensures.records)
    (kept_set records c.in_ok-place.place c.index_mut.result.now c.reserve-2.new.self read.0 (sym c.index_mut.ensures.value) c.reserve-2.ensures.region c.reserve-2.ensures.flushes)

pub returns-clause-place : goal.returns-clause-place
returns-clause-place c =
    let records = c.self.inside.records.items in
    let read = place_read records c.in_ok-place.place c.args.region.now.value c.index_mut.result.now (rw (← c.self.view_is) at c.in_ok-place.ensures.place) c.index_mut.ensures.value in
    ap (option_map (λ (r : RecordOf). r.region)) (set_at records c.in_ok-place.place c.index_mut.result.now c.reserve-2.new.self read.1)
    ∙ ap Some (c.reserve-2.ensures.region ∙ read.2)

pub returns-clause-room : goal.returns-clause-room
returns-clause-room c =
    let records = c.self.inside.records.items in
    let read = place_read records c.in_ok-place.place c.args.region.now.value c.index_mut.result.now (rw (← c.self.view_is) at c.in_ok-place.ensures.place) c.index_mut.ensures.value in
    (c.reserve-2.new.self, set_at records c.in_ok-place.place c.index_mut.result.now c.reserve-2.new.self read.1, c.in_ok-reserve-2.ensures.room)
