-- The records tell of one flush more.
use Rattle.std.proofs.Common.{◌≡◌, ◌∙◌, ◌+◌, ◌++◌, ◌∷◌, [], ℕ, List, Option, Some, ap, sym, subst, arith, length, set}
use Rattle.std.proofs.lemmas.List.{length_push}
use Rattle.std.proofs.lemmas.Option.{get_or_from_slice_get, slice_get_within}
use Rattle.olap_meaning.specs.declared.regions.Region.{Region}
use Rattle.cache_flush.specs.Records.{AreRecordsOf, AreWithin, RecordOf, region_at, region_ready}
use Rattle.cache_flush.proofs.Recording.{at_region, records_more, within_more}
use Rattle.cache_flush.proofs.shut.Shut.add.Goals as goal

pub invariant_of-self : goal.invariant_of-self
invariant_of-self c =
    let (many, are, within, ready) = c.self.invariant in
    let records = c.self.inside.ledger.records in
    let regions = c.self.inside.flushed.items in
    let place = c.in-Some.place in
    let here : region_at records place ≡ Some c.args.region.now = ap (λ (o : Option ℕ). region_ready o records) (sym c.in-Some.is) ∙ rw (← c.self.view_is) at c.requires.room in
    let (found, there, own) = at_region records place c.args.region.now here in
    let (item, added, at, set_is, region, flushes) = c.add.ensures in
    let same : found ≡ item = (let e : Some found ≡ Some item = sym there ∙ at in cc) in
    let of : item.region ≡ c.args.region.now = ap (λ (r : RecordOf). r.region) (sym same) ∙ own in
    let inside = slice_get_within records place item at in
    let read = get_or_from_slice_get records place item item at in
    let more : added.flushes ≡ item.flushes ++ (length regions + 1) ∷ [] = rw many at flushes in
    rw c.and-self-inside.ensures (
      (let l = length_push regions c.args.region.now in omega (arith, many, l)),
      subst (λ (rs : List RecordOf). AreRecordsOf (regions ++ c.args.region.now ∷ []) rs) (sym set_is)
          (subst (λ (r : Region). AreRecordsOf (regions ++ r ∷ []) (set records place added)) of
          (records_more regions records place item added inside read region more are)),
      subst (λ (rs : List RecordOf). AreWithin (c.self.inside.count + 1) rs) (sym set_is) (within_more records place c.self.inside.count item added inside read flushes within),
      tt,
    )
