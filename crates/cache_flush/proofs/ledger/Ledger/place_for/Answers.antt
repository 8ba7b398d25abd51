-- A record without flushes more tells what the others told.
use Rattle.std.proofs.Common.{◌≡◌, ◌∙◌, ap, sym, subst, arith, length, List, Some}
use Rattle.cache_flush.specs.Records.{IsKept, RecordOf, region_at}
use Rattle.cache_flush.proofs.Recording.{kept_push, region_pushed}
use Rattle.cache_flush.proofs.ledger.Ledger.place_for.Goals as goal

pub returns-clause-records : goal.returns-clause-records
returns-clause-records c =
    let records = c.self.inside.records.items in
    rw (← c.self.view_is) (subst (λ (rs : List RecordOf). IsKept records rs) (sym c.in_ok-push.ensures.items) (kept_push records c.new.result (ap (λ (r : RecordOf). r.flushes) c.new.ensures)))

pub returns-clause-place : goal.returns-clause-place
returns-clause-place c =
    let records = c.self.inside.records.items in
    let last : c.len-place.result ≡ length records = omega (arith, c.len-place.ensures, c.as_slice.ensures.len) in
    let here : region_at c.push.new.self.items (length records) ≡ Some c.new.result.region =
    subst (λ (rs : List RecordOf). region_at rs (length records) ≡ Some c.new.result.region) (sym c.in_ok-push.ensures.items) (region_pushed records c.new.result) in
    ap (region_at c.push.new.self.items) last ∙ here ∙ ap Some (ap (λ (r : RecordOf). r.region) c.new.ensures ∙ c.in_ok-try_clone.ensures)
