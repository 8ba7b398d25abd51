-- What holds at each turn of `count_touching`.
use Rattle.std.proofs.Common.{◌≡◌, take}
use Rattle.olap_meaning.specs.Covering.{region_touches}
use Rattle.cache_flush.specs.Records.{count_in}
use Rattle.cache_flush.proofs.ledger.count_touching.Given as goal

-- the records so far are counted
abbrev pub invariant-loop-record : goal.invariant-loop-record
invariant-loop-record l = l.count ≡ count_in (λ region. region_touches region l.header) l.place (take l.record-index l.records)
