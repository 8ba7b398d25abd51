-- Jobs and deliveries of the loads in flight.
use Rattle.std.specs.Prelude.{ℕ, ◌≡◌, ◌∷◌, [], ◌&&◌, Bool, List, Some, false, true, length, not}
use Rattle.std.specs.List.{list_any}
use Rattle.olap_meaning.specs.declared.cells.Who.{Who}
use Rattle.olap_meaning.specs.Covering.{among}
use Rattle.olap_meaning.specs.History.{Load, ends, load_at, rows_of}
use Rattle.load_costs.specs.Costs.{cost, reads}
use Rattle.segment_body.specs.BodyOf.{BodyOf}
use Rattle.fact_reader.specs.BodyRows.{HoldsRows, rows_in}
use Rattle.segment_load.specs.Loads.{JobOf, job_cost}
use Rattle.history_core.specs.Cache.{CacheOf}
use Rattle.history_core.specs.Seats.{entries_of}

-- a load is one's own and flies, as far as one's own entries tell: it was started by this call, and no entry of the
-- seat ends it
pub record IsOwn (cache : CacheOf) (who : Who) (j : ℕ) (load : Load) : Type 0 where
  pub started : load_at cache.entries j ≡ Some load
  pub own : load.who ≡ who
  pub unended : list_any (ends j) (entries_of cache.entries who.seat) ≡ false

-- what a load has come to: its number, the call that it is for, and its body
pub record DeliveryOf : Type 0 where
  pub load : ℕ
  pub who : Who
  pub body : BodyOf

-- some own load of this number flies
abbrev pub IsOwnLoad : CacheOf → Who → ℕ → Type 0
IsOwnLoad cache who j = (load : Load) × IsOwn cache who j load

-- a body is that of an own load that flies: it holds the rows of its version that its header allows
pub record IsOwnBody (cache : CacheOf) (who : Who) (j : ℕ) (body : BodyOf) : Type 0 where
  pub load : Load
  pub flies : IsOwn cache who j load
  pub holds : HoldsRows cache.setting.catalog load.header
      (rows_of cache.entries load.header.cube load.version) body

-- a job is that of a load of the cache: by its number, of its header, over its version and the rows of this; it reads the
-- cheapest of the facts and the tables that were built before its Start, at the load's cost
pub record IsJobOf (cache : CacheOf) (job : JobOf) : Type 0 where
  pub load : Load
  pub catalog : job.catalog ≡ cache.setting.catalog
  pub flies : IsOwn cache job.who job.load load
  pub header : job.header ≡ load.header
  pub rows : rows_in job.snapshot ≡ rows_of cache.entries load.header.cube load.version
  pub version : length job.snapshot ≡ load.version
  pub read : job.read ≡ reads cache.setting.catalog cache.entries job.load
  pub costs : job_cost job ≡ cost cache.setting.catalog cache.entries job.load

-- numbers that are all different
abbrev pub apart : List ℕ → Bool
apart [] = true
apart (n ∷ ns) = not (among ns n) && apart ns
