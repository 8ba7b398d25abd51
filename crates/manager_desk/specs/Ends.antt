-- How the loads of a look are ended, and what an ask adds to a manager's history.
use Rattle.std.specs.Prelude.{ℕ, ◌≡◌, ◌≤◌, ◌⊎◌, ⊤, List, [], ◌∷◌, ◌++◌, Bool, true, false, map}
use Rattle.olap_meaning.specs.declared.cells.Cell.{Cell}
use Rattle.olap_meaning.specs.declared.cells.Header.{Header}
use Rattle.olap_meaning.specs.declared.cells.Who.{Who}
use Rattle.olap_meaning.specs.Budget.{kept_groups}
use Rattle.olap_meaning.specs.Covering.{among}
use Rattle.olap_meaning.specs.History.{Entry, Done, Drop, Evict, Answer, flying}
use Rattle.segment_load.specs.Loads.{JobOf}
use Rattle.history_core.specs.Answers.{IsAnswer}
use Rattle.history_core.specs.Cache.{CacheOf}
use Rattle.history_core.specs.declared.answers.Answer.{Answer as Told}
use Rattle.line_session.specs.Desks.{AreHeadersOf, AreLoadsEnded, delivered_with, drops_are_last, with_more}
use Rattle.segment_header.specs.Widening.{Allowing}

-- the entry that ends a job: its load was delivered, or given up
abbrev pub end_of : JobOf → Bool → Entry
end_of job true = Done job.who job.load
end_of job false = Drop job.who job.load

-- the entry that delivers the load of a job
abbrev pub done_of : JobOf → Entry
done_of job = Done job.who job.load

-- each load that flies is that of one of some jobs
abbrev pub AreOut : List Entry → List JobOf → Type 0
AreOut entries jobs =
    (j : ℕ) → flying entries j ≡ true → among (map (λ job. job.load) jobs) j ≡ true

-- AreEndsOf jobs entries: the loads of these jobs are ended, each in its turn: delivered, or given up
abbrev pub AreEndsOf : List JobOf → List Entry → Type 0
AreEndsOf [] [] = ⊤
AreEndsOf (job ∷ jobs) (entry ∷ entries) =
    ((entry ≡ Done job.who job.load) ⊎ (entry ≡ Drop job.who job.load)) × AreEndsOf jobs entries
AreEndsOf jobs entries = ⊥

-- a history goes on by the ends of some jobs, and by nothing else; after one that was given up the rest are
pub record EndsJobs (before after : List Entry) (jobs : List JobOf) : Type 0 where
  pub ends : List Entry
  pub are : AreEndsOf jobs ends
  pub given_up : drops_are_last ends ≡ true
  pub entries : after ≡ before ++ ends

-- the loads that some cells lack were delivered, and then the cells were answered, with the sources that the answer
-- tells; after the answer there are evictions alone, after which the kept loads have no more groups than the budget
pub record AddsAnswer (allowing : Allowing) (before after : CacheOf) (who : Who) (cells : List Cell)
    (answer : Told) : Type 0 where
  pub headers : List Header
  pub allowed : AreHeadersOf allowing before cells headers
  pub evicted : List ℕ
  pub setting : after.setting ≡ before.setting
  pub entries : after.entries
      ≡ (before.entries ++ delivered_with before who cells headers)
      ++ Answer who answer.sources.value ∷ map Evict evicted
  pub within : kept_groups after.setting.catalog after.entries ≤ after.setting.budget
  pub answered : IsAnswer (with_more before (delivered_with before who cells headers)) cells answer

-- nothing was added, or the loads that some cells lack were started and ended; after one that was given up the rest were
pub record AddsEnded (allowing : Allowing) (before after : CacheOf) (who : Who)
    (cells : List Cell) : Type 0 where
  pub more : List Entry
  pub setting : after.setting ≡ before.setting
  pub entries : after.entries ≡ before.entries ++ more
  pub ended : AreLoadsEnded allowing before who cells more
  pub given_up : drops_are_last more ≡ true
