-- What the objects in memory hold, and which of their calls are to fail.
use Rattle.std.specs.Prelude.{ℕ, ◌==◌, ◌+◌, ◌-◌, ◌^◌, List, Bool, true, Option, None, Some, nat_le, not, ◌&&◌, length, min, max, if◌then◌else◌}
use Rattle.std.specs.List.{list_any}
use Rattle.outside.specs.Event.{Event}
use Rattle.outside.specs.Fetched.{Fetched}

-- the number of the next call, from 0, and the numbers of those that are to fail
pub record Planned : Type 0 where
  pub next : ℕ
  pub failing : List ℕ

-- the next call is to fail
abbrev pub fails_next : Planned → Bool
fails_next plan = list_any (λ n. n == plan.next) plan.failing

-- the plan once one call more has come; the number of the next call stays within 64 bits
abbrev pub counted : Planned → Planned
counted plan = record { next = min (plan.next + 1) (2 ^ 64 - 1); failing = plan.failing }

-- what has passed of a sink in memory, its plan, and how many bytes it still takes
pub record Filled : Type 0 where
  pub talk : List Event
  pub plan : Planned
  pub room : ℕ

-- the plan lets the next write pass, and there is room for its bytes
abbrev pub lets_pass : Filled → List ℕ → Bool
lets_pass sink bytes = not (fails_next sink.plan) && nat_le (length bytes) sink.room

-- how many of so many bytes the next write takes: none where it is to fail
abbrev pub fits : Filled → ℕ → ℕ
fits sink size = if fails_next sink.plan then 0 else min size sink.room

-- what a source in memory has left, its plan, how many bytes it still gives, and how many one call gives at most,
-- where those are limited, and what has passed
pub record Supplied : Type 0 where
  pub left : List ℕ
  pub plan : Planned
  pub room : Option ℕ
  pub most : Option ℕ
  pub talk : List Event

-- there is room for so many bytes
abbrev pub has_room : Option ℕ → ℕ → Bool
has_room None size = true
has_room (Some room) size = nat_le size room

-- as many as this, or the limit where that is less
abbrev pub at_most : Option ℕ → ℕ → ℕ
at_most None size = size
at_most (Some limit) size = min limit size

-- how many of so many bytes one call gives: a limit of 0 counts as 1
abbrev pub in_one : Option ℕ → ℕ → ℕ
in_one None size = size
in_one (Some most) size = min size (max most 1)

-- how many bytes the next read into a piece of this size would give if its room had no end
abbrev pub wanted : Supplied → ℕ → ℕ
wanted source size = in_one source.most (min size (length source.left))

-- how many bytes the next read into a piece of this size gives, if it does not fail
abbrev pub given : Supplied → ℕ → ℕ
given source size = at_most source.room (wanted source size)

-- the plan lets the next read pass, and there is room for its first byte if it would give one
abbrev pub lets_read : Supplied → ℕ → Bool
lets_read source size =
    not (fails_next source.plan) && has_room source.room (min 1 (wanted source size))

-- what a depot in memory holds, its plan, and what it was asked for
pub record Stored : Type 0 where
  pub files : List (List ℕ × List ℕ)
  pub plan : Planned
  pub answers : List Fetched
