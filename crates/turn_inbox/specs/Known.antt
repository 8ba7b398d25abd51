-- What contracts see of an inbox, a seat, a note and a turn.
use Rattle.std.specs.Prelude.{ℕ, List, Option, None, Some, IsSome}
use Rattle.std.proofs.Common.{sym, true≢false}
use Rattle.atomic_table.specs.Seated.{TableId}

-- an inbox: what tells it from every other one, the basis of its history, and how many seats it has
pub record Identity (G : Type 0) : Type 0 where
  pub table : TableId
  pub basis : G
  pub seats : ℕ

pub record Opened (G : Type 0) : Type 0 where
  -- how many seats there are; their numbers are those from 1 on
  pub seats : ℕ
  pub inbox : Identity G

pub record Known (E G : Type 0) : Type 0 where
  pub number : ℕ
  -- the beginning of the history that the seat has seen
  pub seen : List E
  -- the lengths that were loaded for it, in their order: `front` answers the one that it loads, and that of `learn` is told to nobody
  pub looks : List ℕ
  pub inbox : Identity G

pub record Noted (E G : Type 0) : Type 0 where
  pub seen : List E
  pub inbox : Identity G

-- a seat with the turn, and the value as it is now; seen is the value's list as it was when the turn was taken
pub record Held (X E G : Type 0) : Type 0 where
  pub value : X
  pub number : ℕ
  pub seen : List E
  pub looks : List ℕ
  pub inbox : Identity G

-- the value of an option that has one
abbrev pub sure : {G : Type 0} → (o : Option G) → IsSome o → G
sure (Some g) some = g
sure None some = absurd (true≢false (sym some))
