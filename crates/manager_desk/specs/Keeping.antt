-- What a desk keeps of its manager's history.
use Rattle.std.specs.Prelude.{ℕ, ◌≡◌, ◌≤◌, ◌+◌, ◌*◌, ◌^◌, List, true, length}
use Rattle.olap_meaning.specs.History.{Entry}
use Rattle.olap_meaning.specs.Legal.{is_next_call}
use Rattle.history_core.specs.Seats.{NoneFlies}
use Rattle.olap_meaning.specs.declared.tables.Catalog.{Catalog}
use Rattle.manager_desk.specs.Delivered.{costs_delivered}

-- a number is what the loads cost that seat 1 has had delivered, and is small beside the history
pub record IsCount (catalog : Catalog) (entries : List Entry) (read : ℕ) : Type 0 where
  pub counted : read ≡ costs_delivered catalog 1 entries
  pub small : read ≤ 2 ^ 32 * length entries

-- what a desk keeps: no load flies, its next call is the next of seat 1, and what the delivered loads cost is counted
pub record IsDesk (catalog : Catalog) (entries : List Entry) (last read : ℕ) : Type 0 where
  pub idle : NoneFlies entries
  pub next : is_next_call entries (record { seat = 1; call = last + 1 }) ≡ true
  pub count : IsCount catalog entries read
