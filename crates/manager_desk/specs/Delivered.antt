-- What the loads of a seat that were delivered have cost.
use Rattle.std.specs.Prelude.{ℕ, ◌==◌, List, sum_by, if◌then◌else◌}
use Rattle.olap_meaning.specs.declared.tables.Catalog.{Catalog}
use Rattle.olap_meaning.specs.History.{Entry, Done}
use Rattle.load_costs.specs.Costs.{cost}

-- what the load cost that an entry delivers, where it is a seat's
abbrev pub cost_by : Catalog → List Entry → ℕ → Entry → ℕ
cost_by catalog history seat (Done who load) =
    if who.seat == seat then cost catalog history load else 0
cost_by catalog history seat _ = 0

-- what all the loads cost that a seat has delivered
abbrev pub costs_delivered : Catalog → ℕ → List Entry → ℕ
costs_delivered catalog seat history = sum_by (cost_by catalog history seat) history
