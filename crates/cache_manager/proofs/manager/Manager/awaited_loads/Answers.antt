-- The loads are sorted, each once.
use Rattle.std.proofs.Common.{◌∙◌, ap, nat_eq, List, ℕ}
use Rattle.std.proofs.lemmas.List.Filters.{dedup_is}
use Rattle.olap_meaning.specs.Covering.{among}
use Rattle.olap_meaning.specs.Legal.{rise}
use Rattle.cell_groups.proofs.ValueFacts.{once_rise, once_same}
use Rattle.cache_manager.proofs.manager.Manager.awaited_loads.Goals as goal

pub returns-clause-rising : goal.returns-clause-rising
returns-clause-rising c =
    ap rise c.from_vec.ensures
    ∙ once_rise c.sort_unstable.new.self.items c.dedup.new.self.items c.sort_unstable.ensures.sorted (dedup_is nat_eq c.sort_unstable.new.self.items c.dedup.new.self.items c.dedup.ensures.filtered)

pub returns-clause-own : goal.returns-clause-own
returns-clause-own c load =
    ap (λ (loads : List ℕ). among loads load) c.from_vec.ensures
    ∙ once_same c.in_ok-found.found.items c.sort_unstable.new.self.items c.dedup.new.self.items c.sort_unstable.ensures.permutation (dedup_is nat_eq c.sort_unstable.new.self.items c.dedup.new.self.items c.dedup.ensures.filtered) load
    ∙ ap (λ (loads : List ℕ). among loads load) c.in_ok-found.ensures
