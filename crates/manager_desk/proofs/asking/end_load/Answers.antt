-- The count goes on by what a load cost that is delivered, and by nothing else; and what a job has come to may be delivered.
use Rattle.std.proofs.Common.{ℕ, ◌+◌, ◌++◌, ◌∷◌, [], ◌∙◌, ap, refl, subst, sym, arith}
use Rattle.olap_meaning.specs.declared.cells.Who.{Who}
use Rattle.olap_meaning.specs.History.{Done, Drop}
use Rattle.manager_desk.specs.Keeping.{IsCount}
use Rattle.manager_desk.proofs.Counting.{count_done, count_one}
use Rattle.manager_desk.proofs.asking.end_load.Goals as goal

pub returns-then-not-run-clause-count : goal.returns-then-not-run-clause-count
returns-then-not-run-clause-count g c = count_one c.args.manager.now.setting c.args.manager.now.entries c.abandon.new.self.entries (Drop c.args.job.who c.args.job.load) c.args.read.now c.steps_are_legal.ensures refl c.abandon.ensures.entry c.requires.count

pub returns-in-Ok-clause-count : goal.returns-in-Ok-clause-count
returns-in-Ok-clause-count g c =
    subst (λ (cost : ℕ). IsCount c.args.manager.now.setting.catalog c.deliver.new.self.entries (c.args.read.now + cost)) (sym (c.from.ensures ∙ c.cost-cost.ensures.steps))
    (count_done c.args.manager.now c.deliver.new.self c.args.job c.args.read.now c.steps_are_legal.ensures c.requires.job c.requires.seat (omega (arith, c.cost-cost.ensures.least, c.cost-cost.ensures.bound))
    (c.deliver.ensures.entry ∙ ap (λ (who : Who). c.args.manager.now.entries ++ Done who c.in-Ok.delivery.load ∷ []) c.in-Ok.ensures.who ∙ ap (λ (load : ℕ). c.args.manager.now.entries ++ Done c.args.job.who load ∷ []) c.in-Ok.ensures.load) c.requires.count)

pub returns-in-Err-clause-count : goal.returns-in-Err-clause-count
returns-in-Err-clause-count g c =
    count_one c.args.manager.now.setting c.args.manager.now.entries c.abandon-in-Err.new.self.entries (Drop c.in-Err.back.who c.in-Err.back.load) c.args.read.now c.steps_are_legal.ensures refl c.abandon-in-Err.ensures.entry c.requires.count

pub deliver-requires : goal.deliver-requires
deliver-requires g c = record { own = rw (c.in-Ok.ensures.who, c.in-Ok.ensures.load) (c.own_bodies.ensures c.args.manager.now c.args.job c.in-Ok.delivery.body c.requires.job c.in-Ok.ensures.body) }
